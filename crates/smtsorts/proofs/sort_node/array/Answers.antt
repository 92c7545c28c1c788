use mathlib.Core.Path.{refl}
use Rattle.smtnames.proofs.Tells.{put, gone, put_as, gone_as, put-told, gone-told}
use Rattle.smtsorts.proofs.SortNodes.{array_two, array_other}
use Rattle.smtsorts.proofs.sort_node.array.Goals as goal

pub returns-then-n-eq2 : goal.returns-then-n-eq2
returns-then-n-eq2 c = put-told (put_as (array_two _ c.if-n-eq2.true) (put c.bytes.ensures))

pub returns : goal.returns
returns c = gone-told (gone_as (array_other _ c.if-n-eq2.false) (gone refl refl))
