use mathlib.Core.Path.{refl}
use Rattle.writing.proofs.Wrote.{wrote_seq}
use Rattle.smtnames.proofs.Tells.{put, gone, put_as, gone_as, put-told, gone-told}
use Rattle.smtsorts.proofs.SortNodes.{width-none, width_some}
use Rattle.smtsorts.proofs.sort_node.bit_vec.Goals as goal

pub returns-then-width-eq0 : goal.returns-then-width-eq0
returns-then-width-eq0 c = gone-told (gone_as (width-none _ c.if-width-eq0.true) (gone refl refl))

pub returns : goal.returns
returns c = put-told (put_as (width_some _ c.if-width-eq0.false) (put (wrote_seq _ _ c.bytes-a.ensures (wrote_seq _ _ c.decimal_word-b.ensures c.byte.ensures))))
