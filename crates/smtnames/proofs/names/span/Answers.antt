use mathlib.Core.Path.{refl, sym, ◌∙◌}
use Rattle.smtnames.proofs.Tells.{put, gone, put_as, gone_as, put-told, gone-told}
use Rattle.smtnames.proofs.NamePieces.{bytes_good, bytes-bad}
use Rattle.smtnames.proofs.names.span.Goals as goal

pub returns-then-all_writable : goal.returns-then-all_writable
returns-then-all_writable c = put-told (put_as (bytes_good _ _ c.bytes-spelled.ensures (sym c.all_writable.ensures ∙ c.if-all_writable.true)) (put c.bytes.ensures))

pub returns : goal.returns
returns c = gone-told (gone_as (bytes-bad _ _ c.bytes-spelled.ensures (sym c.all_writable.ensures ∙ c.if-all_writable.false)) (gone refl refl))
