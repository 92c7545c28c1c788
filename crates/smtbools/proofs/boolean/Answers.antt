use mathlib.Core.Path.{refl, sym, ap}
use Rattle.writing.proofs.Wrote.{wrote_as}
use Rattle.smtbools.specs.Bools.{bool_text}
use Rattle.smtbools.proofs.boolean.Goals as goal

-- src/operators.rt:57:9
pub returns-then-b : goal.returns-then-b
returns-then-b c = wrote_as (sym (ap bool_text c.if-b.true)) refl c.bytes.ensures

-- src/operators.rt:53:1
pub returns : goal.returns
returns c = wrote_as (sym (ap bool_text c.if-b.false)) refl c.bytes-2.ensures
