use mathlib.Core.Path.{sym, ◌∙◌}
use native.Mathlib.Omega.{arith}
use Rattle.reading.specs.Utf8.{utf8}
use Rattle.lexing.proofs.Lexing.WellFormed.{formed-end, ascii-formed}
use Rattle.lexing.proofs.utf8.is_utf8.Goals as goal

pub returns-then-is_ascii : goal.returns-then-is_ascii
unfolding utf8
returns-then-is_ascii c = ascii-formed _ (sym c.is_ascii.ensures ∙ c.if-is_ascii.true)

pub loop-i-init : goal.loop-i-init
loop-i-init c = (c.ascii_end-i.ensures.2, c.ascii_end-i.ensures.0)

pub returns : goal.returns
unfolding utf8
returns c = sym (c.loop-i.invariant.1 ∙ formed-end _ c.loop-i.i _ (omega arith))

pub returns-in_default : goal.returns-in_default
unfolding utf8
returns-in_default c = sym (c.loop-i.invariant.1 ∙ c.in_default.ensures)
