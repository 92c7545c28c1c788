use mathlib.Core.Bool.{true, false}
use mathlib.Core.Path.{refl, sym, ◌∙◌}
use native.Mathlib.Omega.{arith}
use borrow.Author.Tests.{eq-eqb, ne_eqb}
use Rattle.std.specs.Prelude.{Some, None}
use Rattle.reading.specs.Number.{signed}
use Rattle.lexing.proofs.Lexing.Signs.{integer-none, integer-some}
use Rattle.lexing.proofs.integer.integer.Goals as goal

pub returns-in_default : goal.returns-in_default
returns-in_default c = integer-none _ (omega arith)

pub returns-in_err-q : goal.returns-in_err-q
unfolding signed
returns-in_err-q c = c.from_residual.ensures ∙ integer-some _ _ None _ c.sign_bytes.ensures.0 c.in_err-q.ensures refl refl

pub returns-then-first-eq45 : goal.returns-then-first-eq45
returns-then-first-eq45 c = integer-some _ _ (Some c.in_ok-q.q) true c.sign_bytes.ensures.0 c.in_ok-q.ensures (sym (eq-eqb _ 45 c.if-first-eq45.true)) c.negative.ensures

pub returns-else-first-eq45 : goal.returns-else-first-eq45
returns-else-first-eq45 c = integer-some _ _ (Some c.in_ok-q.q) false c.sign_bytes.ensures.0 c.in_ok-q.ensures (sym (ne_eqb _ 45 c.if-first-eq45.false)) c.positive.ensures
