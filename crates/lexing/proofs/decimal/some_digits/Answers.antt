use mathlib.Core.Path.{ap, ◌∙◌}
use borrow.Author.Tests.{eq-eqb}
use mathlib.Core.Bool.{not}
use Rattle.lexing.proofs.Lexing.Decimals.{some-none, some-leading}
use Rattle.lexing.proofs.decimal.some_digits.Goals as goal

pub returns-then-t-ne0 : goal.returns-then-t-ne0
returns-then-t-ne0 c = some-leading _ _ c.leading_digits.ensures.0 c.if-t-ne0.true

pub returns-else-t-ne0 : goal.returns-else-t-ne0
returns-else-t-ne0 c = ap not (eq-eqb _ 0 c.if-t-ne0.false) ∙ some-none _ c.if-t-ne0.false
