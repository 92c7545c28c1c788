use mathlib.Core.Path.{sym, ◌∙◌}
use Rattle.smtlib.proofs.Whole.{done-out, refused-out}
use Rattle.smtlib.proofs.smtlib.Goals as goal

pub returns-then-is_err-clause-output : goal.returns-then-is_err-clause-output
returns-then-is_err-clause-output c = c.clear.ensures ∙ refused-out _ _ _ _ (sym c.is_err.ensures.value ∙ c.if-is_err.true) c.attempt-answer.ensures

pub returns-else-is_err-clause-output : goal.returns-else-is_err-clause-output
returns-else-is_err-clause-output c = done-out _ _ _ _ (sym c.is_err.ensures.value ∙ c.if-is_err.false) c.attempt-answer.ensures
