use mathlib.Core.Path.{sym, ◌∙◌}
use Rattle.parse.proofs.Answered.{kept, cleared}
use Rattle.parse.proofs.sort.sort.Goals as goal

pub returns-then-is_err-clause-output : goal.returns-then-is_err-clause-output
returns-then-is_err-clause-output c = cleared _ c.attempt-answer.ensures (sym c.is_err.ensures.value ∙ c.if-is_err.true) c.attempt-answer.auto.out c.clear-then-is_err.ensures

pub returns-else-is_err-clause-output : goal.returns-else-is_err-clause-output
returns-else-is_err-clause-output c = kept _ c.attempt-answer.ensures (sym c.is_err.ensures.value ∙ c.if-is_err.false)
