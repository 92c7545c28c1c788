use mathlib.Core.Path.{sym, ◌∙◌}
use Rattle.parse.proofs.Answered.{kept, cleared}
use Rattle.flattening.specs.Operations.{flatten_out}
use Rattle.flatten.proofs.flatten.Goals as goal

pub returns-then-is_err-clause-output : goal.returns-then-is_err-clause-output
unfolding flatten_out
returns-then-is_err-clause-output c = cleared _ c.attempt-answer.ensures (sym c.is_err.ensures.value ∙ c.if-is_err.true) c.attempt-answer.auto.out c.clear.ensures

pub returns-else-is_err-clause-output : goal.returns-else-is_err-clause-output
unfolding flatten_out
returns-else-is_err-clause-output c = kept _ c.attempt-answer.ensures (sym c.is_err.ensures.value ∙ c.if-is_err.false)
