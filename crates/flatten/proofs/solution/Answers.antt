use mathlib.Core.Path.{ap, ◌∙◌}
use Rattle.words.specs.Answered.{answered}
use Rattle.parse.proofs.Ended.{closed}
use Rattle.flatten.proofs.solution.Goals as goal

pub returns : goal.returns
returns c = let a = c.attempt_solution-answer.ensures in
    let k = c.close.ensures in record { answer = ap answered k.answer ∙ a.answer.answer; working = a.working; body = k.working ∙ a.body; output = k.output ∙ closed a.answer c.attempt_solution-answer.auto.out }
