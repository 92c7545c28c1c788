use Prim.Native.Nat.{ℕ}
use mathlib.Core.Path.{ap, ◌∙◌}
use lib.ListN.{replicate}
use Rattle.words.specs.Answered.{answered}
use Rattle.parse.proofs.Ended.{closed}
use Rattle.parse.proofs.expression.expression.Goals as goal

pub returns : goal.returns
returns c = let a = c.attempt-answer.ensures in record { answer = ap answered c.close.ensures.answer ∙ a.answer; working = c.close.ensures.working ∙ ap (λ (m : ℕ). replicate m 0) c.attempt-answer.auto.tree; output = c.close.ensures.output ∙ closed a c.attempt-answer.auto.out }
