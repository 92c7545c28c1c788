use Prim.Native.Nat.{ℕ}
use mathlib.Core.Path.{ap, ◌∙◌}
use lib.ListN.{replicate}
use Rattle.parse.proofs.solution.solution_draft.Goals as goal

pub returns : goal.returns
returns c = let a = c.attempt-answer.ensures in record { answer = a.answer; working = c.clear.ensures ∙ ap (λ (m : ℕ). replicate m 0) c.attempt-answer.auto.tree; body = a.body; params = a.params }
