use Prim.Native.Nat.{ℕ}
use mathlib.Core.Path.{refl, ap}
use native.Mathlib.Omega.{arith}
use lib.ListN.{length-take, replicate}
use Rattle.std.proofs.lemmas.Result.{err_from_is_err_and}
use Rattle.flatten.proofs.Decided.{made, body-within, solution-refused, solution-done, solution-full}
use Rattle.flatten.proofs.attempt_solution.Goals as goal

pub returns-in_err-made : goal.returns-in_err-made
returns-in_err-made c =
    let p = err_from_is_err_and c.from_residual.result c.from_residual.ensures.1 in
    rw (p.1, p.2) (record { answer = solution-refused _ _ _ _ _ c.in_err-made.ensures.answer; working = c.solution_draft.ensures.working; body = ap (λ (n : ℕ). replicate n 0) c.solution_draft.auto.draft })

pub slice_bounds-flat-end : goal.slice_bounds-flat-end
slice_bounds-flat-end c = body-within _ _ _ _ _ (made _ _ _ _ c.in_ok-made.ensures.answer) c.solution_draft.ensures.body

pub slice_bounds-flat-end-2 : goal.slice_bounds-flat-end-2
slice_bounds-flat-end-2 c = rw length-take (omega (arith, body-within _ _ _ _ _ (made _ _ _ _ c.in_ok-made.ensures.answer) c.solution_draft.ensures.body))

pub returns-then-out-end : goal.returns-then-out-end
returns-then-out-end c = record { answer = solution-full _ _ _ _ _ (made _ _ _ _ c.in_ok-made.ensures.answer) c.solution_draft.ensures.body _ c.solution_draft.ensures.params c.flat-end.ensures refl c.if-out-end.true; working = c.solution_draft.ensures.working; body = ap (λ (n : ℕ). replicate n 0) c.solution_draft.auto.draft }

pub returns : goal.returns
returns c = record { answer = solution-done _ _ _ _ _ (made _ _ _ _ c.in_ok-made.ensures.answer) c.solution_draft.ensures.body _ c.solution_draft.ensures.params c.flat-end.ensures refl c.if-out-end.false; working = c.solution_draft.ensures.working; body = ap (λ (n : ℕ). replicate n 0) c.solution_draft.auto.draft }
