use native.Mathlib.Omega.{arith}
use mathlib.Core.Path.{sym, ap, ◌∙◌}
use Prim.Native.Nat.{ℕ}
use Rattle.judging.specs.Judge.{binders_at}
use Rattle.judging.specs.Ends.{end_of}
use Rattle.judging.proofs.Exits.{exits}
use Rattle.sortwords.proofs.SortRead.{binders-done, binders-next, binders-two, binders-sort}
use Rattle.sortwords.proofs.binders_end.Goals as goal

pub loop-init : goal.loop-init
loop-init c = ap (λ (m : ℕ). end_of (binders_at c.args.limit m c.args.words.now c.args.at)) (omega arith)

pub returns-in_err-sort : goal.returns-in_err-sort
returns-in_err-sort c = exits _ _ c.from_residual.ensures (sym (c.loop.invariant ∙ binders-two _ _ _ _ (omega (arith, c.loop-test.true)) c.in_err-sort.ensures))

pub returns-in_err-a : goal.returns-in_err-a
returns-in_err-a c = exits _ _ c.from_residual-in_err-a.ensures (sym (c.loop.invariant ∙ binders-sort _ _ _ _ (omega (arith, c.loop-test.true)) c.in_ok-sort.ensures c.in_err-a.ensures))

pub loop-preserved : goal.loop-preserved
loop-preserved c = c.loop.invariant ∙ binders-next _ _ _ _ _ (omega (arith, c.loop-test.true)) c.in_ok-sort.ensures c.in_ok-a.ensures

pub returns : goal.returns
returns c = sym (c.loop.invariant ∙ binders-done _ _ _ _ (omega (arith, c.loop-test.false)))
