use mathlib.Core.Path.{refl, sym, ◌∙◌}
use borrow.Author.Rules.{rules}
use Rattle.judging.proofs.Exits.{exits}
use Rattle.sortwords.proofs.SortWalk.{walk_start, walk-done, walk-short, walk-bad, walk-next}
use Rattle.sortwords.proofs.sort_end.Goals as goal

pub loop-pending-init : goal.loop-pending-init
loop-pending-init c = (walk_start _ _ _, search rules)

pub returns-then-left-pending : goal.returns-then-left-pending
returns-then-left-pending c = sym (c.loop-pending.invariant.0 ∙ walk-short _ _ _ _ _ c.if-left-pending.true)

pub returns-in_err-inside : goal.returns-in_err-inside
returns-in_err-inside c = exits _ _ c.from_residual.ensures (sym (c.loop-pending.invariant.0 ∙ walk-bad _ _ _ _ _ c.loop-pending-test.true c.if-left-pending.false c.in_err-inside.ensures))

pub loop-pending-preserved : goal.loop-pending-preserved
loop-pending-preserved c =
    (c.loop-pending.invariant.0 ∙ walk-next _ _ _ _ _ c.loop-pending-test.true c.if-left-pending.false refl c.in_ok-inside.ensures, search rules)

pub returns : goal.returns
returns c = sym (c.loop-pending.invariant.0 ∙ walk-done _ _ _ _ _ c.loop-pending-test.false)
