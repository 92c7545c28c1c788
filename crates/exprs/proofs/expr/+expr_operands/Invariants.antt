use Rattle.scopes.specs.Scopes.{Kept}
use Rattle.exprs.proofs.Steps.{Going}
use Rattle.plans.specs.Plans.{Row}
use Rattle.std.proofs.Common.{◌≡◌, ◌+◌, ◌-◌, ◌*◌, length}
use Rattle.exprs.proofs.expr.+expr_operands.Given as goal

abbrev pub decreases-expr : goal.decreases-expr
decreases-expr l = 2 * (length l.tree.now - l.at)

abbrev pub decreases-operands : goal.decreases-operands
decreases-operands l = 2 * (length l.tree.now - l.at) + 1

abbrev pub invariant-operands-loop-i : goal.invariant-operands-loop-i
invariant-operands-loop-i l = (length l.out ≡ length l.initial.out) × (length l.scopes ≡ length l.initial.scopes) × (Kept l.initial.scopes l.scopes l.depth) × ((h : Row l.text l.tree l.at l.have l.initial.scopes l.depth l.w l.next) → Going l.text l.count l.tree l.at l.have l.want l.initial.scopes l.depth l.w l.next h l.initial.out l.out l.i l.p l.read.next l.read.words)
