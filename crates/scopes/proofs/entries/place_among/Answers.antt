use Rattle.std.proofs.Common.{◌-◌, sym, refl, ◌∙◌, arith}
use Rattle.scopes.proofs.ScopeNames.{PairAt, walk_start, walk_end, walk_pair, walk-hit, walk_more}
use Rattle.scopes.proofs.entries.place_among.Goals as goal
use Rattle.scopes.proofs.entries.place_among.Goals.{In-loop-i}

-- The pair that a turn of the loop reads.
pair : (c : In-loop-i) → PairAt c.args.tree.now c.loop-i.p (c.args.n - c.loop-i.i) (c.loop-i.invariant c.requires).left.names
pair c = walk_pair _ _ _ _ c.requires _ _ _ (c.loop-i.invariant c.requires) c.loop-i-test.true

pub loop-i-init : goal.loop-i-init
loop-i-init c = λ h. walk_start _ _ _ _ h _

pub overflow_add-other : goal.overflow_add-other
overflow_add-other c = omega (arith, (pair c).six)

pub offset_bounds-tree-p : goal.offset_bounds-tree-p
offset_bounds-tree-p c = omega (arith, (pair c).six)

pub bounds-tree-p : goal.bounds-tree-p
bounds-tree-p c = omega (arith, (pair (goal.at.bounds-tree-p c).In-loop-i).six)

pub overflow_add-other-in-loop-i : goal.overflow_add-other-in-loop-i
overflow_add-other-in-loop-i c = omega (arith, (pair (goal.at.overflow_add-other-in-loop-i c).In-loop-i).six)

pub offset_bounds-tree-p-in-loop-i : goal.offset_bounds-tree-p-in-loop-i
offset_bounds-tree-p-in-loop-i c = omega (arith, (pair (goal.at.offset_bounds-tree-p-in-loop-i c).In-loop-i).six)

pub bounds-tree-p-in-loop-i : goal.bounds-tree-p-in-loop-i
bounds-tree-p-in-loop-i c = omega (arith, (pair (goal.at.bounds-tree-p-in-loop-i c).In-loop-i).six)

pub overflow_add-p : goal.overflow_add-p
overflow_add-p c = omega (arith, (pair (goal.at.overflow_add-p c).In-loop-i).six)

pub offset_bounds-tree-p-in-loop-i-2 : goal.offset_bounds-tree-p-in-loop-i-2
offset_bounds-tree-p-in-loop-i-2 c = omega (arith, (pair (goal.at.offset_bounds-tree-p-in-loop-i-2 c).In-loop-i).six)

pub bounds-tree-p-in-loop-i-2 : goal.bounds-tree-p-in-loop-i-2
bounds-tree-p-in-loop-i-2 c = omega (arith, (pair (goal.at.bounds-tree-p-in-loop-i-2 c).In-loop-i).six)

pub overflow_add-p-in-loop-i-2 : goal.overflow_add-p-in-loop-i-2
overflow_add-p-in-loop-i-2 c = omega (arith, (pair (goal.at.overflow_add-p-in-loop-i-2 c).In-loop-i).fits)

pub returns-then-same_name : goal.returns-then-same_name
returns-then-same_name c h = walk-hit _ _ _ _ h _ _ _ (c.loop-i.invariant h) c.loop-i-test.true (sym c.same_name.ensures ∙ c.if-same_name.true)

pub loop-i-preserved : goal.loop-i-preserved
loop-i-preserved c = λ h. walk_more _ _ _ _ h _ _ _ (c.loop-i.invariant h) c.loop-i-test.true (sym c.same_name.ensures ∙ c.if-same_name.false) _ refl

pub returns : goal.returns
returns c h = walk_end _ _ _ _ h _ _ _ (c.loop-i.invariant h) (omega arith)
