use Rattle.std.proofs.Common.{◌-◌, sym, refl, ◌∙◌, arith}
use Rattle.scopes.proofs.ScopeNames.{PairAt, left-start, left_end, left-pair, left-rest, left-hit, left-more}
use Rattle.scopes.proofs.entries.twice.Goals as goal
use Rattle.scopes.proofs.entries.twice.Goals.{In-loop-i}

-- The pair that a turn of the loop reads.
pair : (c : In-loop-i) → PairAt c.args.tree.now c.loop-i.p (c.args.n - c.loop-i.i) (c.loop-i.invariant c.requires).left.names
pair c = left-pair _ _ _ _ _ _ (c.loop-i.invariant c.requires) c.loop-i-test.true

pub loop-i-init : goal.loop-i-init
loop-i-init c = λ b. left-start _ _ b.names _ b refl

pub overflow_add-name : goal.overflow_add-name
overflow_add-name c = omega (arith, (pair c).six)

pub offset_bounds-tree-p : goal.offset_bounds-tree-p
offset_bounds-tree-p c = omega (arith, (pair c).six)

pub bounds-tree-p : goal.bounds-tree-p
bounds-tree-p c = omega (arith, (pair (goal.at.bounds-tree-p c).In-loop-i).six)

pub overflow_add-name-in-loop-i : goal.overflow_add-name-in-loop-i
overflow_add-name-in-loop-i c = omega (arith, (pair (goal.at.overflow_add-name-in-loop-i c).In-loop-i).six)

pub offset_bounds-tree-p-in-loop-i : goal.offset_bounds-tree-p-in-loop-i
offset_bounds-tree-p-in-loop-i c = omega (arith, (pair (goal.at.offset_bounds-tree-p-in-loop-i c).In-loop-i).six)

pub bounds-tree-p-in-loop-i : goal.bounds-tree-p-in-loop-i
bounds-tree-p-in-loop-i c = omega (arith, (pair (goal.at.bounds-tree-p-in-loop-i c).In-loop-i).six)

pub overflow_add-p : goal.overflow_add-p
overflow_add-p c = omega (arith, (pair (goal.at.overflow_add-p c).In-loop-i).six)

pub offset_bounds-tree-p-in-loop-i-2 : goal.offset_bounds-tree-p-in-loop-i-2
offset_bounds-tree-p-in-loop-i-2 c = omega (arith, (pair (goal.at.offset_bounds-tree-p-in-loop-i-2 c).In-loop-i).six)

pub bounds-tree-p-in-loop-i-2 : goal.bounds-tree-p-in-loop-i-2
bounds-tree-p-in-loop-i-2 c = omega (arith, (pair (goal.at.bounds-tree-p-in-loop-i-2 c).In-loop-i).six)

pub overflow_add-p-in-loop-i-2 : goal.overflow_add-p-in-loop-i-2
overflow_add-p-in-loop-i-2 c = omega (arith, (pair (goal.at.overflow_add-p-in-loop-i-2 c).In-loop-i).fits)

pub place_among-requires : goal.place_among-requires
place_among-requires c = left-rest _ _ _ _ _ _ (c.loop-i.invariant c.requires) c.loop-i-test.true _ refl

pub returns-then-is_some : goal.returns-then-is_some
returns-then-is_some c b = left-hit _ _ _ _ _ _ (c.loop-i.invariant b) c.loop-i-test.true _ refl _ (c.place_among.ensures (left-rest _ _ _ _ _ _ (c.loop-i.invariant b) c.loop-i-test.true _ refl)) (sym c.is_some.ensures ∙ c.if-is_some.true)

pub loop-i-preserved : goal.loop-i-preserved
loop-i-preserved c = λ b. left-more _ _ _ _ _ _ (c.loop-i.invariant b) c.loop-i-test.true _ refl _ (c.place_among.ensures (left-rest _ _ _ _ _ _ (c.loop-i.invariant b) c.loop-i-test.true _ refl)) (sym c.is_some.ensures ∙ c.if-is_some.false)

pub returns : goal.returns
returns c b = left_end _ _ _ _ _ _ (c.loop-i.invariant b) (omega arith)
