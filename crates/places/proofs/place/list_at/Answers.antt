use native.Mathlib.Omega.{arith}
use borrow.Author.Tests.{eq-eqb, ne_eqb}
use Rattle.reading.specs.Pick.{pick}
use Rattle.places.proofs.Spots.{two-there}
use Rattle.places.proofs.place.list_at.Goals as goal

pub offset_bounds-tree-at : goal.offset_bounds-tree-at
offset_bounds-tree-at c = omega (arith, two-there c.requires)

pub bounds-tree-at : goal.bounds-tree-at
bounds-tree-at c = omega (arith, two-there c.requires)

pub overflow_add-result : goal.overflow_add-result
overflow_add-result c = omega (arith, two-there c.requires)

pub offset_bounds-tree-at-2 : goal.offset_bounds-tree-at-2
offset_bounds-tree-at-2 c = omega (arith, two-there c.requires)

pub bounds-tree-at-2 : goal.bounds-tree-at-2
bounds-tree-at-2 c = omega (arith, two-there c.requires)

pub overflow_add-result-2 : goal.overflow_add-result-2
overflow_add-result-2 c = omega (arith, two-there c.requires)

pub returns-then-tree-at-ne-LIST : goal.returns-then-tree-at-ne-LIST
unfolding pick
returns-then-tree-at-ne-LIST c = rw (ne_eqb _ _ c.if-tree-at-ne-LIST.true)

pub returns : goal.returns
unfolding pick
returns c = rw (eq-eqb _ _ c.if-tree-at-ne-LIST.false)
