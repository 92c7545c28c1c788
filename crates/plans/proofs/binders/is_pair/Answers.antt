use Rattle.std.proofs.Common.{arith}
use Rattle.places.proofs.Spots.{two-there}
use Rattle.plans.proofs.BinderPairs.{pair-atom, pair-count, pair-there, pair-name}
use Rattle.plans.proofs.binders.is_pair.Goals as goal
use Rattle.plans.proofs.binders.is_pair.Goals.{then-tree-at-ne-LIST-via-then-tree-at-ne-LIST, then-tree-at-ne-LIST-via-else-tree-at-ne-LIST+then-tree-at-ne2}

pub offset_bounds-tree-at : goal.offset_bounds-tree-at
offset_bounds-tree-at c = omega (arith, two-there c.requires)

pub bounds-tree-at : goal.bounds-tree-at
bounds-tree-at c = omega (arith, two-there c.requires)

pub bounds-tree-at-else-tree-at-ne-LIST : goal.bounds-tree-at-else-tree-at-ne-LIST
bounds-tree-at-else-tree-at-ne-LIST c = omega (arith, two-there c.requires)

pub returns-then-tree-at-ne-LIST : goal.returns-then-tree-at-ne-LIST
returns-then-tree-at-ne-LIST c p = elim c.then-tree-at-ne-LIST.branch [ then-tree-at-ne-LIST-via-then-tree-at-ne-LIST w ↦ pair-atom p w.if-tree-at-ne-LIST.true | then-tree-at-ne-LIST-via-else-tree-at-ne-LIST+then-tree-at-ne2 w ↦ pair-count p w.if-tree-at-ne-LIST.false w.if-tree-at-ne2.true ]

pub bounds-tree-at-2 : goal.bounds-tree-at-2
bounds-tree-at-2 c = omega (arith, pair-there c.requires c.if-tree-at-ne-LIST.false c.if-tree-at-ne2.false)

pub returns : goal.returns
returns c p = pair-name p c.if-tree-at-ne-LIST.false c.if-tree-at-ne2.false
