use Rattle.places.proofs.Spots.{two-there, list-there, in_start, in_atom_lem, in_many, in_one}
use native.Mathlib.Omega.{arith}
use Rattle.places.proofs.place.through.Goals as goal

pub loop-p-init : goal.loop-p-init
loop-p-init c = λ s. in_start _ _ _ s

pub offset_bounds-tree-p : goal.offset_bounds-tree-p
offset_bounds-tree-p c = omega (arith, two-there (c.loop-p.invariant c.requires).spot)

pub bounds-tree-p : goal.bounds-tree-p
bounds-tree-p c = omega (arith, two-there (c.loop-p.invariant c.requires).spot)

pub overflow_add-p : goal.overflow_add-p
overflow_add-p c = omega (arith, two-there (c.loop-p.invariant c.requires).spot)

pub offset_bounds-tree-p-in-loop-p : goal.offset_bounds-tree-p-in-loop-p
offset_bounds-tree-p-in-loop-p c = omega (arith, two-there (c.loop-p.invariant c.requires).spot)

pub bounds-tree-p-in-loop-p : goal.bounds-tree-p-in-loop-p
bounds-tree-p-in-loop-p c = omega (arith, two-there (c.loop-p.invariant c.requires).spot)

pub returns-else-tree-p-eq1 : goal.returns-else-tree-p-eq1
returns-else-tree-p-eq1 c s = in_many _ _ _ s _ (c.loop-p.invariant s) c.loop-p-test.true c.if-tree-p-eq1.false

pub overflow_add-p-in-loop-p : goal.overflow_add-p-in-loop-p
overflow_add-p-in-loop-p c = omega (arith, list-there (c.loop-p.invariant c.requires).spot c.loop-p-test.true)

pub loop-p-smaller : goal.loop-p-smaller
loop-p-smaller c = omega (arith, list-there (c.loop-p.invariant c.requires).spot c.loop-p-test.true)

pub loop-p-preserved : goal.loop-p-preserved
loop-p-preserved c = λ s. in_one _ _ _ s _ (c.loop-p.invariant s) c.loop-p-test.true c.if-tree-p-eq1.true

pub returns-after-loop-p : goal.returns-after-loop-p
returns-after-loop-p c s = in_atom_lem _ _ _ s _ (c.loop-p.invariant s) c.loop-p-test.false
