use native.Mathlib.Omega.{arith}
use borrow.Author.Rules.{rules}
use Rattle.places.proofs.Spots.{two-there}
use Rattle.binds.proofs.PredNames.{naming_end, naming_bad, naming_more, name-spot, name-room, symbol-there}
use Rattle.binds.proofs.preds.names.Goals as goal

pub offset_bounds-tree-p : goal.offset_bounds-tree-p
offset_bounds-tree-p c = omega (arith, two-there (name-spot (c.loop-i.invariant.1 c.requires) c.loop-i-test.true))

pub bounds-tree-p : goal.bounds-tree-p
bounds-tree-p c = omega (arith, two-there (name-spot (c.loop-i.invariant.1 c.requires) c.loop-i-test.true))

pub returns-then-tree-p-ne-SYMBOL : goal.returns-then-tree-p-ne-SYMBOL
returns-then-tree-p-ne-SYMBOL c h = naming_bad (c.loop-i.invariant.1 h) c.loop-i-test.true c.if-tree-p-ne-SYMBOL.true

pub bounds-tree-p-in-loop-i : goal.bounds-tree-p-in-loop-i
bounds-tree-p-in-loop-i c = omega (arith, symbol-there (name-spot (c.loop-i.invariant.1 c.requires) c.loop-i-test.true) c.if-tree-p-ne-SYMBOL.false)

pub bounds-tree-p-in-loop-i-2 : goal.bounds-tree-p-in-loop-i-2
bounds-tree-p-in-loop-i-2 c = omega (arith, symbol-there (name-spot (c.loop-i.invariant.1 c.requires) c.loop-i-test.true) c.if-tree-p-ne-SYMBOL.false)

pub put_name-v-requires : goal.put_name-v-requires
put_name-v-requires c = omega (arith, name-room (c.loop-i.invariant.1 c.requires) c.loop-i-test.true)

pub loop-i-preserved : goal.loop-i-preserved
loop-i-preserved c = (search (rules, c.loop-i.invariant.0), λ h. naming_more (c.loop-i.invariant.1 h) c.loop-i-test.true c.if-tree-p-ne-SYMBOL.false c.put_name-v.ensures)

pub returns : goal.returns
returns c h = naming_end (c.loop-i.invariant.1 h) (omega arith)
