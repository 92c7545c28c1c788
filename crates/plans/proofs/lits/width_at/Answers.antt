use Rattle.std.proofs.Common.{arith}
use Rattle.places.proofs.Spots.{two-there}
use Rattle.places.proofs.Rows.{lead-spot}
use Rattle.plans.proofs.TreePlans.{three-there}
use Rattle.plans.proofs.LitPlans.{width-atom, width-other, width-first, width-second, width-unnamed, width-named}
use Rattle.plans.proofs.lits.width_at.Goals as goal
use Rattle.plans.proofs.lits.width_at.Goals.{then-tree-at-ne-LIST-via-then-tree-at-ne-LIST, then-tree-at-ne-LIST-via-else-tree-at-ne-LIST+then-tree-at-ne2}

pub offset_bounds-tree-at : goal.offset_bounds-tree-at
offset_bounds-tree-at c = omega (arith, two-there c.requires)

pub bounds-tree-at : goal.bounds-tree-at
bounds-tree-at c = omega (arith, two-there c.requires)

pub bounds-tree-at-else-tree-at-ne-LIST : goal.bounds-tree-at-else-tree-at-ne-LIST
bounds-tree-at-else-tree-at-ne-LIST c = omega (arith, two-there c.requires)

pub returns-then-tree-at-ne-LIST : goal.returns-then-tree-at-ne-LIST
returns-then-tree-at-ne-LIST c p = elim c.then-tree-at-ne-LIST.branch [ then-tree-at-ne-LIST-via-then-tree-at-ne-LIST w ↦ width-atom _ p w.if-tree-at-ne-LIST.true | then-tree-at-ne-LIST-via-else-tree-at-ne-LIST+then-tree-at-ne2 w ↦ width-other _ p w.if-tree-at-ne-LIST.false w.if-tree-at-ne2.true ]

pub words_at-requires : goal.words_at-requires
words_at-requires c = lead-spot (width-first c.args.text.now c.requires c.if-tree-at-ne-LIST.false c.if-tree-at-ne2.false)

pub overflow_add-size-2 : goal.overflow_add-size-2
overflow_add-size-2 c = omega (arith, two-there (lead-spot (width-second c.args.text.now c.requires c.if-tree-at-ne-LIST.false c.if-tree-at-ne2.false (c.words_at.ensures (lead-spot (width-first c.args.text.now c.requires c.if-tree-at-ne-LIST.false c.if-tree-at-ne2.false))))))

pub offset_bounds-tree-size : goal.offset_bounds-tree-size
offset_bounds-tree-size c = omega (arith, two-there (lead-spot (width-second c.args.text.now c.requires c.if-tree-at-ne-LIST.false c.if-tree-at-ne2.false (c.words_at.ensures (lead-spot (width-first c.args.text.now c.requires c.if-tree-at-ne-LIST.false c.if-tree-at-ne2.false))))))

pub bounds-tree-size : goal.bounds-tree-size
bounds-tree-size c = omega (arith, two-there (lead-spot (width-second c.args.text.now c.requires c.if-tree-at-ne-LIST.false c.if-tree-at-ne2.false (c.words_at.ensures (lead-spot (width-first c.args.text.now c.requires c.if-tree-at-ne-LIST.false c.if-tree-at-ne2.false))))))

pub returns-then-tree-size-ne-SYMBOL : goal.returns-then-tree-size-ne-SYMBOL
returns-then-tree-size-ne-SYMBOL c p = width-unnamed _ p c.if-tree-at-ne-LIST.false c.if-tree-at-ne2.false (c.words_at.ensures (lead-spot (width-first c.args.text.now (p) c.if-tree-at-ne-LIST.false c.if-tree-at-ne2.false))) c.if-tree-size-ne-SYMBOL.true

pub bounds-tree-size-2 : goal.bounds-tree-size-2
bounds-tree-size-2 c = omega (arith, two-there (lead-spot (width-second c.args.text.now c.requires c.if-tree-at-ne-LIST.false c.if-tree-at-ne2.false (c.words_at.ensures (lead-spot (width-first c.args.text.now c.requires c.if-tree-at-ne-LIST.false c.if-tree-at-ne2.false))))))

pub bounds-tree-size-3 : goal.bounds-tree-size-3
bounds-tree-size-3 c = omega (arith, three-there (lead-spot (width-second c.args.text.now c.requires c.if-tree-at-ne-LIST.false c.if-tree-at-ne2.false (c.words_at.ensures (lead-spot (width-first c.args.text.now c.requires c.if-tree-at-ne-LIST.false c.if-tree-at-ne2.false))))) (λ e. omega (arith, c.if-tree-size-ne-SYMBOL.false)))

pub returns : goal.returns
returns c p = width-named _ p c.if-tree-at-ne-LIST.false c.if-tree-at-ne2.false (c.words_at.ensures (lead-spot (width-first c.args.text.now (p) c.if-tree-at-ne-LIST.false c.if-tree-at-ne2.false))) c.size_named.result c.if-tree-size-ne-SYMBOL.false c.bytes.ensures c.size_named.ensures
