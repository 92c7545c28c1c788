use Rattle.std.proofs.Common.{ap, ◌∙◌, arith}
use Rattle.reading.specs.Bytes.{ascii, same_bytes}
use Rattle.places.proofs.Spots.{two-there}
use Rattle.plans.proofs.Applied.{apply-other, apply-here, symbol-there}
use Rattle.plans.proofs.application.is_apply.Goals as goal

pub offset_bounds-tree-at : goal.offset_bounds-tree-at
offset_bounds-tree-at c = omega (arith, two-there c.requires)

pub bounds-tree-at : goal.bounds-tree-at
bounds-tree-at c = omega (arith, two-there c.requires)

pub returns-then-tree-at-ne-SYMBOL : goal.returns-then-tree-at-ne-SYMBOL
returns-then-tree-at-ne-SYMBOL c p = apply-other c.args.text.now p c.if-tree-at-ne-SYMBOL.true

pub bounds-tree-at-2 : goal.bounds-tree-at-2
bounds-tree-at-2 c = omega (arith, (symbol-there c.args.text.now c.requires c.if-tree-at-ne-SYMBOL.false))

pub bounds-tree-at-3 : goal.bounds-tree-at-3
bounds-tree-at-3 c = omega (arith, (symbol-there c.args.text.now c.requires c.if-tree-at-ne-SYMBOL.false))

pub returns : goal.returns
returns c p = c.same.ensures ∙ ap (λ l. same_bytes l (ascii "apply")) c.bytes.ensures ∙ apply-here c.args.text.now p c.if-tree-at-ne-SYMBOL.false
