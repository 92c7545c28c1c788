use mathlib.Core.Path.{ap, ◌∙◌}
use Rattle.grammar.specs.ParseSort.{size_named}
use Rattle.sorts.proofs.NamedSorts.{size-other, size-short, size-told}
use Rattle.sorts.proofs.sorts.is_size.Goals as goal
use Rattle.sorts.proofs.sorts.is_size.Goals.{then-items-lt3-via-then-items-lt3, then-items-lt3-via-else-items-lt3+then-items-ne-SYMBOL}

pub returns-then-items-lt3 : goal.returns-then-items-lt3
returns-then-items-lt3 c ts e = elim c.then-items-lt3.branch [ then-items-lt3-via-then-items-lt3 w ↦ size-short _ ts e w.if-items-lt3.true | then-items-lt3-via-else-items-lt3+then-items-ne-SYMBOL w ↦ size-other _ ts e w.if-items-ne-SYMBOL.true ]

pub returns : goal.returns
returns c ts e = c.is_some.ensures ∙ size-told _ ts c.size_named.result e c.if-items-lt3.false c.if-items-ne-SYMBOL.false (c.size_named.ensures ∙ ap size_named c.bytes.ensures)
