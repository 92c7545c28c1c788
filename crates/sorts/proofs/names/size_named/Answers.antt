use mathlib.Core.Path.{sym, ◌∙◌}
use native.Mathlib.Omega.{arith}
use borrow.Author.Tests.{not-true, not-false}
use Rattle.reading.specs.Bytes.{ascii}
use Rattle.reading.proofs.Bytes.{begins-length}
use Rattle.sorts.proofs.NamedSorts.{size-not, size_is}
use mathlib.Core.Path.{ap}
use mathlib.Core.Bool.{not}
use Rattle.sorts.proofs.names.size_named.Goals as goal

pub returns-then-not-begins_with : goal.returns-then-not-begins_with
returns-then-not-begins_with c = size-not _ (sym c.begins_with.ensures ∙ not-true _ (ap not c.if-not-begins_with.true))

pub slice_bounds-u32_of-count : goal.slice_bounds-u32_of-count
slice_bounds-u32_of-count c = omega (arith, begins-length (ascii "Size") c.args.name.now (sym c.begins_with.ensures ∙ not-false _ (ap not c.if-not-begins_with.false)))

pub returns : goal.returns
returns c = size_is _ (sym c.begins_with.ensures ∙ not-false _ (ap not c.if-not-begins_with.false)) c.u32_of.ensures

pub slice_bounds-u32_of-start : goal.slice_bounds-u32_of-start
slice_bounds-u32_of-start c = omega (arith, begins-length (ascii "Size") c.args.name.now (sym c.begins_with.ensures ∙ not-false _ (ap not c.if-not-begins_with.false)))
