use mathlib.Core.Path.{sym, ◌∙◌}
use native.Mathlib.Omega.{arith}
use borrow.Author.Tests.{not-true, not-false}
use Rattle.sorts.proofs.NamedSorts.{index-not, index-long, index_bare, index-three, index_is}
use mathlib.Core.Path.{ap}
use mathlib.Core.Bool.{not}
use Rattle.sorts.proofs.names.index_named.Goals as goal

pub returns-then-not-begins_with : goal.returns-then-not-begins_with
returns-then-not-begins_with c = index-not _ (sym c.begins_with.ensures ∙ not-true _ (ap not c.if-not-begins_with.true))

pub overflow_sub-end : goal.overflow_sub-end
overflow_sub-end c = omega (arith, index-long c.args.name.now (sym c.begins_with.ensures ∙ not-false _ (ap not c.if-not-begins_with.false)))

pub bounds-name-end : goal.bounds-name-end
bounds-name-end c = omega (arith, index-long c.args.name.now (sym c.begins_with.ensures ∙ not-false _ (ap not c.if-not-begins_with.false)))

pub returns-then-name-end-ne41 : goal.returns-then-name-end-ne41
returns-then-name-end-ne41 c = index_bare _ (sym c.begins_with.ensures ∙ not-false _ (ap not c.if-not-begins_with.false)) c.if-name-end-ne41.true

pub slice_bounds-u64_of-count : goal.slice_bounds-u64_of-count
slice_bounds-u64_of-count c = omega (arith, index-three c.args.name.now (sym c.begins_with.ensures ∙ not-false _ (ap not c.if-not-begins_with.false)) c.if-name-end-ne41.false)

pub returns : goal.returns
returns c = index_is _ (sym c.begins_with.ensures ∙ not-false _ (ap not c.if-not-begins_with.false)) c.if-name-end-ne41.false c.u64_of.ensures

pub slice_bounds-u64_of-start : goal.slice_bounds-u64_of-start
slice_bounds-u64_of-start c = omega (arith, index-three c.args.name.now (sym c.begins_with.ensures ∙ not-false _ (ap not c.if-not-begins_with.false)) c.if-name-end-ne41.false)
