use mathlib.Core.Path.{ap}
use Rattle.words.specs.Spans.{as_span}
use Rattle.reading.proofs.Bytes.{lookup-here, lookup-later, lookup-none}
use Rattle.grammar.specs.Names.{one_sort}
use Rattle.grammar.specs.ParseSort.{or_applied}
use Rattle.sorts.proofs.names.one_sort.Goals as goal

pub returns-then-same : goal.returns-then-same
unfolding one_sort
returns-then-same c = ap (or_applied (as_span c.args.name)) (lookup-here _ _ _ _ c.if-same.true c.same.ensures)

pub returns-then-same-2 : goal.returns-then-same-2
unfolding one_sort
returns-then-same-2 c = ap (or_applied (as_span c.args.name)) (lookup-later _ _ _ _ c.if-same.false c.same.ensures (lookup-here _ _ _ _ c.if-same-2.true c.same-2.ensures))

pub returns : goal.returns
unfolding one_sort
returns c = ap (or_applied (as_span c.args.name)) (lookup-later _ _ _ _ c.if-same.false c.same.ensures (lookup-later _ _ _ _ c.if-same-2.false c.same-2.ensures (lookup-none _)))
