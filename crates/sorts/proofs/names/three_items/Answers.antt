use mathlib.Core.Path.{ap}
use Rattle.words.specs.Spans.{as_span}
use Rattle.reading.proofs.Bytes.{lookup-here, lookup-later, lookup-none}
use Rattle.grammar.specs.Names.{three_items}
use Rattle.grammar.specs.ParseSort.{or_applied}
use Rattle.sorts.proofs.names.three_items.Goals as goal

pub returns-then-same : goal.returns-then-same
unfolding three_items
returns-then-same c = ap (or_applied (as_span c.args.name)) (lookup-here _ _ _ _ c.if-same.true c.same.ensures)

pub returns : goal.returns
unfolding three_items
returns c = ap (or_applied (as_span c.args.name)) (lookup-later _ _ _ _ c.if-same.false c.same.ensures (lookup-none _))
