use mathlib.Core.Path.{ap}
use Rattle.std.proofs.Common.{◌≡◌, rules}
use Rattle.reading.specs.Bytes.{nothing, just, lookup}
use Rattle.words.specs.Spans.{as_span}
use Rattle.reading.proofs.Bytes.{lookup-here, lookup-later, lookup-none}
use Rattle.grammar.specs.Sort.{c_map}
use Rattle.grammar.specs.Names.{applied, two_sorts}
use Rattle.grammar.specs.ParseSort.{or_applied}
use Rattle.sorts.proofs.names.two_sorts.Goals as goal
use Rattle.sorts.proofs.names.two_sorts.Goals.{then-same-2-via-then-same-2, then-same-2-via-else-same-2+then-same-3}

pub returns-then-same : goal.returns-then-same
unfolding two_sorts
returns-then-same c = ap (or_applied (as_span c.args.name)) (lookup-here _ _ _ _ c.if-same.true c.same.ensures)

pub returns-then-same-2 : goal.returns-then-same-2
unfolding two_sorts
returns-then-same-2 c =
    let h : just (applied c_map) ≡ lookup two_sorts c.args.bytes.now = elim c.then-same-2.branch [ then-same-2-via-then-same-2 w ↦ search (rules, lookup-here, lookup-later) | then-same-2-via-else-same-2+then-same-3 w ↦ search (rules, lookup-here, lookup-later) ] in
    ap (or_applied (as_span c.args.name)) h

pub returns : goal.returns
unfolding two_sorts
returns c =
    let h : nothing ≡ lookup two_sorts c.args.bytes.now = search (rules, lookup-later, lookup-none) in
    ap (or_applied (as_span c.args.name)) h
