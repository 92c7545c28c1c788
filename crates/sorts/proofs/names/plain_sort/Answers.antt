use Rattle.std.proofs.Common.{rules}
use Rattle.reading.proofs.Bytes.{lookup-here, lookup-later, lookup-none}
use Rattle.grammar.specs.Names.{plain_sorts}
use Rattle.sorts.proofs.names.plain_sort.Goals as goal
use Rattle.sorts.proofs.names.plain_sort.Goals.{then-same-via-then-same, then-same-via-else-same+then-same-2, then-same-3-via-then-same-3, then-same-3-via-else-same-3+then-same-4, then-same-5-via-then-same-5, then-same-5-via-else-same-5+then-same-6, then-same-7-via-then-same-7, then-same-7-via-else-same-7+then-same-8}

pub returns-then-same : goal.returns-then-same
unfolding plain_sorts
returns-then-same c = elim c.then-same.branch [ then-same-via-then-same w ↦ search (rules, lookup-here, lookup-later) depth 12 | then-same-via-else-same+then-same-2 w ↦ search (rules, lookup-here, lookup-later) depth 12 ]

pub returns-then-same-3 : goal.returns-then-same-3
unfolding plain_sorts
returns-then-same-3 c = elim c.then-same-3.branch [ then-same-3-via-then-same-3 w ↦ search (rules, lookup-here, lookup-later) depth 12 | then-same-3-via-else-same-3+then-same-4 w ↦ search (rules, lookup-here, lookup-later) depth 12 ]

pub returns-then-same-5 : goal.returns-then-same-5
unfolding plain_sorts
returns-then-same-5 c = elim c.then-same-5.branch [ then-same-5-via-then-same-5 w ↦ search (rules, lookup-here, lookup-later) depth 12 | then-same-5-via-else-same-5+then-same-6 w ↦ search (rules, lookup-here, lookup-later) depth 12 ]

pub returns-then-same-7 : goal.returns-then-same-7
unfolding plain_sorts
returns-then-same-7 c = elim c.then-same-7.branch [ then-same-7-via-then-same-7 w ↦ search (rules, lookup-here, lookup-later) depth 12 | then-same-7-via-else-same-7+then-same-8 w ↦ search (rules, lookup-here, lookup-later) depth 12 ]

pub returns : goal.returns
unfolding plain_sorts
returns c = search (rules, lookup-later, lookup-none) depth 12
