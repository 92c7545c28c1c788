use Rattle.std.proofs.Common.{rules}
use Rattle.reading.proofs.Bytes.{lookup-here, lookup-later, lookup-none}
use Rattle.grammar.specs.Names.{theory}
use Rattle.forms.proofs.theory.set_function.Goals as goal

pub returns-then-same : goal.returns-then-same
unfolding theory
returns-then-same c = search (rules, lookup-here, lookup-later, lookup-none) depth 12

pub returns-then-same-2 : goal.returns-then-same-2
unfolding theory
returns-then-same-2 c = search (rules, lookup-here, lookup-later, lookup-none) depth 12

pub returns-then-same-3 : goal.returns-then-same-3
unfolding theory
returns-then-same-3 c = search (rules, lookup-here, lookup-later, lookup-none) depth 12

pub returns-then-same-4 : goal.returns-then-same-4
unfolding theory
returns-then-same-4 c = search (rules, lookup-here, lookup-later, lookup-none) depth 12

pub returns-then-same-5 : goal.returns-then-same-5
unfolding theory
returns-then-same-5 c = search (rules, lookup-here, lookup-later, lookup-none) depth 12

pub returns-then-same-6 : goal.returns-then-same-6
unfolding theory
returns-then-same-6 c = search (rules, lookup-here, lookup-later, lookup-none) depth 12

pub returns-then-same-7 : goal.returns-then-same-7
unfolding theory
returns-then-same-7 c = search (rules, lookup-here, lookup-later, lookup-none) depth 12

pub returns : goal.returns
unfolding theory
returns c = search (rules, lookup-here, lookup-later, lookup-none) depth 12
