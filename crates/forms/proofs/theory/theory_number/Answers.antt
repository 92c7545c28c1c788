use Rattle.std.proofs.Common.{◌≡◌, ℕ, drop, rules}
use Rattle.reading.specs.Bytes.{Maybe, lookup}
use Rattle.reading.proofs.Bytes.{lookup-here, lookup-later}
use Rattle.grammar.specs.Names.{theory}
use Rattle.forms.proofs.theory.theory_number.Goals as goal
use Rattle.forms.proofs.theory.theory_number.Goals.{Else-same-6}

-- Behind six names that the bytes are not.
behind_six : (c : Else-same-6) {m : Maybe ℕ} → m ≡ lookup (drop 6 theory) c.args.name.now → m ≡ lookup theory c.args.name.now
unfolding theory
behind_six c e =
    lookup-later _ _ _ _ c.if-same.false c.same.ensures (lookup-later _ _ _ _ c.if-same-2.false c.same-2.ensures (lookup-later _ _ _ _ c.if-same-3.false c.same-3.ensures
    (lookup-later _ _ _ _ c.if-same-4.false c.same-4.ensures (lookup-later _ _ _ _ c.if-same-5.false c.same-5.ensures (lookup-later _ _ _ _ c.if-same-6.false c.same-6.ensures e)))))

pub returns-then-same : goal.returns-then-same
unfolding theory
returns-then-same c = search (rules, lookup-here, lookup-later) depth 12

pub returns-then-same-2 : goal.returns-then-same-2
unfolding theory
returns-then-same-2 c = search (rules, lookup-here, lookup-later) depth 12

pub returns-then-same-3 : goal.returns-then-same-3
unfolding theory
returns-then-same-3 c = search (rules, lookup-here, lookup-later) depth 12

pub returns-then-same-4 : goal.returns-then-same-4
unfolding theory
returns-then-same-4 c = search (rules, lookup-here, lookup-later) depth 12

pub returns-then-same-5 : goal.returns-then-same-5
unfolding theory
returns-then-same-5 c = search (rules, lookup-here, lookup-later) depth 12

pub returns-then-same-6 : goal.returns-then-same-6
unfolding theory
returns-then-same-6 c = search (rules, lookup-here, lookup-later) depth 12

pub returns-then-same-7 : goal.returns-then-same-7
unfolding theory
returns-then-same-7 c = behind_six (goal.at.returns-then-same-7 c).Else-same-6 (lookup-here _ _ _ _ c.if-same-7.true c.same-7.ensures)

pub returns-then-same-8 : goal.returns-then-same-8
unfolding theory
returns-then-same-8 c = behind_six (goal.at.returns-then-same-8 c).Else-same-6 (lookup-later _ _ _ _ c.if-same-7.false c.same-7.ensures (lookup-here _ _ _ _ c.if-same-8.true c.same-8.ensures))

pub returns-then-same-9 : goal.returns-then-same-9
unfolding theory
returns-then-same-9 c = behind_six (goal.at.returns-then-same-9 c).Else-same-6 (lookup-later _ _ _ _ c.if-same-7.false c.same-7.ensures (lookup-later _ _ _ _ c.if-same-8.false c.same-8.ensures (lookup-here _ _ _ _ c.if-same-9.true c.same-9.ensures)))

pub returns : goal.returns
unfolding theory
returns c = behind_six (goal.at.returns c).Else-same-6 (lookup-later _ _ _ _ c.if-same-7.false c.same-7.ensures (lookup-later _ _ _ _ c.if-same-8.false c.same-8.ensures (lookup-later _ _ _ _ c.if-same-9.false c.same-9.ensures c.comparison_function.ensures)))
