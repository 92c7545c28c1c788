use Rattle.std.proofs.Common.{◌≡◌, refl, drop, rules}
use Rattle.reading.specs.Bytes.{lookup}
use Rattle.reading.proofs.Bytes.{lookup-here, lookup-later}
use Rattle.grammar.specs.Expr.{k_and, k_if, k_not, k_or, kind_items}
use Rattle.grammar.specs.Names.{keywords}
use Rattle.forms.proofs.FormCode.{keyword_is, rest-says}
use Rattle.forms.proofs.keywords.form_named.Goals as goal

pub returns-then-same : goal.returns-then-same
unfolding keywords
returns-then-same c = search (rules, keyword_is, lookup-here, lookup-later) depth 12

pub returns-then-same-2 : goal.returns-then-same-2
unfolding keywords
returns-then-same-2 c = search (rules, keyword_is, lookup-here, lookup-later) depth 12

pub returns-then-same-3 : goal.returns-then-same-3
unfolding keywords
returns-then-same-3 c = search (rules, keyword_is, lookup-here, lookup-later) depth 12

pub returns-then-same-4 : goal.returns-then-same-4
unfolding keywords kind_items
returns-then-same-4 c = record { kind = k_not; is = search (rules, keyword_is, lookup-here, lookup-later) depth 12; words = refl }

pub returns-then-same-5 : goal.returns-then-same-5
unfolding keywords kind_items
returns-then-same-5 c = record { kind = k_or; is = search (rules, keyword_is, lookup-here, lookup-later) depth 12; words = λ n. refl }

pub returns-then-same-6 : goal.returns-then-same-6
unfolding keywords kind_items
returns-then-same-6 c = record { kind = k_and; is = search (rules, keyword_is, lookup-here, lookup-later) depth 12; words = λ n. refl }

pub returns-then-same-7 : goal.returns-then-same-7
unfolding keywords
returns-then-same-7 c = search (rules, keyword_is, lookup-here, lookup-later) depth 12

pub returns-then-same-8 : goal.returns-then-same-8
unfolding keywords kind_items
returns-then-same-8 c = record { kind = k_if; is = search (rules, keyword_is, lookup-here, lookup-later) depth 12; words = refl }

pub returns : goal.returns
unfolding keywords
returns c =
    let e : lookup (drop 8 keywords) c.args.name.now ≡ lookup keywords c.args.name.now = search (rules, lookup-later) depth 12 in
    rest-says _ c.arithmetic.result e c.arithmetic.ensures
