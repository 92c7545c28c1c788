use Rattle.std.proofs.Common.{◌≡◌, refl, drop, rules}
use Rattle.reading.specs.Bytes.{nothing, lookup}
use mathlib.Core.Bool.{true, false}
use Rattle.reading.proofs.Bytes.{lookup-here, lookup-later, lookup-none}
use Rattle.grammar.specs.Expr.{k_iff, k_imp, kind_items}
use Rattle.grammar.specs.Names.{keywords}
use Rattle.forms.proofs.FormCode.{keyword_is, keyword_not}
use Rattle.forms.proofs.keywords.connective.Goals as goal

pub returns-then-same : goal.returns-then-same
unfolding keywords kind_items
returns-then-same c = record { kind = k_iff; is = search (rules, keyword_is, lookup-here, lookup-later) depth 12; words = refl }

pub returns-then-same-2 : goal.returns-then-same-2
unfolding keywords kind_items
returns-then-same-2 c = record { kind = k_imp; is = search (rules, keyword_is, lookup-here, lookup-later) depth 12; words = refl }

pub returns-then-same-3 : goal.returns-then-same-3
unfolding keywords
returns-then-same-3 c = search (rules, keyword_is, lookup-here, lookup-later) depth 12

pub returns-then-begins_with : goal.returns-then-begins_with
unfolding keywords
returns-then-begins_with c =
    let e : nothing ≡ lookup (drop 19 keywords) c.args.name.now = search (rules, lookup-later, lookup-none) depth 12 in
    keyword_not true c.begins_with.ensures c.if-begins_with.true e

pub returns : goal.returns
unfolding keywords
returns c =
    let e : nothing ≡ lookup (drop 19 keywords) c.args.name.now = search (rules, lookup-later, lookup-none) depth 12 in
    keyword_not false c.begins_with.ensures c.if-begins_with.false e
