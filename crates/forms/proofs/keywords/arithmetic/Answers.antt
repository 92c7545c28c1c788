use Rattle.std.proofs.Common.{◌≡◌, refl, drop, rules}
use Rattle.reading.specs.Bytes.{lookup}
use Rattle.reading.proofs.Bytes.{lookup-here, lookup-later}
use Rattle.grammar.specs.Expr.{k_bin, op_add, op_div, op_mod, op_mul, kind_items}
use Rattle.grammar.specs.Names.{keywords}
use Rattle.forms.proofs.FormCode.{keyword_is, rest-says}
use Rattle.forms.proofs.keywords.arithmetic.Goals as goal

pub returns-then-same : goal.returns-then-same
unfolding keywords kind_items
returns-then-same c = record { kind = k_bin op_add; is = search (rules, keyword_is, lookup-here, lookup-later) depth 12; words = refl }

pub returns-then-same-2 : goal.returns-then-same-2
unfolding keywords
returns-then-same-2 c = search (rules, keyword_is, lookup-here, lookup-later) depth 12

pub returns-then-same-3 : goal.returns-then-same-3
unfolding keywords kind_items
returns-then-same-3 c = record { kind = k_bin op_mul; is = search (rules, keyword_is, lookup-here, lookup-later) depth 12; words = refl }

pub returns-then-same-4 : goal.returns-then-same-4
unfolding keywords kind_items
returns-then-same-4 c = record { kind = k_bin op_div; is = search (rules, keyword_is, lookup-here, lookup-later) depth 12; words = refl }

pub returns-then-same-5 : goal.returns-then-same-5
unfolding keywords kind_items
returns-then-same-5 c = record { kind = k_bin op_mod; is = search (rules, keyword_is, lookup-here, lookup-later) depth 12; words = refl }

pub returns : goal.returns
unfolding keywords
returns c =
    let e : lookup (drop 13 keywords) c.args.name.now ≡ lookup (drop 8 keywords) c.args.name.now = search (rules, lookup-later) depth 12 in
    rest-says _ c.relation.result e c.relation.ensures
