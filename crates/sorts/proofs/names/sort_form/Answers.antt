use mathlib.Core.Path.{ap, ◌∙◌}
use mathlib.Core.List.{[]}
use Rattle.reading.proofs.Bytes.{lookup-none}
use native.Mathlib.Omega.{arith}
use Rattle.words.specs.Spans.{as_span}
use Rattle.grammar.specs.Names.{one_sort, two_sorts, three_items}
use Rattle.grammar.specs.ParseSort.{or_applied}
use Rattle.sorts.proofs.NamedSorts.{form-by, table-one, table-two, table-three, table_none}
use Rattle.sorts.proofs.names.sort_form.Goals as goal

pub returns-in-1 : goal.returns-in-1
returns-in-1 c = c.one_sort.ensures ∙ form-by _ _ _ one_sort c.bytes-bytes.ensures (table-one _ c.in-1.is)

pub returns-in-2 : goal.returns-in-2
returns-in-2 c = c.two_sorts.ensures ∙ form-by _ _ _ two_sorts c.bytes-bytes.ensures (table-two _ c.in-2.is)

pub returns-in-3 : goal.returns-in-3
returns-in-3 c = c.three_items.ensures ∙ form-by _ _ _ three_items c.bytes-bytes.ensures (table-three _ c.in-3.is)

pub returns-in_default : goal.returns-in_default
returns-in_default c = ap (or_applied (as_span c.args.name)) (lookup-none _) ∙ form-by _ _ _ [] c.bytes-bytes.ensures (table_none _ (λ e. omega arith) (λ e. omega arith) (λ e. omega arith))
