use mathlib.Core.Path.{sym, ◌∙◌}
use Rattle.sorts.proofs.NamedSorts.{other-size, other-bad, other-var, other_data}
use Rattle.sorts.proofs.sorts.other_sort.Goals as goal

pub returns-in-Some : goal.returns-in-Some
returns-in-Some c = other-size _ _ _ _ (sym c.begins_with.ensures ∙ c.if-begins_with.true) c.in-Some.ensures c.put_size.ensures.0 c.put_size.ensures.1

pub returns-in-None : goal.returns-in-None
returns-in-None c = other-bad _ _ _ _ (sym c.begins_with.ensures ∙ c.if-begins_with.true) c.in-None.ensures

pub returns-in-Some-index_named : goal.returns-in-Some-index_named
returns-in-Some-index_named c = other-var _ _ _ _ (sym c.begins_with.ensures ∙ c.if-begins_with.false) c.in-Some-index_named.ensures c.put_var.ensures.0 c.put_var.ensures.1

pub returns-in-None-index_named : goal.returns-in-None-index_named
returns-in-None-index_named c = other_data _ _ _ _ (sym c.begins_with.ensures ∙ c.if-begins_with.false) c.in-None-index_named.ensures c.put_data.ensures.0 c.put_data.ensures.1
