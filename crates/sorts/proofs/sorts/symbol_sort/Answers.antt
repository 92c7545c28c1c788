use mathlib.Core.Path.{refl, sym, ap, ◌∙◌}
use Rattle.std.specs.Prelude.{Some}
use Rattle.grammar.specs.Sort.{s_int, s_bool, s_real, s_str, sort_words}
use Rattle.sorts.specs.SortNames.{plain_in}
use Rattle.sorts.proofs.NamedSorts.{symbol-plain, symbol-other}
use Rattle.sorts.proofs.sorts.symbol_sort.Goals as goal

pub returns-in-Some-Int : goal.returns-in-Some-Int
unfolding sort_words
returns-in-Some-Int c = symbol-plain _ _ _ _ c.bytes-bytes.ensures s_int 1 (ap (λ p. plain_in (Some p)) (sym c.in-Some-Int.field-0-is) ∙ c.in-Some-Int.ensures) refl c.put_one.ensures.0 c.put_one.ensures.1

pub returns-in-Some-Bool : goal.returns-in-Some-Bool
unfolding sort_words
returns-in-Some-Bool c = symbol-plain _ _ _ _ c.bytes-bytes.ensures s_bool 2 (ap (λ p. plain_in (Some p)) (sym c.in-Some-Bool.field-0-is) ∙ c.in-Some-Bool.ensures) refl c.put_one-in-Some-Bool.ensures.0 c.put_one-in-Some-Bool.ensures.1

pub returns-in-Some-Real : goal.returns-in-Some-Real
unfolding sort_words
returns-in-Some-Real c = symbol-plain _ _ _ _ c.bytes-bytes.ensures s_real 3 (ap (λ p. plain_in (Some p)) (sym c.in-Some-Real.field-0-is) ∙ c.in-Some-Real.ensures) refl c.put_one-in-Some-Real.ensures.0 c.put_one-in-Some-Real.ensures.1

pub returns-in-Some-Str : goal.returns-in-Some-Str
unfolding sort_words
returns-in-Some-Str c = symbol-plain _ _ _ _ c.bytes-bytes.ensures s_str 4 (ap (λ p. plain_in (Some p)) (sym c.in-Some-Str.field-0-is) ∙ c.in-Some-Str.ensures) refl c.put_one-in-Some-Str.ensures.0 c.put_one-in-Some-Str.ensures.1

pub returns-in-None : goal.returns-in-None
returns-in-None c = symbol-other _ _ _ _ c.bytes-bytes.ensures c.in-None.ensures c.other_sort.ensures
