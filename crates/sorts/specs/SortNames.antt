-- The names of sorts as the code has them.
use Rattle.std.specs.Prelude.{ℕ, Option, Some, None}
use Rattle.reading.specs.Bytes.{Maybe, nothing, just}
use Rattle.words.specs.Spans.{as_span}
use Rattle.grammar.specs.Sort.{c_set, c_map, c_data, Sort, s_int, s_bool, s_real, s_str}
use Rattle.grammar.specs.Names.{SortForm, func, function, bit_vec, applied}
use Rattle.sorts.specs.declared.names.Plain.{Plain}
use Rattle.sorts.specs.declared.names.Plain.TheVariants as plain
use Rattle.sorts.specs.declared.names.Row.{Row}
use Rattle.sorts.specs.declared.names.Row.TheVariants as row
use Rattle.sorts.specs.declared.names.ListForm.{ListForm}
use Rattle.sorts.specs.declared.names.ListForm.TheVariants as form

-- The sort that is a name by itself.
abbrev pub plain_in : Option Plain → Maybe Sort
plain_in (Some plain.Int) = just s_int
plain_in (Some plain.Bool) = just s_bool
plain_in (Some plain.Real) = just s_real
plain_in (Some plain.Str) = just s_str
plain_in None = nothing

-- The width of a size.
abbrev pub width_in : Option ℕ → Maybe ℕ
width_in (Some n) = just n
width_in None = nothing

-- The form of a list sort that is words in front of its sorts.
abbrev pub row_form : Row → SortForm
row_form row.Function = function
row_form row.BitVec = bit_vec
row_form row.Set = applied c_set
row_form row.Map = applied c_map
row_form (row.Data s) = applied (c_data (as_span s))

-- How a list is read.
abbrev pub form_in : ListForm → SortForm
form_in form.Func = func
form_in (form.Row r) = row_form r

-- The number of a `func`.
abbrev pub number_in : ℕ → ℕ
number_in n = n
