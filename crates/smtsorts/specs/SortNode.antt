-- The bytes of a sort that stand before the sorts inside it.
use Rattle.std.specs.Prelude.{ℕ, zero, suc, List, [], ◌∷◌, ◌++◌, eqb}
use Rattle.reading.specs.Pick.{pick}
use Rattle.reading.specs.Bytes.{ascii, Span}
use Rattle.reading.specs.Answer.{Ans, got, bad, unwritable}
use Rattle.writing.specs.Digits.{decimal}
use Rattle.smtnames.specs.Pieces.{joined, name_text}
use Rattle.words.specs.Spans.{as_span}
use Rattle.sortnodes.specs.declared.SortNode.{SortNode}
use Rattle.sortnodes.specs.declared.SortNode.TheVariants as told

-- A width that is not 0.
unfoldable pub width_text : ℕ → Ans (List ℕ)
width_text zero = bad unwritable
width_text (suc w) = got (ascii "(_ BitVec " ++ (decimal (suc w) ++ ascii ")"))

-- An Array has two sorts.
unfoldable pub array_text : ℕ → Ans (List ℕ)
array_text n = pick (eqb n 2) (got (ascii "(Array ")) (bad unwritable)

-- The name of a Data sort by itself, or behind a parenthesis and before a space.
unfoldable pub data_text : List ℕ → Span → ℕ → Ans (List ℕ)
data_text text ctor zero = name_text text 115 ctor
data_text text ctor (suc n) = joined (got (40 ∷ [])) (joined (name_text text 115 ctor) (got (32 ∷ [])))

-- The bytes of a sort before the sorts inside it.
abbrev pub open_text : List ℕ → SortNode → Ans (List ℕ)
open_text text told.Int = got (ascii "Int")
open_text text told.Bool = got (ascii "Bool")
open_text text told.Real = got (ascii "Real")
open_text text told.Str = got (ascii "String")
open_text text (told.BitVec width) = width_text width
open_text text (told.Array n) = array_text n
open_text text (told.Data ctor n) = data_text text (as_span ctor) n
open_text text told.Other = bad unwritable
