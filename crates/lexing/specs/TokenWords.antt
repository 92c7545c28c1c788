-- Tokens as the code has them: an atom is its words, and a token says where the next one begins.
use Rattle.std.specs.Prelude.{ℕ, suc, ◌+◌, List, ltb, length, get_or}
use Rattle.reading.specs.Bytes.{Span, before, starts_with}
use Rattle.reading.specs.Tree.{Atom, atom_words}
use Rattle.reading.specs.Token as spec
use Rattle.lexing.specs.declared.tokens.Words.{Words}
use Rattle.lexing.specs.declared.tokens.Coded.{Coded}
use Rattle.lexing.specs.declared.tokens.Token.{Token}
use Rattle.lexing.specs.declared.tokens.Token.TheVariants.{Blank, Opens, Closes, Leaf, Unfinished}

-- The words of an atom, with zeros behind them.
abbrev pub as_words : Atom → Words
as_words x = record { a = get_or (atom_words x) 0 0; b = get_or (atom_words x) 1 0; c = get_or (atom_words x) 2 0; d = get_or (atom_words x) 3 0; e = get_or (atom_words x) 4 0 }

-- How many they are, and the words.
abbrev pub as_coded : Atom → Coded
as_coded x = record { count = length (atom_words x); words = as_words x }

-- A word that says what an atom is, and a span.
abbrev pub span_coded : ℕ → Span → Coded
span_coded kind s = record { count = 3; words = record { a = kind; b = s.start; c = s.len; d = 0; e = 0 } }

-- A `"` and an `@` at a place, where s follows.
abbrev pub quoted_at : ℕ → List ℕ → spec.Token
quoted_at at s = spec.quoted_token (ltb (before (starts_with 34) s) (length s)) at (before (starts_with 34) s)

abbrev pub symbol_at : ℕ → List ℕ → spec.Token
symbol_at at s = spec.at_token (ltb (before (starts_with 41) s) (length s)) at (before (starts_with 41) s)

-- A token that stands at a place, with the place behind it.
abbrev pub as_token : ℕ → spec.Token → Token
as_token at (spec.blank n) = Blank (at + suc n)
as_token at spec.opens = Opens
as_token at spec.closes = Closes
as_token at (spec.word x n) = Leaf (at + suc n) (length (atom_words x)) (as_words x)
as_token at spec.unfinished = Unfinished
