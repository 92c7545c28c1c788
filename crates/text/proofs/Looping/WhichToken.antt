-- The token of a text, by the token that the code has.
use Prim.Native.Nat.{ℕ, suc, ◌+◌}
use mathlib.Core.Path.{◌≡◌, refl, ap, ◌∙◌}
use mathlib.Core.List.{List, [], ◌∷◌}
use lib.ListN.{length, take}
use Rattle.reading.specs.Tree.{Atom, symbol, quoted, integer, decimal, boolean, atom_words}
use Rattle.reading.specs.Token.{Token, blank, opens, closes, word, unfinished}
use Rattle.lexing.specs.TokenWords.{as_words, as_token}
use Rattle.lexing.specs.declared.tokens.Words.{Words}
use Rattle.lexing.specs.declared.tokens.Token.TheVariants as Tokens

-- White space.
pub is-blank : (at next : ℕ) (t : Token) → as_token at t ≡ Tokens.Blank next → (m : ℕ) × (t ≡ blank m) × (next ≡ at + suc m)
is-blank at next (blank m) e = (m, refl, cc)
is-blank at next opens e = absurd cc
is-blank at next closes e = absurd cc
is-blank at next (word a m) e = absurd cc
is-blank at next unfinished e = absurd cc

-- A `(`.
pub is-opens : (at : ℕ) (t : Token) → as_token at t ≡ Tokens.Opens → t ≡ opens
is-opens at (blank m) e = absurd cc
is-opens at opens e = refl
is-opens at closes e = absurd cc
is-opens at (word a m) e = absurd cc
is-opens at unfinished e = absurd cc

-- A `)`.
pub is-closes : (at : ℕ) (t : Token) → as_token at t ≡ Tokens.Closes → t ≡ closes
is-closes at (blank m) e = absurd cc
is-closes at opens e = absurd cc
is-closes at closes e = refl
is-closes at (word a m) e = absurd cc
is-closes at unfinished e = absurd cc

-- A string or an `@` that does not end.
pub is-unfinished : (at : ℕ) (t : Token) → as_token at t ≡ Tokens.Unfinished → t ≡ unfinished
is-unfinished at (blank m) e = absurd cc
is-unfinished at opens e = absurd cc
is-unfinished at closes e = absurd cc
is-unfinished at (word a m) e = absurd cc
is-unfinished at unfinished e = refl

-- The five words that the code has for an atom.
abbrev pub five : Words → List ℕ
five w = w.a ∷ w.b ∷ w.c ∷ w.d ∷ w.e ∷ []

-- As many of them as the atom has are the atom's.
words-atom : (a : Atom) → take (length (atom_words a)) (five (as_words a)) ≡ atom_words a
unfolding atom_words
words-atom (symbol s) = refl
words-atom (quoted s) = refl
words-atom (integer w) = refl
words-atom (decimal s) = refl
words-atom (boolean b) = refl

-- An atom, with the byte behind it, how many words it has, and the words.
pub record IsLeaf (at next n : ℕ) (w : Words) (t : Token) : Type 0 where
  pub which : Atom
  pub more : ℕ
  pub token : t ≡ word which more
  pub ends : next ≡ at + suc more
  pub size : n ≡ length (atom_words which)
  pub words : take n (five w) ≡ atom_words which

pub is_leaf : (at next n : ℕ) (w : Words) (t : Token) → as_token at t ≡ Tokens.Leaf next n w → IsLeaf at next n w t
is_leaf at next n w (blank m) e = absurd cc
is_leaf at next n w opens e = absurd cc
is_leaf at next n w closes e = absurd cc
is_leaf at next n w (word a m) e =
    let p : n ≡ length (atom_words a) = cc in
    let r : w ≡ as_words a = cc in
    record {
      which = a;
      more = m;
      token = refl;
      ends = cc;
      size = p;
      words = ap (λ (x : Words). take n (five x)) r ∙ ap (λ (k : ℕ). take k (five (as_words a))) p ∙ words-atom a;
    }
is_leaf at next n w unfinished e = absurd cc
