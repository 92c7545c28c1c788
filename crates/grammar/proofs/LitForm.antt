-- What a literal that is accepted is.
use Prim.Native.Nat.{ℕ, ◌^◌, ◌≤◌, ◌<◌}
use mathlib.Core.Bool.{Bool, true, false}
use mathlib.Core.Path.{◌≡◌, refl, sym, ap, subst, ◌∙◌}
use mathlib.Core.List.{List}
use native.Mathlib.Omega.{arith}
use lib.Dec.{eqb, ltb}
use lib.ListN.{length}
use borrow.Author.Tests.{eqb-true, eqb-false, ltb-true}
use Rattle.reading.specs.Pick.{pick}
use Rattle.reading.specs.Bytes.{ascii, begins_with, bytes_at, nothing, just}
use Rattle.reading.specs.Number.{all_digits, value_from, below, digits}
use Rattle.reading.specs.Tree.{Atom, symbol, quoted, integer, decimal, boolean, Tree, atom, list}
use Rattle.reading.specs.Answer.{got, check, malformed, bad_literal, wrong_width, or_bad}
use Rattle.reading.proofs.Bytes.{begins-length}
use Rattle.reading.proofs.Values.{value-back, digits-below}
use Rattle.grammar.specs.ParseSort.{in_atom}
use Rattle.grammar.specs.Scope.{Scope}
use Rattle.grammar.specs.ParseExpr
use Rattle.grammar.specs.ParseExpr.{Child, child_at, quoted_in, digits_in, bits_of}
use Rattle.grammar.specs.Literals.{LiteralOf}
use Rattle.grammar.proofs.AnswerHolds.{Post, Every, lifted_post, then-every, map-every, known-every, check-every}

in_atom_lem : (t : Tree) → Every (in_atom t) (λ a. t ≡ atom a)
unfolding in_atom
in_atom_lem (atom a) = refl
in_atom_lem (list ts) = tt

quoted_in_lem : (a : Atom) → Every (quoted_in a) (λ s. a ≡ quoted s)
unfolding quoted_in
quoted_in_lem (symbol s) = tt
quoted_in_lem (quoted s) = refl
quoted_in_lem (integer w) = tt
quoted_in_lem (decimal s) = tt
quoted_in_lem (boolean b) = tt

-- Digits that give a value below a limit.
record DigitsOf (base limit : ℕ) (s : List ℕ) (v : ℕ) : Type 0 where
  some : 1 ≤ length s
  all : all_digits base s ≡ true
  counted : v ≡ value_from base 0 s
  under : v < limit

digits_of : (base limit : ℕ) (s : List ℕ) → Every (or_bad bad_literal (below limit (digits base s))) (DigitsOf base limit s)
unfolding digits below pick
digits_of base limit s = go (eqb (length s) 0) (all_digits base s) refl refl
  where
    limited : (t : Bool) → ltb (value_from base 0 s) limit ≡ t → 1 ≤ length s → all_digits base s ≡ true → Every (or_bad bad_literal (pick t (just (value_from base 0 s)) nothing)) (DigitsOf base limit s)
    limited true e l a = record { some = l; all = a; counted = refl; under = ltb-true _ limit e }
    limited false e l a = tt

    go : (t u : Bool) → eqb (length s) 0 ≡ t → all_digits base s ≡ u → Every (or_bad bad_literal (below limit (pick t nothing (pick u (just (value_from base 0 s)) nothing)))) (DigitsOf base limit s)
    go true u e f = tt
    go false true e f = let l : length s ≡ 0 → ⊥ = eqb-false (length s) 0 e in limited (ltb (value_from base 0 s) limit) refl (omega arith) f
    go false false e f = tt

-- Bits that are read.
record BitsOf (w : List ℕ) (v : ℕ) : Type 0 where
  begins : begins_with (ascii "#b") w ≡ true
  digits : DigitsOf 2 (2 ^ 128) (digits_in w) v

bits_of_lem : (w : List ℕ) → Every (bits_of w) (BitsOf w)
unfolding bits_of
bits_of_lem w =
    then-every (check (begins_with (ascii "#b") w) malformed) _ (λ _. begins_with (ascii "#b") w ≡ true) _ (check-every (begins_with (ascii "#b") w) malformed) λ _ b.
    map-every (or_bad bad_literal (below (2 ^ 128) (digits 2 (digits_in w)))) (DigitsOf 2 (2 ^ 128) (digits_in w)) (BitsOf w) (λ v d. record { begins = b; digits = d }) (digits_of 2 (2 ^ 128) (digits_in w))

-- Bits that are read have two bytes before their digits.
pub bits_long : (w : List ℕ) (v : ℕ) → bits_of w ≡ got v → 2 ≤ length w
bits_long w v e = omega (arith, begins-length (ascii "#b") w (subst (λ x. Every x (BitsOf w)) e (bits_of_lem w)).begins)

module _ (text : List ℕ) (cs : List Child) (sc : List Scope) (n : ℕ) where
  -- It takes no number.
  pub literal_of : Post (ParseExpr.lit_form text cs sc n) (λ e m. LiteralOf text cs e × (m ≡ n))
  unfolding ParseExpr.lit_form
  literal_of =
      lifted_post (child_at cs 1) n _ (λ c. child_at cs 1 ≡ got c) _ (known-every (child_at cs 1)) λ c is₁.
      lifted_post (in_atom c.tree) n _ (λ a. c.tree ≡ atom a) _ (in_atom_lem c.tree) λ a is₂.
      lifted_post (quoted_in a) n _ (λ s. a ≡ quoted s) _ (quoted_in_lem a) λ s is₃.
      lifted_post (bits_of (bytes_at text s)) n _ (BitsOf (bytes_at text s)) _ (bits_of_lem (bytes_at text s)) λ v b.
      lifted_post (child_at cs 2) n _ (λ d. child_at cs 2 ≡ got d) _ (known-every (child_at cs 2)) λ d is₄.
      lifted_post (ParseExpr.width_of text d.tree) n _ (λ k. ParseExpr.width_of text d.tree ≡ got k) _ (known-every (ParseExpr.width_of text d.tree)) λ width is₅.
      lifted_post (check (eqb (length (digits_in (bytes_at text s))) width) wrong_width) n _ (λ _. eqb (length (digits_in (bytes_at text s))) width ≡ true) _ (check-every (eqb (length (digits_in (bytes_at text s))) width) wrong_width) λ _ e.
      let l : length (digits_in (bytes_at text s)) ≡ width = eqb-true (length (digits_in (bytes_at text s))) width e in
      let g = b.digits in (
        record {
          second = c;
          is_second = is₁;
          string = s;
          is_string = is₂ ∙ ap atom is₃;
          begins = b.begins;
          value = v;
          binary = g.all;
          counted = g.counted;
          whole = value-back v g.under;
          third = d;
          is_third = is₄;
          width = width;
          sized = is₅;
          wide = sym l;
          some = omega (arith, g.some);
          below = rw (g.counted, ← l) (digits-below 2 (digits_in (bytes_at text s)) g.all);
          is = refl;
        },
        refl,
      )
