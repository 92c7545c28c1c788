-- The claims about decimals: the grammar writes them and nothing else, they have a digit and at most one letter, and words are symbols.
use Prim.Native.Nat.{ℕ, suc, ◌≤◌, ◌<◌}
use mathlib.Core.Bool.{Bool, true, false, false≢true}
use mathlib.Core.Path.{◌≡◌, refl, sym, ap, ◌∙◌, subst}
use mathlib.Core.List.{List, [], ◌∷◌, ◌++◌, append-nil}
use native.Mathlib.Omega.{arith}
use lib.ListN.{length}
use Rattle.reading.specs.Pick.{pick}
use Rattle.reading.specs.Bytes.{ascii, same_bytes, Span, Maybe, nothing, just}
use Rattle.reading.specs.Number.{Wide, is_digit, integer_of}
use Rattle.reading.specs.Decimal.{is_decimal}
use Rattle.reading.specs.Tree.{symbol, decimal, boolean}
use Rattle.reading.specs.Token.{or_decimal, atom_of}
use Rattle.reading.specs.DecimalGrammar.{Digits, Sign, no_sign, plus, minus, Figures, whole, pointed, Mark, small, large, Exponent, no_exponent, exponent, Figured, figured, DecimalExactly, is_letter, letters_of, has_digit, AtMostOneMark, no_mark, one_mark, DecimalHas, DecimalsHave, WordsAreSymbols}
use Rattle.reading.proofs.Picks.{pick_true, pick-false, pick_lt}
use Rattle.reading.proofs.Bytes.{same_equal}
use Rattle.reading.proofs.Values.{digit_range}
use Rattle.reading.proofs.Figured.{digits-split, figured-is, is-figured, integer-figured}

-- The letters of bytes, and a digit among them, by their parts.
letters_append : (a b : List ℕ) → letters_of (a ++ b) ≡ letters_of a ++ letters_of b
unfolding letters_of pick
letters_append [] b = refl
letters_append (x ∷ a) b = go (is_letter x) (letters_append a b)
  where
    go : (t : Bool) → letters_of (a ++ b) ≡ letters_of a ++ letters_of b → pick t (x ∷ letters_of (a ++ b)) (letters_of (a ++ b)) ≡ pick t (x ∷ letters_of a) (letters_of a) ++ letters_of b
    go true h = ap (λ (r : List ℕ). x ∷ r) h
    go false h = h

has_append : (a b : List ℕ) → has_digit (a ++ b) ≡ pick (has_digit a) true (has_digit b)
unfolding has_digit pick
has_append [] b = refl
has_append (x ∷ a) b = go (is_digit 10 x) (has_append a b)
  where
    go : (t : Bool) → has_digit (a ++ b) ≡ pick (has_digit a) true (has_digit b) → pick t true (has_digit (a ++ b)) ≡ pick (pick t true (has_digit a)) true (has_digit b)
    go true h = refl
    go false h = h

module _ (a b : List ℕ) where
  has_left : has_digit a ≡ true → has_digit (a ++ b) ≡ true
  has_left h = has_append a b ∙ sym (pick_true _ h refl)

  has_right : has_digit b ≡ true → has_digit (a ++ b) ≡ true
  unfolding pick
  has_right h = has_append a b ∙ go (has_digit a)
    where
      go : (t : Bool) → pick t true (has_digit b) ≡ true
      go true = refl
      go false = h

-- A digit is no letter, and a letter no digit.
digit_letter : (b : ℕ) → is_digit 10 b ≡ true → is_letter b ≡ false
unfolding is_letter
digit_letter b e = let p : (48 ≤ b) × (b < 58) = digit_range 10 b e in sym (pick_lt {a = b} {b = 65} _ (omega arith) refl)

letter_digit : (b : ℕ) → is_letter b ≡ true → is_digit 10 b ≡ false
letter_digit b e = go (is_digit 10 b) refl
  where
    go : (t : Bool) → is_digit 10 b ≡ t → is_digit 10 b ≡ false
    go true q = absurd (false≢true (sym (digit_letter b q) ∙ e))
    go false q = q

-- The parts of the grammar: only an exponent has a letter, its mark, and figures have a digit.
digits-letters : (d : List ℕ) → Digits d → letters_of d ≡ []
unfolding letters_of
digits-letters [] e = refl
digits-letters (b ∷ d) e =
    let p : (is_digit 10 b ≡ true) × Digits d = digits-split b d e in
    sym (pick-false _ (digit_letter b p.0) (sym (digits-letters d p.1)))

digits_have : (d : List ℕ) → Digits d → 1 ≤ length d → has_digit d ≡ true
unfolding has_digit
digits_have [] e h = absurd (omega arith)
digits_have (b ∷ d) e h = sym (pick_true _ (digits-split b d e).0 refl)

sign-letters : {g : List ℕ} → Sign g → letters_of g ≡ []
unfolding letters_of is_letter pick
sign-letters no_sign = refl
sign-letters plus = refl
sign-letters minus = refl

figures-letters : {f : List ℕ} → Figures f → letters_of f ≡ []
unfolding letters_of is_letter pick
figures-letters (whole d e h) = digits-letters d e
figures-letters (pointed d f e q h) = letters_append d (46 ∷ f) ∙ rw (digits-letters d e) (digits-letters f q)

figures_have : {f : List ℕ} → Figures f → has_digit f ≡ true
figures_have (whole d e h) = digits_have d e h
figures_have (pointed [] f e q h) = has_right (46 ∷ []) f (digits_have f q (omega arith))
figures_have (pointed (b ∷ d) f e q h) = has_left (b ∷ d) (46 ∷ f) (digits_have (b ∷ d) e (omega arith))

mark-letters : {e : List ℕ} → Mark e → letters_of e ≡ e
unfolding letters_of is_letter pick
mark-letters small = refl
mark-letters large = refl

exponent-letters : {x : List ℕ} → Exponent x → AtMostOneMark (letters_of x)
unfolding letters_of
exponent-letters no_exponent = no_mark
exponent-letters (exponent {e} {g} d m s k h) =
    let p : letters_of (g ++ d) ≡ [] = letters_append g d ∙ rw (sign-letters s) (digits-letters d k) in
    subst AtMostOneMark (sym (letters_append e (g ++ d) ∙ rw p (append-nil (letters_of e) ∙ mark-letters m))) (one_mark m)

-- What is written so has a digit, and at most that letter.
figured-has : {s : List ℕ} → Figured s → DecimalHas s
figured-has (figured {g} {f} {x} s m y) =
    let p : letters_of (g ++ (f ++ x)) ≡ letters_of x = letters_append g (f ++ x) ∙ rw (sign-letters s) (letters_append f x ∙ rw (figures-letters m) refl) in
    record { digit = has_right g (f ++ x) (has_left f x (figures_have m)); letters = subst AtMostOneMark (sym p) (exponent-letters y) }

-- Bytes without a digit are written otherwise.
unfigured : (s : List ℕ) → has_digit s ≡ false → Figured s → ⊥
unfigured s e f = false≢true (sym e ∙ (figured-has f).digit)

-- There are no more letters than bytes.
letters-fewer : (s : List ℕ) → length (letters_of s) ≤ length s
unfolding letters_of pick
letters-fewer [] = omega arith
letters-fewer (b ∷ s) = go (is_letter b) (letters-fewer s)
  where
    go : (t : Bool) → length (letters_of s) ≤ length s → length (pick t (b ∷ letters_of s) (letters_of s)) ≤ suc (length s)
    go true h = omega arith
    go false h = omega arith

-- Where all bytes are letters, none is a digit.
letters-only : (w : List ℕ) → letters_of w ≡ w → has_digit w ≡ false
unfolding letters_of has_digit pick
letters-only [] e = refl
letters-only (b ∷ w) e = go (is_letter b) refl e (letters-only w)
  where
    go : (t : Bool) → is_letter b ≡ t → pick t (b ∷ letters_of w) (letters_of w) ≡ b ∷ w → (letters_of w ≡ w → has_digit w ≡ false) → pick (is_digit 10 b) true (has_digit w) ≡ false
    go true q h k = let p : letters_of w ≡ w = cc in sym (pick-false _ (letter_digit b q) (sym (k p)))
    go false q h k = absurd (omega (arith, letters-fewer w, ap length h))

-- Nor with a sign before them.
signed-letters : {g : List ℕ} (w : List ℕ) → Sign g → letters_of w ≡ w → has_digit (g ++ w) ≡ false
unfolding has_digit is_digit pick
signed-letters w no_sign e = letters-only w e
signed-letters w plus e = letters-only w e
signed-letters w minus e = letters-only w e

-- The claims.
pub words_are_symbols : WordsAreSymbols
unfolding atom_of or_decimal
words_are_symbols g w s k e t f =
    sym (pick-false _ t (pick-false _ f (sym (go (integer_of (g ++ w)) refl (is_decimal (g ++ w)) refl))))
  where
    none : Figured (g ++ w) → ⊥
    none = unfigured (g ++ w) (signed-letters w k e)

    go : (m : Maybe Wide) → integer_of (g ++ w) ≡ m → (b : Bool) → is_decimal (g ++ w) ≡ b → or_decimal m b s ≡ symbol s
    go (just v) p b q = absurd (none (integer-figured (g ++ w) v p))
    go nothing p true q = absurd (none (is-figured (g ++ w) q))
    go nothing p false q = refl

-- The names of booleans have no digit.
true-letters : has_digit (ascii "true") ≡ false
unfolding has_digit is_digit pick
true-letters = refl

false-letters : has_digit (ascii "false") ≡ false
unfolding has_digit is_digit pick
false-letters = refl

module _ (bytes : List ℕ) (s : Span) where
  -- What the grammar writes is no word without a digit.
  other_word : (w : List ℕ) → has_digit w ≡ false → Figured bytes → same_bytes bytes w ≡ false
  other_word w h f = go (same_bytes bytes w) refl
    where
      go : (t : Bool) → same_bytes bytes w ≡ t → same_bytes bytes w ≡ false
      go true e = absurd (unfigured w h (subst Figured (same_equal bytes w e) f))
      go false e = e

  -- Where the atom is a decimal, the test for one held, and the bytes are no integer.
  decimal-parts : atom_of bytes s ≡ decimal s → Figured bytes × (integer_of bytes ≡ nothing)
  unfolding atom_of or_decimal pick
  decimal-parts h = go (same_bytes bytes (ascii "true")) (same_bytes bytes (ascii "false")) (integer_of bytes) refl (is_decimal bytes) refl h
    where
      go : (t u : Bool) (m : Maybe Wide) → integer_of bytes ≡ m → (b : Bool) → is_decimal bytes ≡ b
          → pick t (boolean true) (pick u (boolean false) (or_decimal m b s)) ≡ decimal s → Figured bytes × (integer_of bytes ≡ nothing)
      go true u m p b q h = let z : ◌≡◌ {A = ℕ} 0 1 = cc in absurd (omega arith)
      go false true m p b q h = let z : ◌≡◌ {A = ℕ} 0 1 = cc in absurd (omega arith)
      go false false (just w) p b q h = let z : ◌≡◌ {A = ℕ} 0 1 = cc in absurd (omega arith)
      go false false nothing p true q h = (is-figured bytes q, p)
      go false false nothing p false q h = let z : ◌≡◌ {A = ℕ} 0 1 = cc in absurd (omega arith)

  -- So it is no boolean, and a decimal where it is no integer.
  figured-decimal : Figured bytes → integer_of bytes ≡ nothing → atom_of bytes s ≡ decimal s
  unfolding atom_of or_decimal
  figured-decimal f e =
      sym (pick-false _ (other_word (ascii "true") true-letters f) (pick-false _ (other_word (ascii "false") false-letters f) (rw (e, figured-is f) refl)))

  pub decimal_exactly : DecimalExactly bytes s
  decimal_exactly = record { written = λ h. (decimal-parts h).0; beyond = λ h. (decimal-parts h).1; taken = figured-decimal }

pub decimals_have : DecimalsHave
decimals_have bytes s h = figured-has ((decimal_exactly bytes s).written h)
