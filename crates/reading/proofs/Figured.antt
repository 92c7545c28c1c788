-- The bytes that the grammar of decimals writes are those that the test takes for a decimal; and an integer is written so, too.
use Prim.Native.Nat.{ℕ, suc, ◌+◌, ◌≤◌, ◌<◌}
use mathlib.Core.Bool.{Bool, true, false, not, false≢true}
use mathlib.Core.Path.{◌≡◌, refl, sym, ap, ◌∙◌, subst}
use mathlib.Core.List.{List, [], ◌∷◌, ◌++◌, append_assoc, append-nil}
use native.Mathlib.Omega.{arith}
use lib.Dec.{eqb}
use lib.ListN.{length, get_or, take, drop, take-append-drop}
use lib.Seq.{length-take-le, drop-append_seam}
use borrow.Author.Tests.{eqb-true, eqb-false, ltb-true, ne_eqb, lt-ltb}
use Rattle.reading.specs.Pick.{pick}
use Rattle.reading.specs.Bytes.{ascii, before, Maybe, nothing, just}
use Rattle.reading.specs.Number.{Wide, is_digit, all_digits, value_from, digits, plus_bytes, sign_bytes, signed, integer_of}
use Rattle.reading.specs.Decimal.{no_digit, leading_digits, some_digits, is_exponent, is_fraction, is_unsigned_decimal, is_decimal}
use Rattle.reading.specs.DecimalGrammar.{Digits, Sign, no_sign, plus, minus, Figures, whole, pointed, Mark, small, large, Exponent, no_exponent, exponent, Figured, figured}
use Rattle.reading.proofs.Picks.{pick_true, pick-false}
use Rattle.reading.proofs.Bytes.{before_le}
use Rattle.reading.proofs.Values.{digit_range}

-- Of digits, the first is one and so are the others.
pub digits-split : (b : ℕ) (d : List ℕ) → Digits (b ∷ d) → (is_digit 10 b ≡ true) × Digits d
unfolding all_digits pick
digits-split b d e = go (is_digit 10 b) refl e
  where
    go : (t : Bool) → is_digit 10 b ≡ t → pick t (all_digits 10 d) false ≡ true → (is_digit 10 b ≡ true) × Digits d
    go true q h = (q, h)
    go false q h = absurd (false≢true h)

digit-stands : (b : ℕ) (s : List ℕ) → is_digit 10 b ≡ true → no_digit (b ∷ s) ≡ false
unfolding no_digit
digit-stands b s h = ap not h

-- Digits before anything else are all that stand in front.
leading_are : (d r : List ℕ) → Digits d → no_digit r ≡ true → leading_digits (d ++ r) ≡ length d
unfolding before
leading_are [] [] e q = refl
leading_are [] (b ∷ r) e q = sym (pick_true _ q refl)
leading_are (b ∷ d) r e q =
    let p : (is_digit 10 b ≡ true) × Digits d = digits-split b d e in
    sym (pick-false _ (digit-stands b (d ++ r) p.0) (ap suc (sym (leading_are d r p.1 q))))

-- What stands in front are digits.
leading-digits : (s : List ℕ) → Digits (take (leading_digits s) s)
unfolding before all_digits no_digit pick
leading-digits [] = refl
leading-digits (b ∷ s) = go (is_digit 10 b) refl (leading-digits s)
  where
    go : (t : Bool) → is_digit 10 b ≡ t → Digits (take (leading_digits s) s) → Digits (take (pick (not t) 0 (suc (leading_digits s))) (b ∷ s))
    go true q h = sym (pick_true _ q (sym h))
    go false q h = refl

-- Digits, at least one: from the grammar to the test, and back.
some_are : (d : List ℕ) → Digits d → 1 ≤ length d → some_digits d ≡ true
unfolding some_digits
some_are d e h = sym (pick-false _ (ne_eqb (length d) 0 (λ q. omega arith)) (sym e))

some_of : (d : List ℕ) → some_digits d ≡ true → Digits d × (1 ≤ length d)
unfolding some_digits pick
some_of d e = go (eqb (length d) 0) refl e
  where
    go : (t : Bool) → eqb (length d) 0 ≡ t → pick t false (all_digits 10 d) ≡ true → Digits d × (1 ≤ length d)
    go true q h = absurd (false≢true h)
    go false q h = (h, omega (arith, eqb-false (length d) 0 q))

-- A sign in front is dropped, where no other follows.
sign_dropped : {g : List ℕ} (r : List ℕ) → Sign g → sign_bytes r ≡ 0 → drop (sign_bytes (g ++ r)) (g ++ r) ≡ r
unfolding sign_bytes plus_bytes pick
sign_dropped r no_sign e = ap (λ (k : ℕ). drop k r) e
sign_dropped r plus e = refl
sign_dropped r minus e = refl

-- What is dropped is a sign or nothing.
sign_of : (s : List ℕ) → Sign (take (sign_bytes s) s)
unfolding sign_bytes plus_bytes pick
sign_of [] = no_sign
sign_of (b ∷ s) = go (eqb b 45) refl (eqb b 43) refl
  where
    go : (t : Bool) → eqb b 45 ≡ t → (u : Bool) → eqb b 43 ≡ u → Sign (take (pick t 1 (pick u 1 0)) (b ∷ s))
    go true p u q = subst (λ (x : ℕ). Sign (x ∷ [])) (sym (eqb-true b 45 p)) minus
    go false p true q = subst (λ (x : ℕ). Sign (x ∷ [])) (sym (eqb-true b 43 q)) plus
    go false p false q = no_sign

-- A digit is no sign.
digits-unsigned : (d r : List ℕ) → Digits d → 1 ≤ length d → sign_bytes (d ++ r) ≡ 0
unfolding sign_bytes plus_bytes
digits-unsigned [] r e h = absurd (omega arith)
digits-unsigned (b ∷ d) r e h =
    let p : (48 ≤ b) × (b < 58) = digit_range 10 b (digits-split b d e).0 in
    sym (pick-false _ (ne_eqb b 45 (λ q. omega arith)) (pick-false _ (ne_eqb b 43 (λ q. omega arith)) refl))

-- From the grammar to the test.
exponent-signed : {g : List ℕ} (d : List ℕ) → Sign g → Digits d → 1 ≤ length d → some_digits (drop (sign_bytes (g ++ d)) (g ++ d)) ≡ true
exponent-signed d g e h = ap some_digits (sign_dropped d g (ap sign_bytes (sym (append-nil d)) ∙ digits-unsigned d [] e h)) ∙ some_are d e h

exponent-is : {x : List ℕ} → Exponent x → is_exponent x ≡ true
unfolding is_exponent pick
exponent-is no_exponent = refl
exponent-is (exponent d small g e h) = exponent-signed d g e h
exponent-is (exponent d large g e h) = exponent-signed d g e h

exponent-first : {x : List ℕ} → Exponent x → no_digit x ≡ true
unfolding no_digit is_digit pick
exponent-first no_exponent = refl
exponent-first (exponent d small g e h) = refl
exponent-first (exponent d large g e h) = refl

-- Neither a point nor what else figures begin with is a sign.
point_unsigned : (s : List ℕ) → sign_bytes (46 ∷ s) ≡ 0
unfolding sign_bytes plus_bytes pick
point_unsigned s = refl

-- Behind the digits and the point of figures, with bytes behind them.
pointed_with : (d f x : List ℕ) → (d ++ (ascii "." ++ f)) ++ x ≡ d ++ (46 ∷ (f ++ x))
pointed_with d f x = append_assoc d (46 ∷ f) x

figures-unsigned : {f : List ℕ} (x : List ℕ) → Figures f → sign_bytes (f ++ x) ≡ 0
figures-unsigned x (whole d e h) = digits-unsigned d x e h
figures-unsigned x (pointed d f e q h) = ap sign_bytes (pointed_with d f x) ∙ go d e
  where
    go : (d : List ℕ) → Digits d → sign_bytes (d ++ (46 ∷ (f ++ x))) ≡ 0
    go [] e = point_unsigned (f ++ x)
    go (b ∷ d) e = digits-unsigned (b ∷ d) (46 ∷ (f ++ x)) e (omega arith)

-- Digits, and what stands behind them.
module _ (d r : List ℕ) (e : Digits d) (q : no_digit r ≡ true) where
  unsigned_from : is_unsigned_decimal (d ++ r) ≡ is_fraction (length d) r
  unfolding is_unsigned_decimal
  unsigned_from =
      ap (λ (n : ℕ). is_fraction n (drop n (d ++ r))) (leading_are d r e q) ∙ ap (is_fraction (length d)) (drop-append_seam d r)

  rest_from : drop (leading_digits (d ++ r)) (d ++ r) ≡ r
  rest_from = ap (λ (n : ℕ). drop n (d ++ r)) (leading_are d r e q) ∙ drop-append_seam d r

-- What stands behind the first digits: nothing or an exponent, or a point with digits and perhaps an exponent.
mark-behind : (n b : ℕ) (s : List ℕ) → 1 ≤ n → eqb b 46 ≡ false → is_exponent (b ∷ s) ≡ true → is_fraction n (b ∷ s) ≡ true
unfolding is_fraction
mark-behind n b s h e q = sym (pick-false _ e (pick-false _ (ne_eqb n 0 (λ z. omega arith)) (sym q)))

whole_is : (n : ℕ) {x : List ℕ} → 1 ≤ n → Exponent x → is_fraction n x ≡ true
unfolding is_fraction
whole_is n h no_exponent = lt-ltb 0 n h
whole_is n h (exponent d small g e k) = mark-behind n _ _ h refl (exponent-is (exponent d small g e k))
whole_is n h (exponent d large g e k) = mark-behind n _ _ h refl (exponent-is (exponent d large g e k))

point_first : (s : List ℕ) → no_digit (46 ∷ s) ≡ true
unfolding no_digit is_digit pick
point_first s = refl

pointed-is : (n : ℕ) (f : List ℕ) {x : List ℕ} → Digits f → 1 ≤ n + length f → Exponent x → is_fraction n (46 ∷ (f ++ x)) ≡ true
unfolding is_fraction
pointed-is n f {x} e h y =
    let k : leading_digits (f ++ x) ≡ length f = leading_are f x e (exponent-first y) in
    let r : is_exponent (drop (leading_digits (f ++ x)) (f ++ x)) ≡ true = ap is_exponent (rest_from f x e (exponent-first y)) ∙ exponent-is y in
    sym (pick_true _ refl (pick-false _ (ne_eqb (n + leading_digits (f ++ x)) 0 (λ z. omega arith)) (sym r)))

figures_are : {f x : List ℕ} → Figures f → Exponent x → is_unsigned_decimal (f ++ x) ≡ true
figures_are {x = x} (whole d e h) y = unsigned_from d x e (exponent-first y) ∙ whole_is (length d) h y
figures_are {x = x} (pointed d f e q h) y =
    ap is_unsigned_decimal (pointed_with d f x) ∙ unsigned_from d (46 ∷ (f ++ x)) e (point_first (f ++ x)) ∙ pointed-is (length d) f q h y

pub figured-is : {s : List ℕ} → Figured s → is_decimal s ≡ true
unfolding is_decimal
figured-is (figured {x = x} g f y) = ap is_unsigned_decimal (sign_dropped _ g (figures-unsigned x f)) ∙ figures_are f y

-- From the test to the grammar.
exponent_of : (s : List ℕ) → is_exponent s ≡ true → Exponent s
unfolding is_exponent pick
exponent_of [] e = no_exponent
exponent_of (b ∷ s) e = go (eqb b 101) refl (eqb b 69) refl e
  where
    marked : {m : List ℕ} → Mark m → some_digits (drop (sign_bytes s) s) ≡ true → Exponent (m ++ s)
    marked {m} k h =
        let p : Digits (drop (sign_bytes s) s) × (1 ≤ length (drop (sign_bytes s) s)) = some_of _ h in
        subst (λ (r : List ℕ). Exponent (m ++ r)) (take-append-drop (sign_bytes s) s) (exponent _ k (sign_of s) p.0 p.1)

    go : (t : Bool) → eqb b 101 ≡ t → (u : Bool) → eqb b 69 ≡ u
        → pick t (some_digits (drop (sign_bytes s) s)) (pick u (some_digits (drop (sign_bytes s) s)) false) ≡ true → Exponent (b ∷ s)
    go true p u q h = subst (λ (x : ℕ). Exponent (x ∷ s)) (sym (eqb-true b 101 p)) (marked small h)
    go false p true q h = subst (λ (x : ℕ). Exponent (x ∷ s)) (sym (eqb-true b 69 q)) (marked large h)
    go false p false q h = absurd (false≢true h)

-- Figures and an exponent, or none, are these bytes.
record Unsigned (s : List ℕ) : Type 0 where
  front : List ℕ
  back : List ℕ
  parts : front ++ back ≡ s
  figures : Figures front
  exponents : Exponent back

-- Digits d, and behind them what the test takes.
fraction_of : (d r : List ℕ) → Digits d → is_fraction (length d) r ≡ true → Unsigned (d ++ r)
unfolding is_fraction pick
fraction_of d [] e h = record { front = d; back = []; parts = refl; figures = whole d e (ltb-true 0 (length d) h); exponents = no_exponent }
fraction_of d (b ∷ s) e h = go (eqb b 46) refl h
  where
    m : ℕ
    m = leading_digits s

    dotted : (t : Bool) → eqb (length d + m) 0 ≡ t → pick t false (is_exponent (drop m s)) ≡ true → Unsigned (d ++ (46 ∷ s))
    dotted true q k = absurd (false≢true k)
    dotted false q k =
        let n : length (take m s) ≡ m = length-take-le m s (before_le no_digit s) in
        record {
          front = d ++ (46 ∷ take m s);
          back = drop m s;
          parts = append_assoc d (46 ∷ take m s) (drop m s) ∙ ap (λ (r : List ℕ). d ++ (46 ∷ r)) (take-append-drop m s);
          figures = pointed d (take m s) e (leading-digits s) (omega (arith, n, eqb-false (length d + m) 0 q));
          exponents = exponent_of (drop m s) k;
        }

    plain : (t : Bool) → eqb (length d) 0 ≡ t → pick t false (is_exponent (b ∷ s)) ≡ true → Unsigned (d ++ (b ∷ s))
    plain true q k = absurd (false≢true k)
    plain false q k = record { front = d; back = b ∷ s; parts = refl; figures = whole d e (omega (arith, eqb-false (length d) 0 q)); exponents = exponent_of (b ∷ s) k }

    go : (t : Bool) → eqb b 46 ≡ t → pick t (pick (eqb (length d + m) 0) false (is_exponent (drop m s))) (pick (eqb (length d) 0) false (is_exponent (b ∷ s))) ≡ true → Unsigned (d ++ (b ∷ s))
    go true q k = subst (λ (x : ℕ). Unsigned (d ++ (x ∷ s))) (sym (eqb-true b 46 q)) (dotted (eqb (length d + m) 0) refl k)
    go false q k = plain (eqb (length d) 0) refl k

unsigned_of : (s : List ℕ) → is_unsigned_decimal s ≡ true → Unsigned s
unfolding is_unsigned_decimal
unsigned_of s h =
    let n : length (take (leading_digits s) s) ≡ leading_digits s = length-take-le (leading_digits s) s (before_le no_digit s) in
    subst Unsigned (take-append-drop (leading_digits s) s)
    (fraction_of (take (leading_digits s) s) (drop (leading_digits s) s) (leading-digits s) (ap (λ (k : ℕ). is_fraction k (drop (leading_digits s) s)) n ∙ h))

-- A sign, or none, and figures.
signed-figured : (s : List ℕ) → Unsigned (drop (sign_bytes s) s) → Figured s
signed-figured s u =
    subst Figured (ap (λ (r : List ℕ). take (sign_bytes s) s ++ r) u.parts ∙ take-append-drop (sign_bytes s) s) (figured (sign_of s) u.figures u.exponents)

pub is-figured : (s : List ℕ) → is_decimal s ≡ true → Figured s
unfolding is_decimal
is-figured s h = signed-figured s (unsigned_of (drop (sign_bytes s) s) h)

-- What is not digits is no integer.
no-digits : (s : List ℕ) → some_digits s ≡ false → digits 10 s ≡ nothing
unfolding some_digits digits pick
no-digits s e = go (eqb (length s) 0) (all_digits 10 s) e
  where
    go : (t u : Bool) → pick t false u ≡ false → pick t nothing (pick u (just (value_from 10 0 s)) nothing) ≡ nothing
    go true u h = refl
    go false true h = absurd (false≢true (sym h))
    go false false h = refl

nothing-signed : (t : Bool) (m : Maybe ℕ) (w : Wide) → m ≡ nothing → signed t m ≡ just w → ⊥
unfolding signed
nothing-signed t nothing w e h = let z : ◌≡◌ {A = ℕ} 0 1 = cc in omega arith
nothing-signed t (just n) w e h = let z : ◌≡◌ {A = ℕ} 0 1 = cc in omega arith

-- An integer is written so, too.
pub integer-figured : (s : List ℕ) (w : Wide) → integer_of s ≡ just w → Figured s
unfolding integer_of
integer-figured s w h = go (some_digits (drop (sign_bytes s) s)) refl
  where
    u : List ℕ
    u = drop (sign_bytes s) s

    go : (t : Bool) → some_digits u ≡ t → Figured s
    go true q = let p : Digits u × (1 ≤ length u) = some_of u q in signed-figured s (record { front = u; back = []; parts = append-nil u; figures = whole u p.0 p.1; exponents = no_exponent })
    go false q = absurd (nothing-signed (eqb (get_or s 0 0) 45) (digits 10 u) w (no-digits u q) h)
