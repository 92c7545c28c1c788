-- Decimal digits that are written are read back as the number, and have no zero in front.
use Prim.Native.Nat.{ℕ, zero, suc, ◌+◌, ◌-◌, ◌*◌, ◌/◌, ◌%◌, ◌≤◌, ◌<◌}
use mathlib.Core.Bool.{Bool, true, false}
use mathlib.Core.Path.{◌≡◌, refl, ap, ◌∙◌}
use mathlib.Core.List.{List, [], ◌∷◌, ◌++◌}
use native.Mathlib.Omega.{arith}
use lib.Dec.{ltb}
use lib.ListN.{length, get_or, length-append}
use borrow.Author.Tests.{ltb-true, ltb-false, lt-ltb, le-ltb, ne_eqb}
use Rattle.reading.specs.Pick.{pick}
use Rattle.reading.specs.Bytes.{just}
use Rattle.reading.specs.Number.{is_digit, all_digits, value_from, digits}
use Rattle.writing.specs.Digits.{figures, decimal}
use Rattle.writing.proofs.Decimals.{figures-small, figures-large}

-- One digit more.
value_append : (v : ℕ) (xs : List ℕ) (b : ℕ) → value_from 10 v (xs ++ (b ∷ [])) ≡ 10 * value_from 10 v xs + (b - 48)
unfolding value_from
value_append v [] b = refl
value_append v (x ∷ xs) b = value_append (10 * v + (x - 48)) xs b

-- A test behind which the second test follows from the first.
pick_along : {y z : Bool} (t : Bool) → (y ≡ true → z ≡ true) → pick t y false ≡ true → pick t z false ≡ true
unfolding pick
pick_along true f e = f e
pick_along false f e = e

all_append : (xs : List ℕ) (b : ℕ) → all_digits 10 xs ≡ true → is_digit 10 b ≡ true → all_digits 10 (xs ++ (b ∷ [])) ≡ true
unfolding all_digits pick
all_append [] b h k = rw k refl
all_append (x ∷ xs) b h k = pick_along (is_digit 10 x) (λ e. all_append xs b e k) h

-- A digit as a byte.
is_digit_lem : (d : ℕ) → d < 10 → is_digit 10 (48 + d) ≡ true
unfolding is_digit pick
is_digit_lem d h = rw (le-ltb (48 + d) 48 (omega arith)) (lt-ltb (48 + d) 58 (omega (arith, h)))

-- The first stays the first.
first_append : (xs : List ℕ) (b : ℕ) → 0 < length xs → get_or (xs ++ (b ∷ [])) 0 0 ≡ get_or xs 0 0
first_append [] b h = absurd (omega (arith, h))
first_append (x ∷ xs) b h = refl

-- Bytes are the decimal digits of a number, at least one, and the first is a zero only in the number 0.
pub record DigitsOf (n : ℕ) (xs : List ℕ) : Type 0 where
  pub value : value_from 10 0 xs ≡ n
  pub all : all_digits 10 xs ≡ true
  pub some : 0 < length xs
  pub first : 0 < n → 48 < get_or xs 0 0

-- One digit, or the tenth's and one more.
back_one : (n : ℕ) → n < 10 → DigitsOf n ((48 + n) ∷ [])
unfolding value_from all_digits pick
back_one n h = record { value = omega arith; all = rw (is_digit_lem n h) refl; some = omega arith; first = λ p. omega (arith, p) }

back_more : (n : ℕ) (xs : List ℕ) → 10 ≤ n → DigitsOf (n / 10) xs → DigitsOf n (xs ++ ((48 + n % 10) ∷ []))
back_more n xs h b =
    record {
      value = value_append 0 xs (48 + n % 10) ∙ omega (arith, b.value);
      all = all_append xs (48 + n % 10) b.all (is_digit_lem (n % 10) (omega arith));
      some = omega (arith, length-append xs ((48 + n % 10) ∷ []));
      first = λ _. omega (arith, b.first (omega (arith, h)), first_append xs (48 + n % 10) b.some);
    }

figures-back : (f n : ℕ) → n < f → DigitsOf n (figures f n)
figures-back zero n h = absurd (omega (arith, h))
figures-back (suc f) n h = go (ltb n 10) refl (figures-back f (n / 10))
  where
    go : (t : Bool) → ltb n 10 ≡ t → (n / 10 < f → DigitsOf (n / 10) (figures f (n / 10))) → DigitsOf n (figures (suc f) n)
    go true e ih = rw (figures-small f n e) (back_one n (ltb-true n 10 e))
    go false e ih =
        let b : 10 ≤ n = ltb-false n 10 e in
        rw (figures-large f n e) (back_more n (figures f (n / 10)) b (ih (omega (arith, b, h))))

pub decimal-back : (n : ℕ) → DigitsOf n (decimal n)
unfolding decimal
decimal-back n = figures-back (suc n) n (omega arith)

-- The number, read back.
pub decimal-read : (n : ℕ) → digits 10 (decimal n) ≡ just n
unfolding digits pick
decimal-read n =
    let b : DigitsOf n (decimal n) = decimal-back n in
    rw (ne_eqb (length (decimal n)) 0 (λ e. omega (arith, e, b.some)), b.all) (ap just b.value)
