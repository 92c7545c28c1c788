-- The laws of numbers in digits, and of 128-bit numbers as four words.
use Prim.Native.Nat.{ℕ, suc, ◌+◌, ◌-◌, ◌*◌, ◌/◌, ◌%◌, ◌^◌, ◌≤◌, ◌<◌}
use mathlib.Core.Bool.{Bool, true, false, false≢true}
use mathlib.Core.Path.{◌≡◌, refl, ap, ◌∙◌}
use mathlib.Core.List.{List, [], ◌∷◌}
use native.Mathlib.Nat.{mul-suc, mul_comm, mul_assoc, one-mul, pow-zero, pow-suc, mul-le-mul_right, le_trans, mod-add-div, div-lt_iff_lt-mul}
use native.Mathlib.Omega.{arith}
use lib.Dec.{ltb}
use lib.ListN.{length}
use borrow.Author.Tests.{ltb-true, ltb-false}
use Rattle.reading.specs.Pick.{pick}
use Rattle.reading.specs.Number.{wide_of, value_of, is_digit, all_digits, value_from}

three : (x : ℕ) → x < 2 ^ 96 → x % 2 ^ 32 + 2 ^ 32 * (x / 2 ^ 32 % 2 ^ 32 + 2 ^ 32 * (x / 2 ^ 32 / 2 ^ 32 % 2 ^ 32)) ≡ x
three x h = omega arith

-- The number that the words of a number stand for.
pub value-back : (n : ℕ) → n < 2 ^ 128 → value_of (wide_of n) ≡ n
unfolding value_of wide_of
value-back n h =
    let k : n / 2 ^ 32 < 2 ^ 96 = (div-lt_iff_lt-mul {k = 2 ^ 32} {x = n} {y = 2 ^ 96} (omega arith)).1 h in
    ap (λ (y : ℕ). n % 2 ^ 32 + 2 ^ 32 * y) (three (n / 2 ^ 32) k) ∙ mod-add-div n (2 ^ 32)

-- A digit lies between `0` and the last one of its base.
pub digit_range : (base b : ℕ) → is_digit base b ≡ true → (48 ≤ b) × (b < 48 + base)
unfolding is_digit pick
digit_range base b e = go (ltb b 48) refl e
  where
    go : (t : Bool) → ltb b 48 ≡ t → pick t false (ltb b (48 + base)) ≡ true → (48 ≤ b) × (b < 48 + base)
    go true q h = absurd (false≢true h)
    go false q h = (ltb-false b 48 q, ltb-true b (48 + base) h)

-- One digit more behind a number, and powers of the base behind both.
one_more : (base v d p : ℕ) → d < base → suc (base * v + d) * p ≤ suc v * (p * base)
one_more base v d p h =
    let k : suc (base * v + d) ≤ base * suc v = omega (arith, mul-suc base v) in
    let e : base * suc v * p ≡ suc v * (p * base) = ap (λ (x : ℕ). x * p) (mul_comm base (suc v)) ∙ mul_assoc (suc v) base p ∙ ap (λ (x : ℕ). suc v * x) (mul_comm base p) in
    rw (← e) (mul-le-mul_right p k)

-- Digits behind a number v give a number below v + 1 times as many powers of the base as there are digits.
digits-under : (base v : ℕ) (s : List ℕ) → all_digits base s ≡ true → value_from base v s < suc v * base ^ length s
unfolding all_digits value_from pick
digits-under base v [] e = let k : v < suc v * 1 = omega arith in rw (pow-zero base) k
digits-under base v (b ∷ s) e = go (is_digit base b) refl e (digits-under base (base * v + (b - 48)) s)
  where
    go : (t : Bool) → is_digit base b ≡ t → pick t (all_digits base s) false ≡ true
        → (all_digits base s ≡ true → value_from base (base * v + (b - 48)) s < suc (base * v + (b - 48)) * base ^ length s) → value_from base (base * v + (b - 48)) s < suc v * base ^ suc (length s)
    go true q h k =
        let p : (48 ≤ b) × (b < 48 + base) = digit_range base b q in
        rw (pow-suc base (length s)) (le_trans (k h) (one_more base v (b - 48) (base ^ length s) (omega arith)))
    go false q h k = absurd (false≢true h)

-- The number that digits give is below the power of the base that has so many digits.
pub digits-below : (base : ℕ) (s : List ℕ) → all_digits base s ≡ true → value_from base 0 s < base ^ length s
digits-below base s e = rw (one-mul (base ^ length s)) at (digits-under base 0 s e)
