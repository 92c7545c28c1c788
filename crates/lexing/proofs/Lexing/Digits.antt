-- Laws of numbers in digits.
use Prim.Native.Nat.{ℕ, ◌+◌, ◌-◌, ◌*◌, ◌<◌, ◌≤◌}
use mathlib.Core.Bool.{Bool, true, false}
use mathlib.Core.Path.{◌≡◌, refl, sym}
use mathlib.Core.List.{List, [], ◌∷◌}
use native.Mathlib.Numerals.{add-one}
use native.Mathlib.Nat.{mul-le-mul_right, le_trans}
use native.Mathlib.Omega.{arith}
use lib.Dec.{ltb}
use lib.ListN.{length, get_or, drop, drop_of_length-le}
use lib.Seq.{drop-cons}
use borrow.Author.Tests.{ltb-true, ltb-false}
use Rattle.reading.specs.Pick.{pick}
use Rattle.reading.specs.Bytes.{Maybe, nothing, just}
use Rattle.reading.specs.Number.{is_digit, all_digits, value_from, below, digits}
use Rattle.reading.proofs.Picks.{pick_lt, pick_ge, pick_eq, pick_ne}

-- The number that bytes give behind the number v, where they are digits.
unfoldable pub digits_from : ℕ → ℕ → List ℕ → Maybe ℕ
digits_from base v s = pick (all_digits base s) (just (value_from base v s)) nothing

module _ (base : ℕ) (s : List ℕ) where
  pub digits-none : length s ≡ 0 → digits base s ≡ nothing
  unfolding digits
  digits-none e = sym (pick_eq _ e refl)

  pub digits-some : (length s ≡ 0 → ⊥) → digits base s ≡ digits_from base 0 s
  unfolding digits digits_from
  digits-some h = sym (pick_ne _ h refl)

module _ (s : List ℕ) (i base v : ℕ) where
  pub from_end : length s ≤ i → digits_from base v (drop i s) ≡ just v
  unfolding digits_from all_digits value_from pick
  from_end h = rw drop_of_length-le

  -- The next byte is b.
  module _ (h : i < length s) (b : ℕ) (eb : b ≡ get_or s i 0) where
    pub from_bad : is_digit base b ≡ false → digits_from base v (drop i s) ≡ nothing
    unfolding digits_from all_digits value_from pick
    from_bad e = rw (drop-cons s i 0, ← eb, e)

    pub from_more : is_digit base b ≡ true → digits_from base v (drop i s) ≡ digits_from base (base * v + (b - 48)) (drop (i + 1) s)
    unfolding digits_from all_digits value_from pick
    from_more e = rw (drop-cons s i 0, ← eb, e, add-one)

-- What a digit is.
pub digit_range : (base b : ℕ) → is_digit base b ≡ true → (48 ≤ b) × (b < 48 + base)
unfolding is_digit pick
digit_range base b e = go (ltb b 48) refl e
  where
    go : (t : Bool) → ltb b 48 ≡ t → pick t false (ltb b (48 + base)) ≡ true → (48 ≤ b) × (b < 48 + base)
    go true q e = let z : ◌≡◌ {A = ℕ} 0 1 = cc in omega arith
    go false q e = (ltb-false b 48 q, ltb-true b (48 + base) e)

-- A product with a base.
pub base_times : (base v : ℕ) → base ≤ 10 → base * v ≤ 10 * v
base_times base v h = mul-le-mul_right v h

-- The number so far is at most the whole number.
value_grows : (base v : ℕ) (s : List ℕ) → 1 ≤ base → v ≤ value_from base v s
unfolding value_from
value_grows base v [] h = omega arith
value_grows base v (b ∷ s) h =
    let k : v ≤ base * v + (b - 48) = omega (arith, mul-le-mul_right v h) in
    le_trans k (value_grows base (base * v + (b - 48)) s h)

-- A value below a limit, or not.
module _ (limit n : ℕ) where
  pub below-yes : n < limit → below limit (just n) ≡ just n
  unfolding below
  below-yes h = sym (pick_lt _ h refl)

  pub below-no : limit ≤ n → below limit (just n) ≡ nothing
  unfolding below
  below-no h = sym (pick_ge _ h refl)

-- A number that has reached a limit stays there.
pub from_over : (s : List ℕ) (limit base v : ℕ) → 1 ≤ base → limit ≤ v → below limit (digits_from base v s) ≡ nothing
unfolding digits_from below pick
from_over s limit base v h k = go (all_digits base s)
  where
    go : (t : Bool) → below limit (pick t (just (value_from base v s)) nothing) ≡ nothing
    go true = below-no limit (value_from base v s) (le_trans k (value_grows base v s h))
    go false = refl

-- The smaller of two limits decides.
pub below-below : (low limit : ℕ) → low ≤ limit → (m : Maybe ℕ) → below low (below limit m) ≡ below low m
unfolding below pick
below-below low limit h nothing = refl
below-below low limit h (just n) = go (ltb n limit) refl
  where
    go : (t : Bool) → ltb n limit ≡ t → below low (pick t (just n) nothing) ≡ pick (ltb n low) (just n) nothing
    go true e = refl
    go false e = sym (below-no low n (le_trans h (ltb-false n limit e)))
