-- Laws of digits and numbers.
use Prim.Native.Nat.{ℕ, ◌+◌, ◌-◌, ◌*◌, ◌≤◌, ◌<◌, min}
use mathlib.Core.Bool.{Bool, true, false, true≢false}
use mathlib.Core.Path.{◌≡◌, refl, sym, ap, ◌∙◌}
use mathlib.Core.List.{List, [], ◌∷◌}
use native.Mathlib.Nat.{mul-le-mul_right, le_trans}
use native.Mathlib.Numerals.{add-one}
use native.Mathlib.Omega.{arith}
use borrow.Author.Tests.{ltb-true, leb-true, leb-false}
use lib.Dec.{ltb, leb}
use lib.ListN.{length, get_or, drop, drop_of_length-le}
use lib.Seq.{drop-cons}
use Rattle.reading.specs.Pick.{pick}
use Rattle.reading.proofs.Picks.{pick_lt, pick_ge}
use Rattle.std.specs.Prelude.{Option, Some, None, is_some}
use Rattle.recorded.specs.Numbers.{DigitIs, digit, number_from}

-- A digit is at most 16.
pub digit-small : (b : ℕ) → digit b ≤ 16
unfolding digit pick
digit-small b = go (ltb b 48) (ltb b 58) refl (ltb b 97) (ltb b 103) refl
  where
    go : (t u : Bool) → ltb b 58 ≡ u → (v w : Bool) → ltb b 103 ≡ w → pick t 16 (pick u (b - 48) (pick v 16 (pick w (b - 87) 16))) ≤ 16
    go true u e v w f = omega arith
    go false true e v w f = omega (arith, ltb-true b 58 e)
    go false false e true w f = omega arith
    go false false e false true f = omega (arith, ltb-true b 103 f)
    go false false e false false f = omega arith

-- Whether a byte is a digit, as the code has it.
pub digit_some : {d : ℕ} (o : Option ℕ) {t : Bool} → DigitIs d o → t ≡ is_some o → t ≡ true → d < 16
digit_some None h e q = absurd (true≢false (sym q ∙ e))
digit_some (Some n) h e q = h.1

pub digit_none : {d : ℕ} (o : Option ℕ) {t : Bool} → DigitIs d o → t ≡ is_some o → t ≡ false → 16 ≤ d
digit_none None h e q = omega (arith, h)
digit_none (Some n) h e q = absurd (true≢false (sym e ∙ q))

-- 0, which stands for the bytes behind a text, is no digit.
pub digit-zero : digit 0 ≡ 16
unfolding digit pick
digit-zero = refl

-- The number so far is at most the whole number.
pub number_grows : (base v : ℕ) (s : List ℕ) → 1 ≤ base → v ≤ number_from base v s
unfolding number_from pick
number_grows base v [] h = omega arith
number_grows base v (b ∷ s) h =
    let k : v ≤ base * v + digit b = omega (arith, mul-le-mul_right v h) in
    go (ltb (digit b) base) (le_trans k (number_grows base (base * v + digit b) s h))
  where
    go : (t : Bool) → v ≤ number_from base (base * v + digit b) s → v ≤ pick t (number_from base (base * v + digit b) s) v
    go true k = k
    go false k = omega arith

-- A number that is cut to a limit goes on to the same number, below the limit.
capped : (limit base x : ℕ) (s : List ℕ) → 1 ≤ base → min limit (number_from base x s) ≡ min limit (number_from base (min limit x) s)
capped limit base x s h = go (leb x limit) refl
  where
    go : (t : Bool) → leb x limit ≡ t → min limit (number_from base x s) ≡ min limit (number_from base (min limit x) s)
    go true e = let k : min limit x ≡ x = omega (arith, leb-true x limit e) in ap (λ (n : ℕ). min limit (number_from base n s)) (sym k)
    go false e = omega (arith, leb-false x limit e, number_grows base x s h, number_grows base (min limit x) s h)

-- The number from a place on is v and what the digits from the place i on give behind it, below a limit.
module _ (limit base : ℕ) (s : List ℕ) (at i v : ℕ) (l : v ≤ limit) (inv : min limit (number_from base 0 (drop at s)) ≡ min limit (number_from base v (drop i s))) where
  -- The text ends.
  pub number-end : length s ≤ i → v ≡ min limit (number_from base 0 (drop at s))
  unfolding number_from
  number-end h =
      let e : number_from base v (drop i s) ≡ v = rw (drop_of_length-le s {i = i} h) in
      omega (arith, inv, e)

  module _ (h : i < length s) where
    -- The next byte is no digit.
    pub number_stop : base ≤ digit (get_or s i 0) → v ≡ min limit (number_from base 0 (drop at s))
    unfolding number_from
    number_stop k =
        let q : number_from base v (drop i s) ≡ v = rw (drop-cons s i 0) (sym (pick_ge _ k refl)) in
        omega (arith, inv, q)

    -- It is one.
    pub number-next : digit (get_or s i 0) < base → {w : ℕ} → w ≡ min limit (base * v + digit (get_or s i 0)) → (w ≤ limit) × (min limit (number_from base 0 (drop at s)) ≡ min limit (number_from base w (drop (i + 1) s)))
    unfolding number_from
    number-next k {w} q = (
      omega (arith, q),
      inv
          ∙ rw (drop-cons s i 0, add-one) (ap (min limit) (sym (pick_lt _ k refl)))
          ∙ capped limit base (base * v + digit (get_or s i 0)) (drop (i + 1) s) (omega arith)
          ∙ ap (λ (n : ℕ). min limit (number_from base n (drop (i + 1) s))) (sym q),
    )
