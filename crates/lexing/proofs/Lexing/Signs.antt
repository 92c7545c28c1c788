-- Laws of numbers with a sign in front, and of their ranges.
use Prim.Native.Nat.{ℕ, suc, ◌+◌, ◌-◌, ◌*◌, ◌^◌, ◌<◌, ◌≤◌}
use mathlib.Core.Bool.{Bool, true, false, ◌&&◌, true≢false}
use mathlib.Core.Path.{◌≡◌, refl, sym, ap, ◌∙◌}
use mathlib.Core.List.{List}
use native.Mathlib.Nat.{mul-le-mul_left, le_trans, le-add_left, le_refl}
use native.Mathlib.Omega.{arith}
use lib.Dec.{ltb, eqb}
use lib.ListN.{length, get_or, get_or-eq_default, take, drop, length-drop}
use borrow.Author.Tests.{leb-true, ltb-true, ltb-false, eqb-true, eqb-false}
use Rattle.std.specs.Prelude.{Option, Some, None}
use Rattle.reading.specs.Pick.{pick}
use Rattle.reading.specs.Bytes.{Maybe, nothing, just}
use Rattle.reading.specs.Number.{Wide, wide_of, value_of, minus_of, below, digits, plus_bytes, sign_bytes, unsigned, signed, integer_of}
use Rattle.words.specs.declared.quad.Quad.{Quad}
use Rattle.words.specs.Quads.{as_quad, as_wide}
use Rattle.lexing.specs.Quads.{as_mag, as_integer, number_of, Fit}
use Rattle.reading.proofs.Picks.{pick_le, pick_gt, pick_lt, pick_ge}
use Rattle.lexing.proofs.Lexing.Parts.{tail}
use Rattle.lexing.proofs.Lexing.Limbs.{wide_back}
use Rattle.lexing.proofs.Lexing.Digits.{below-below, digits-none}
use Rattle.lexing.proofs.Lexing.Mags.{mag_back}

-- No sign stands in front of nothing.
pub plus_none : (s : List ℕ) → length s ≡ 0 → 0 ≡ plus_bytes s
unfolding plus_bytes pick
plus_none s e = rw (get_or-eq_default s 0 {n = 0} (omega arith))

pub sign-none : (s : List ℕ) → length s ≡ 0 → 0 ≡ sign_bytes s
unfolding sign_bytes plus_bytes pick
sign-none s e = rw (get_or-eq_default s 0 {n = 0} (omega arith))

-- The number of four words against 2^127 and 2^32 K, by the words above the lowest.
under : (K a y : ℕ) → a < 2 ^ 32 → y < K → a + 2 ^ 32 * y < 2 ^ 32 * K
under K a y h k =
    let j : suc (a + 2 ^ 32 * y) ≤ 2 ^ 32 * suc y = omega arith in
    le_trans j (mul-le-mul_left (2 ^ 32) k)

over : (K a y : ℕ) → K ≤ y → 2 ^ 32 * K ≤ a + 2 ^ 32 * y
over K a y k = le_trans (mul-le-mul_left (2 ^ 32) k) (le-add_left _ a)

beyond : (K a y : ℕ) → K < y → 2 ^ 32 * K < a + 2 ^ 32 * y
beyond K a y k =
    let j : suc (2 ^ 32 * K) ≤ 2 ^ 32 * suc K = omega arith in
    le_trans j (le_trans (mul-le-mul_left (2 ^ 32) k) (le-add_left _ a))

beyond-low : (K a y : ℕ) → K ≤ y → 0 < a → 2 ^ 32 * K < a + 2 ^ 32 * y
beyond-low K a y k h = omega arith

module _ (w : Wide) where
  pub value-under : Fit w → w.d < 2 ^ 31 → value_of w < 2 ^ 127
  unfolding value_of
  value-under f h = under (2 ^ 95) w.a (w.b + 2 ^ 32 * (w.c + 2 ^ 32 * w.d)) f.a (omega (arith, f.b, f.c))

  pub value-over : 2 ^ 31 ≤ w.d → 2 ^ 127 ≤ value_of w
  unfolding value_of
  value-over h = over (2 ^ 95) w.a (w.b + 2 ^ 32 * (w.c + 2 ^ 32 * w.d)) (omega arith)

  -- The lowest integer, and what lies beyond it.
  pub value-lowest : {t : Bool} → t ≡ (eqb w.a 0 && (eqb w.b 0 && (eqb w.c 0 && eqb w.d (2 ^ 31)))) → t ≡ true → value_of w ≤ 2 ^ 127
  unfolding value_of
  value-lowest e t = go (eqb w.a 0) (eqb w.b 0) (eqb w.c 0) (eqb w.d (2 ^ 31)) refl refl refl refl (sym e ∙ t)
    where
      go : (p q r s : Bool) → eqb w.a 0 ≡ p → eqb w.b 0 ≡ q → eqb w.c 0 ≡ r → eqb w.d (2 ^ 31) ≡ s → (p && (q && (r && s))) ≡ true → value_of w ≤ 2 ^ 127
      go true true true true ea eb ec ed h = rw (eqb-true w.d (2 ^ 31) ed, eqb-true w.c 0 ec, eqb-true w.b 0 eb, eqb-true w.a 0 ea) (le_refl _)
      go true true true false ea eb ec ed h = absurd (true≢false (sym h))
      go true true false s ea eb ec ed h = absurd (true≢false (sym h))
      go true false r s ea eb ec ed h = absurd (true≢false (sym h))
      go false q r s ea eb ec ed h = absurd (true≢false (sym h))

  pub value-above : 2 ^ 95 < w.b + 2 ^ 32 * (w.c + 2 ^ 32 * w.d) → 2 ^ 127 < value_of w
  unfolding value_of
  value-above h = beyond (2 ^ 95) w.a (w.b + 2 ^ 32 * (w.c + 2 ^ 32 * w.d)) h

  pub value-past : {t : Bool} → t ≡ (eqb w.a 0 && (eqb w.b 0 && (eqb w.c 0 && eqb w.d (2 ^ 31)))) → t ≡ false → 2 ^ 31 ≤ w.d → 2 ^ 127 < value_of w
  unfolding value_of
  value-past e t h = go (eqb w.a 0) (eqb w.b 0) (eqb w.c 0) (eqb w.d (2 ^ 31)) refl refl refl refl (sym e ∙ t)
    where
      above : 2 ^ 95 < w.b + 2 ^ 32 * (w.c + 2 ^ 32 * w.d) → 2 ^ 127 < value_of w
      above k = beyond (2 ^ 95) w.a (w.b + 2 ^ 32 * (w.c + 2 ^ 32 * w.d)) k

      go : (p q r s : Bool) → eqb w.a 0 ≡ p → eqb w.b 0 ≡ q → eqb w.c 0 ≡ r → eqb w.d (2 ^ 31) ≡ s → (p && (q && (r && s))) ≡ false → 2 ^ 127 < value_of w
      go false q r s ea eb ec ed z = let n = eqb-false w.a 0 ea in beyond-low (2 ^ 95) w.a (w.b + 2 ^ 32 * (w.c + 2 ^ 32 * w.d)) (omega arith) (omega arith)
      go true false r s ea eb ec ed z = let n = eqb-false w.b 0 eb in above (omega arith)
      go true true false s ea eb ec ed z = let n = eqb-false w.c 0 ec in above (omega arith)
      go true true true false ea eb ec ed z = let n = eqb-false w.d (2 ^ 31) ed in above (omega arith)
      go true true true true ea eb ec ed z = absurd (true≢false z)

-- A magnitude as an integer, in range or not.
module _ (q : Quad) where
  pub positive_in : Fit (as_wide q) → value_of (as_wide q) < 2 ^ 127 → Some q ≡ as_integer (signed false (just (value_of (as_wide q))))
  unfolding signed
  positive_in f h = ap as_integer (pick_lt _ h (ap just (sym (wide_back (as_wide q) f))))

  pub positive-out : 2 ^ 127 ≤ value_of (as_wide q) → None ≡ as_integer (signed false (just (value_of (as_wide q))))
  unfolding signed
  positive-out h = ap as_integer (pick_ge _ h refl)

  pub negative_in : (r : Quad) → Fit (as_wide q) → value_of (as_wide q) ≤ 2 ^ 127 → r ≡ as_quad (minus_of (as_wide q)) → Some r ≡ as_integer (signed true (just (value_of (as_wide q))))
  unfolding signed
  negative_in r f h e =
      let m : minus_of (as_wide q) ≡ minus_of (wide_of (value_of (as_wide q))) = ap minus_of (sym (wide_back (as_wide q) f)) in
      ap Some e ∙ ap as_integer (pick_le _ h (ap just m))

  pub negative_out : 2 ^ 127 < value_of (as_wide q) → None ≡ as_integer (signed true (just (value_of (as_wide q))))
  unfolding signed
  negative_out h = ap as_integer (pick_gt _ h refl)

-- A magnitude of 2^128 or more is in no range.
signed_below : (minus : Bool) (m : Maybe ℕ) → signed minus (below (2 ^ 128) m) ≡ signed minus m
unfolding below signed pick
signed_below minus nothing = refl
signed_below minus (just n) = go minus (ltb n (2 ^ 128)) refl
  where
    go : (minus t : Bool) → ltb n (2 ^ 128) ≡ t → signed minus (pick t (just n) nothing) ≡ signed minus (just n)
    go minus true e = refl
    go true false e = pick_gt _ (le_trans (ltb-true (2 ^ 127) (2 ^ 128) refl) (ltb-false n (2 ^ 128) e)) refl
    go false false e = pick_ge _ (le_trans (leb-true (2 ^ 127) (2 ^ 128) refl) (ltb-false n (2 ^ 128) e)) refl

module _ (s : List ℕ) where
  -- Nothing is no integer.
  pub integer-none : length s ≡ 0 → None ≡ as_integer (integer_of s)
  unfolding integer_of signed
  integer-none e = let z : length (drop (sign_bytes s) s) ≡ 0 = omega (arith, length-drop (sign_bytes s) s) in rw (digits-none 10 (drop (sign_bytes s) s) z)

  -- A sign and a magnitude.
  pub integer-some : (k : ℕ) (m : Option Quad) (minus : Bool) → k ≡ sign_bytes s → m ≡ as_mag (below (2 ^ 128) (digits 10 (take (length s - k) (drop k s)))) → minus ≡ eqb (get_or s 0 0) 45
      → {r : Option Quad} → r ≡ as_integer (signed minus (number_of m)) → r ≡ as_integer (integer_of s)
  unfolding integer_of
  integer-some k m minus e f g h =
      let d : Maybe ℕ = digits 10 (drop k s) in
      let n : number_of m ≡ below (2 ^ 128) d = ap number_of (f ∙ ap (λ (l : List ℕ). as_mag (below (2 ^ 128) (digits 10 l))) (tail s k)) ∙ mag_back d in
      let i : signed minus d ≡ signed (eqb (get_or s 0 0) 45) (digits 10 (drop (sign_bytes s) s)) = rw (g, e) in
      h ∙ ap as_integer (ap (signed minus) n ∙ signed_below minus d ∙ i)

  -- A number that is given below a limit, by its words.
  pub unsigned-words : (base limit : ℕ) (m : Option Quad) → limit ≤ 2 ^ 128 → m ≡ as_mag (unsigned base (2 ^ 128) s) → below limit (number_of m) ≡ unsigned base limit s
  unfolding unsigned
  unsigned-words base limit m h e =
      let d : Maybe ℕ = digits base (drop (plus_bytes s) s) in
      ap (λ (x : Option Quad). below limit (number_of x)) e ∙ ap (below limit) (mag_back d) ∙ below-below limit (2 ^ 128) h d
