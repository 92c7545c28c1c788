-- Laws of numbers in four words.
use Prim.Native.Nat.{ℕ, ◌+◌, ◌*◌, ◌/◌, ◌%◌, ◌^◌, ◌≤◌, ◌<◌}
use mathlib.Core.Bool.{true, false}
use mathlib.Core.Path.{◌≡◌, refl, sym, ap, ◌∙◌}
use native.Mathlib.Omega.{arith}
use native.Mathlib.Nat.{le_trans, pow-le-pow_right}
use lib.Dec.{ltb}
use lib.ListN.{length}
use borrow.Author.Tests.{leb-true, ltb-true, ltb-false, lt-ltb, le-ltb}
use Rattle.reading.specs.Number.{Wide, value_of}
use Rattle.writing.specs.Digits.{decimal}
use Rattle.reading.proofs.Values.{value-back}
use Rattle.words.specs.declared.quad.Quad.{Quad}
use Rattle.words.specs.Quads.{as_wide, InFour}
use Rattle.writing.specs.Quads.{Tenths}
use Rattle.writing.proofs.Decimals.{decimal-most}

-- A word in front of a number.
wider : (x y b : ℕ) → x < 2 ^ 32 → y < b → x + 2 ^ 32 * y < 2 ^ 32 * b
wider x y b h k = omega (arith, h, k)

below : (n a b : ℕ) → n < a → a ≤ b → n < b
below n a b h k = omega (arith, h, k)

-- A number of four words is below 2^128, and has at most 39 digits.
pub quad_below : (w : Wide) → w.a < 2 ^ 32 → w.b < 2 ^ 32 → w.c < 2 ^ 32 → w.d < 2 ^ 32 → value_of w < 2 ^ 128
unfolding value_of
quad_below w ha hb hc hd =
    let c : w.c + 2 ^ 32 * w.d < 2 ^ 64 = wider w.c w.d (2 ^ 32) hc hd in
    let b : w.b + 2 ^ 32 * (w.c + 2 ^ 32 * w.d) < 2 ^ 96 = wider w.b _ (2 ^ 64) hb c in
    wider w.a _ (2 ^ 96) ha b

pub quad_long : (w : Wide) → w.a < 2 ^ 32 → w.b < 2 ^ 32 → w.c < 2 ^ 32 → w.d < 2 ^ 32 → length (decimal (value_of w)) ≤ 39
quad_long w ha hb hc hd =
    decimal-most 38 (value_of w) (below (value_of w) (2 ^ 128) (10 ^ 39) (quad_below w ha hb hc hd) (leb-true (2 ^ 128) (10 ^ 39) refl))

-- A word that is not the lowest is not 0, or they all are.
module _ (w : Wide) where
  pub more-b : (w.b ≡ 0 → ⊥) → false ≡ ltb (value_of w) (2 ^ 32)
  unfolding value_of
  more-b h = sym (le-ltb (value_of w) (2 ^ 32) (omega (arith, h)))

  pub more-c : (w.c ≡ 0 → ⊥) → false ≡ ltb (value_of w) (2 ^ 32)
  unfolding value_of
  more-c h = sym (le-ltb (value_of w) (2 ^ 32) (omega (arith, h)))

  pub more-d : (w.d ≡ 0 → ⊥) → false ≡ ltb (value_of w) (2 ^ 32)
  unfolding value_of
  more-d h = sym (le-ltb (value_of w) (2 ^ 32) (omega (arith, h)))

  pub none_more : w.a < 2 ^ 32 → w.b ≡ 0 → w.c ≡ 0 → w.d ≡ 0 → true ≡ ltb (value_of w) (2 ^ 32)
  unfolding value_of
  none_more h b c d = sym (lt-ltb (value_of w) (2 ^ 32) (omega (arith, h, b, c, d)))

  pub digit-more : ltb (value_of w) (2 ^ 32) ≡ false → false ≡ ltb (value_of w) 10
  digit-more h = sym (le-ltb (value_of w) 10 (omega (arith, ltb-false (value_of w) (2 ^ 32) h)))

  -- A number below 2^32 is its lowest word.
  pub lowest : value_of w < 2 ^ 32 → value_of w ≡ w.a
  unfolding value_of
  lowest h = omega (arith, h)

  -- So is a number below ten, and one that is not is not below ten.
  pub digit_low : ltb (value_of w) (2 ^ 32) ≡ true → ltb w.a 10 ≡ ltb (value_of w) 10
  digit_low h = ap (λ (n : ℕ). ltb n 10) (sym (lowest (ltb-true (value_of w) (2 ^ 32) h)))

  -- The tenth of a number of one word.
  pub tenth_low : ltb (value_of w) (2 ^ 32) ≡ true → Tenths (value_of w) (w.a / 10) (w.a % 10)
  tenth_low h = record { sum = omega (arith, lowest (ltb-true (value_of w) (2 ^ 32) h)); digit = omega arith }

  -- The tenth of a number, word by word: what is left of a word stands in front of the next one.
  pub tenth_words : (t : Wide) (x y z last : ℕ) → t.d * 10 + x ≡ 0 * 2 ^ 32 + w.d → t.c * 10 + y ≡ x * 2 ^ 32 + w.c → t.b * 10 + z ≡ y * 2 ^ 32 + w.b → t.a * 10 + last ≡ z * 2 ^ 32 + w.a → last < 10 → Tenths (value_of w) (value_of t) last
  unfolding value_of
  tenth_words t x y z last hd hc hb ha h = record { sum = omega (arith, hd, hc, hb, ha); digit = h }

-- A word alone, as four words and as a number of the code.
pub word_alone : (n : ℕ) → value_of (record { a = n; b = 0; c = 0; d = 0 }) ≡ n
unfolding value_of
word_alone n = omega arith

pub word_value : (n : ℕ) (q : Quad) → n < 2 ^ 32 → InFour n q → value_of (as_wide q) ≡ n
word_value n q h e =
    ap (λ (x : Quad). value_of (as_wide x)) e
    ∙ value-back n (le_trans h (pow-le-pow_right {n = 2} (omega arith) {i = 32} {j = 128} (omega arith)))

pub digit-lowest : (w : Wide) → value_of w < 10 → (w.a < 10) × (value_of w ≡ w.a)
digit-lowest w h = let e : value_of w ≡ w.a = lowest w (omega (arith, h)) in (omega (arith, e, h), e)
