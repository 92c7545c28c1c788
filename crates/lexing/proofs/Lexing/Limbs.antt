-- Laws of 128-bit numbers as four words. Numbers of more than 2^96 are kept out of `omega`.
use Prim.Native.Nat.{ℕ, zero, suc, ◌+◌, ◌-◌, ◌*◌, ◌/◌, ◌%◌, ◌^◌, ◌<◌, ◌≤◌}
use mathlib.Core.Path.{◌≡◌, refl, sym, ap, ◌∙◌}
use native.Mathlib.Omega.{arith}
use native.Mathlib.Nat.{mul-add, mul_left_comm, mul-suc, mul-le-mul_left, le_trans, le-add_left, add-zero, mul_assoc, mod-eq_of_lt}
use Rattle.words.specs.declared.quad.Quad.{Quad}
use Rattle.words.specs.Quads.{as_wide, InFour}
use Rattle.reading.specs.Number.{Wide, wide_of, value_of, minus_of}
use Rattle.lexing.specs.Quads.{Fit, Grows}

-- m times a word.
pub product : (m w : ℕ) → w < 2 ^ 32 → m * w + m ≤ m * 2 ^ 32
product m w h = omega (arith, mul-le-mul_left m h, mul-suc m w)

-- A word times m, with the carry from below, and what lies above it.
carry : (m w R k lo hi rest : ℕ) → lo + 2 ^ 32 * hi ≡ m * w + k → rest ≡ m * R + hi → lo + 2 ^ 32 * rest ≡ m * (w + 2 ^ 32 * R) + k
carry m w R k lo hi rest e f = rw (mul-add, mul_left_comm m (2 ^ 32)) (omega arith)

-- Four words times m.
pub grown : (q r : Wide) (m digit i j k over : ℕ) → Fit r
    → r.a + 2 ^ 32 * i ≡ m * q.a + digit → r.b + 2 ^ 32 * j ≡ m * q.b + i → r.c + 2 ^ 32 * k ≡ m * q.c + j → r.d + 2 ^ 32 * over ≡ m * q.d + k
    → Grows q m digit r over
unfolding value_of
grown q r m digit i j k over f e₁ e₂ e₃ e₄ =
    record {
      sum = carry m q.a _ digit r.a i _ e₁ (carry m q.b _ i r.b j _ e₂ (carry m q.c q.d j r.c k _ e₃ e₄));
      fit = f;
    }

module _ (q r : Wide) (m digit over : ℕ) (g : Grows q m digit r over) where
  -- Nothing goes over.
  pub grown-value : over ≡ 0 → value_of r ≡ m * value_of q + digit
  unfolding value_of
  grown-value z = let k : r.d + 2 ^ 32 * over ≡ r.d = omega arith in rw k at g.sum

  -- Something goes over.
  pub grown-over : (over ≡ 0 → ⊥) → 2 ^ 128 ≤ m * value_of q + digit
  grown-over z =
      let k : 2 ^ 96 ≤ r.b + 2 ^ 32 * (r.c + 2 ^ 32 * (r.d + 2 ^ 32 * over)) = omega arith in
      rw (← g.sum) (le_trans (mul-le-mul_left (2 ^ 32) k) (le-add_left _ r.a))

low : (a y : ℕ) → a < 2 ^ 32 → (a + 2 ^ 32 * y) % 2 ^ 32 ≡ a
low a y h = omega arith

high : (a y : ℕ) → a < 2 ^ 32 → (a + 2 ^ 32 * y) / 2 ^ 32 ≡ y
high a y h = omega arith

small : (a : ℕ) → a < 2 ^ 32 → a % 2 ^ 32 ≡ a
small a h = omega arith

-- The words of the number that words stand for.
pub wide_back : (w : Wide) → Fit w → wide_of (value_of w) ≡ w
unfolding value_of wide_of
wide_back w f = rw (low _ _ f.a, high _ _ f.a, low _ _ f.b, high _ _ f.b, low _ _ f.c, high _ _ f.c, small _ f.d)

-- Four words stand for a number below 2^128.
pub value-fits : (w : Wide) → Fit w → value_of w < 2 ^ 128
unfolding value_of
value-fits w f =
    let y = w.b + 2 ^ 32 * (w.c + 2 ^ 32 * w.d) in
    let k : y < 2 ^ 96 = omega (arith, f.b, f.c, f.d) in
    let j : suc (w.a + 2 ^ 32 * y) ≤ 2 ^ 32 * suc y = omega (arith, f.a) in
    le_trans j (mul-le-mul_left (2 ^ 32) k)

-- A word and minus it, and what lies above them.
join : (K z lo w k hi rest' rest : ℕ) → lo + w + k ≡ 2 ^ 32 * hi → rest' + rest + hi ≡ K * z → (lo + 2 ^ 32 * rest') + (w + 2 ^ 32 * rest) + k ≡ 2 ^ 32 * K * z
join K z lo w k hi rest' rest e f = rw mul_assoc (omega arith)

opposite : (M x y : ℕ) → y + x ≡ M → y < M → y ≡ (M - x) % M
opposite M x y e h = let d : M - x ≡ y = omega arith in rw d (sym (mod-eq_of_lt h))

no-two : (n : ℕ) → suc (suc n) ≤ 1 → ⊥
no-two n h = omega arith

no-sum : (x y : ℕ) → x + y ≡ 0 → (x ≡ 0) × (y ≡ 0)
no-sum x y e = (omega arith, omega arith)

minus : (q r : Wide) (z : ℕ) → Fit r → z ≤ 1 → value_of r + value_of q ≡ 2 ^ 128 * z → r ≡ minus_of q
unfolding minus_of
minus q r zero f h e = let n = no-sum (value_of r) (value_of q) e in sym (wide_back r f) ∙ rw (n.0, n.1)
minus q r (suc zero) f h e = sym (wide_back r f) ∙ ap wide_of (opposite (2 ^ 128) (value_of q) (value_of r) e (value-fits r f))
minus q r (suc (suc z)) f h e = absurd (no-two z h)

-- Four words and minus each of them, with what is borrowed.
pub flipped : (q r : Wide) (i j k l : ℕ) → Fit r → l ≤ 1
    → r.a + q.a + 0 ≡ 2 ^ 32 * i → r.b + q.b + i ≡ 2 ^ 32 * j → r.c + q.c + j ≡ 2 ^ 32 * k → r.d + q.d + k ≡ 2 ^ 32 * l
    → r ≡ minus_of q
unfolding value_of
flipped q r i j k l f h e₁ e₂ e₃ e₄ =
    minus q r l f h (sym (add-zero _) ∙ join (2 ^ 96) l r.a q.a 0 i _ _ e₁ (join (2 ^ 64) l r.b q.b i j _ _ e₂ (join (2 ^ 32) l r.c q.c j k _ _ e₃ e₄)))

-- Four words of zero.
pub four_zero : (q : Quad) → InFour 0 q → Fit (as_wide q) × (value_of (as_wide q) ≡ 0)
unfolding wide_of value_of
four_zero q e = rw e (record { a = omega arith; b = omega arith; c = omega arith; d = omega arith }, refl)
