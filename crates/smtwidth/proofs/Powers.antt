-- Powers of two, and numbers of four words that are below one.
use Prim.Native.Nat.{ℕ, zero, suc, ◌+◌, ◌-◌, ◌*◌, ◌^◌, ◌≤◌, ◌<◌}
use mathlib.Core.Bool.{Bool, true, false}
use mathlib.Core.Path.{◌≡◌, refl, sym, ap, ◌∙◌}
use native.Mathlib.Omega.{arith}
use native.Mathlib.Nat.{add-zero, add-suc, mul-suc, mul_assoc, pow-suc, pow-le-pow_right, mul-le-mul_left, le_trans}
use lib.Dec.{ltb}
use borrow.Author.Tests.{lt-ltb, le-ltb, ltb-true, ltb-false}
use Rattle.reading.specs.Number.{Wide, value_of}
use Rattle.reading.proofs.Picks.{pick_eq, pick_ne}
use Rattle.writing.proofs.Quads.{quad_below}
use Rattle.smt.specs.Writer.{fits_width}

two-more : (i j : ℕ) → i ≤ j → 2 ^ i ≤ 2 ^ j
two-more i j h = pow-le-pow_right {n = 2} (omega arith) {i = i} {j = j} h

power-sum : (k e : ℕ) → 2 ^ (k + e) ≡ 2 ^ k * 2 ^ e
power-sum k zero = ap (λ (n : ℕ). 2 ^ n) (add-zero k) ∙ omega arith
power-sum k (suc e) =
    ap (λ (n : ℕ). 2 ^ n) (add-suc k e)
    ∙ pow-suc 2 (k + e)
    ∙ ap (λ (n : ℕ). n * 2) (power-sum k e)
    ∙ mul_assoc (2 ^ k) (2 ^ e) 2
    ∙ ap (λ (n : ℕ). 2 ^ k * n) (sym (pow-suc 2 e))

-- Two tests that hold together.
same_test : (x y m n : ℕ) → (x < y → m < n) → (y ≤ x → n ≤ m) → ltb x y ≡ ltb m n
same_test x y m n f g = go (ltb x y) refl
  where
    go : (t : Bool) → ltb x y ≡ t → t ≡ ltb m n
    go true e = sym (lt-ltb m n (f (ltb-true x y e)))
    go false e = sym (le-ltb m n (g (ltb-false x y e)))

-- The highest word decides.
highest : (k low x e : ℕ) → low < 2 ^ k → ltb x (2 ^ e) ≡ ltb (low + 2 ^ k * x) (2 ^ (k + e))
highest k low x e h =
    same_test x (2 ^ e) (low + 2 ^ k * x) (2 ^ (k + e))
    (λ l.
    let m : 2 ^ k * suc x ≤ 2 ^ k * 2 ^ e = mul-le-mul_left (2 ^ k) (omega (arith, l)) in
    omega (arith, h, m, mul-suc (2 ^ k) x, power-sum k e))
    λ l.
    let m : 2 ^ k * 2 ^ e ≤ 2 ^ k * x = mul-le-mul_left (2 ^ k) l in
    omega (arith, m, power-sum k e)

module _ (w : Wide) (width : ℕ) where
  pub fits-never : width ≡ 0 → false ≡ fits_width w width
  unfolding fits_width
  fits-never h = pick_eq _ h refl

  fits-some : {t : Bool} → (width ≡ 0 → ⊥) → t ≡ ltb (value_of w) (2 ^ width) → t ≡ fits_width w width
  unfolding fits_width
  fits-some h e = pick_ne false h e

  -- A word stands too high.
  fits-over : (k : ℕ) → (width ≡ 0 → ⊥) → width ≤ k → 2 ^ k ≤ value_of w → false ≡ fits_width w width
  fits-over k h l m = fits-some h (sym (le-ltb (value_of w) (2 ^ width) (le_trans (two-more width k l) m)))

  -- By the highest word that is not 0, whose place is k.
  fits_by : (k low x : ℕ) {p : ℕ} → (width ≡ 0 → ⊥) → k ≤ width → low < 2 ^ k → value_of w ≡ low + 2 ^ k * x → p ≡ 2 ^ (width - k) → ltb x p ≡ fits_width w width
  fits_by k low x {p} h l m v e =
      let z : k + (width - k) ≡ width = omega (arith, l) in
      fits-some h
      (ap (ltb x) e ∙ highest k low x (width - k) m ∙ ap (ltb (low + 2 ^ k * x)) (ap (λ (n : ℕ). 2 ^ n) z) ∙ ap (λ (n : ℕ). ltb n (2 ^ width)) (sym v))

  module _ (some : width ≡ 0 → ⊥) (ha : w.a < 2 ^ 32) (hb : w.b < 2 ^ 32) (hc : w.c < 2 ^ 32) where
    pub fits_all : w.d < 2 ^ 32 → 128 ≤ width → true ≡ fits_width w width
    fits_all hd h =
        fits-some some (sym (lt-ltb (value_of w) (2 ^ width) (le_trans (quad_below w ha hb hc hd) (two-more 128 width h))))

    pub fits-d : {p : ℕ} → 96 ≤ width → p ≡ 2 ^ (width - 96) → ltb w.d p ≡ fits_width w width
    unfolding value_of
    fits-d h e = fits_by 96 (w.a + 2 ^ 32 * (w.b + 2 ^ 32 * w.c)) w.d some h (omega (arith, ha, hb, hc)) (omega arith) e

    pub over-d : width < 96 → (w.d ≡ 0 → ⊥) → false ≡ fits_width w width
    unfolding value_of
    over-d h d = fits-over 96 some (omega (arith, h)) (omega (arith, d))

    module _ (zd : w.d ≡ 0) where
      pub fits-c : {p : ℕ} → 64 ≤ width → p ≡ 2 ^ (width - 64) → ltb w.c p ≡ fits_width w width
      unfolding value_of
      fits-c h e = fits_by 64 (w.a + 2 ^ 32 * w.b) w.c some h (omega (arith, ha, hb)) (omega (arith, zd)) e

      pub over-c : width < 64 → (w.c ≡ 0 → ⊥) → false ≡ fits_width w width
      unfolding value_of
      over-c h c = fits-over 64 some (omega (arith, h)) (omega (arith, c))

      module _ (zc : w.c ≡ 0) where
        pub fits-b : {p : ℕ} → 32 ≤ width → p ≡ 2 ^ (width - 32) → ltb w.b p ≡ fits_width w width
        unfolding value_of
        fits-b h e = fits_by 32 w.a w.b some h ha (omega (arith, zd, zc)) e

        pub over-b : width < 32 → (w.b ≡ 0 → ⊥) → false ≡ fits_width w width
        unfolding value_of
        over-b h b = fits-over 32 some (omega (arith, h)) (omega (arith, b))

        pub fits-a : {p : ℕ} → w.b ≡ 0 → p ≡ 2 ^ width → ltb w.a p ≡ fits_width w width
        unfolding value_of
        fits-a zb e =
            let z : width - 0 ≡ width = omega arith in
            fits_by 0 0 w.a some (omega arith) (omega arith) (omega (arith, zd, zc, zb)) (e ∙ ap (λ (n : ℕ). 2 ^ n) (sym z))
