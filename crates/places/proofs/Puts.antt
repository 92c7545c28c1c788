-- Words put one after the other.
use Prim.Native.Nat.{ℕ, ◌+◌}
use mathlib.Core.Path.{◌≡◌, refl, sym, ◌∙◌}
use mathlib.Core.List.{List, [], ◌∷◌, ◌++◌}
use native.Mathlib.Omega.{arith}
use lib.ListN.{set, length-append}
use Rattle.writing.specs.Laid.{laid}
use Rattle.writing.proofs.Laid.{laid_append}
use Rattle.places.specs.Outcome.{Put}

-- Words put behind words.
pub put_append : (a b : List ℕ) {o o₁ o₂ : List ℕ} {w u v : ℕ} → Put o w a o₁ u → Put o₁ u b o₂ v → Put o w (a ++ b) o₂ v
put_append a b {o} {w = w} p q =
    record {
      is = omega (arith, p.is, q.is, length-append a b);
      words = q.words ∙ rw (p.words, p.is) (sym (laid_append a b o w));
    }

-- Words put one by one.
module _ (o : List ℕ) (w a b : ℕ) where
  pub puts_2 : {o₁ o₂ : List ℕ} → o₁ ≡ set o w a → o₂ ≡ set o₁ (w + 1) b → o₂ ≡ laid o w (a ∷ b ∷ [])
  unfolding laid
  puts_2 p q = q ∙ rw p refl

  pub puts_3 : (c : ℕ) {o₁ o₂ o₃ : List ℕ} → o₁ ≡ set o w a → o₂ ≡ set o₁ (w + 1) b → o₃ ≡ set o₂ (w + 2) c → o₃ ≡ laid o w (a ∷ b ∷ c ∷ [])
  unfolding laid
  puts_3 c p q r = let z : w + 2 ≡ w + 1 + 1 = omega arith in r ∙ rw (q, p, z) refl

  pub puts_5 : (c d e : ℕ) {o₁ o₂ o₃ o₄ o₅ : List ℕ} → o₁ ≡ set o w a → o₂ ≡ set o₁ (w + 1) b → o₃ ≡ set o₂ (w + 2) c → o₄ ≡ set o₃ (w + 3) d → o₅ ≡ set o₄ (w + 4) e → o₅ ≡ laid o w (a ∷ b ∷ c ∷ d ∷ e ∷ [])
  unfolding laid
  puts_5 c d e p q r s t =
      let z : w + 2 ≡ w + 1 + 1 = omega arith in
      let y : w + 3 ≡ w + 1 + 1 + 1 = omega arith in
      let x : w + 4 ≡ w + 1 + 1 + 1 + 1 = omega arith in
      t ∙ rw (s, r, q, p, z, y, x) refl

  pub puts_4 : (c d : ℕ) {o₁ o₂ o₃ o₄ : List ℕ} → o₁ ≡ set o w a → o₂ ≡ set o₁ (w + 1) b → o₃ ≡ set o₂ (w + 2) c → o₄ ≡ set o₃ (w + 3) d → o₄ ≡ laid o w (a ∷ b ∷ c ∷ d ∷ [])
  unfolding laid
  puts_4 c d p q r s =
      let z : w + 2 ≡ w + 1 + 1 = omega arith in
      let y : w + 3 ≡ w + 1 + 1 + 1 = omega arith in
      s ∙ rw (r, q, p, z, y) refl
