-- Laws of a count that is stored in front of words that were written before.
use Prim.Native.Nat.{ℕ, ◌+◌, ◌-◌, ◌≤◌, ◌<◌, min, max}
use mathlib.Core.Path.{◌≡◌, ap, ◌∙◌}
use mathlib.Core.List.{List, [], ◌∷◌}
use native.Mathlib.Omega.{arith}
use lib.ListN.{length, set}
use Rattle.writing.specs.Laid.{laid}
use Rattle.writing.specs.Wrote.{most_count, Wrote}
use Rattle.writing.proofs.Laid.{set-again, set-laid}
use Rattle.writing.proofs.Wrote.{either}
use Rattle.flatwriter.specs.Writing.{Patched}

-- The third word laid anew.
patched_words : (x y n k : ℕ) (ws l : List ℕ) (place : ℕ) → set (laid (laid l place (x ∷ y ∷ n ∷ [])) (place + 3) ws) (place + 3 - 1) k ≡ laid l place (x ∷ y ∷ k ∷ ws)
unfolding laid
patched_words x y n k ws l place =
    let e : place + 3 - 1 ≡ place + 1 + 1 = omega arith in
    let f : place + 3 ≡ place + 1 + 1 + 1 = omega arith in
    let m : List ℕ = set (set l place x) (place + 1) y in
    rw (e, f) (set-laid ws (set m (place + 1 + 1) n) (place + 1 + 1) (place + 1 + 1 + 1) k (omega arith) ∙ ap (λ o. laid o (place + 1 + 1 + 1) ws) (set-again m (place + 1 + 1) n k))

-- The joined count in the place of an application's own.
pub wrote_patched : (x y n j : ℕ) (ws : List ℕ) {l l₁ l₂ l₃ : List ℕ} {place p b m k q : ℕ} → Wrote l place (x ∷ y ∷ n ∷ []) 0 l₁ p → Wrote l₁ p ws m l₂ b → Patched l₂ p k b l₃ q → k ≡ min j most_count → Wrote l place (x ∷ y ∷ j ∷ ws) (max j m) l₃ q
wrote_patched x y n j ws {l} {l₁} {l₂} {l₃} {place} {p} {b} {m} {k} {q} w v t e =
    record { kept = t.kept ∙ v.kept ∙ w.kept; fits = fitted; full = filled }
  where
    same : length l₂ ≡ length l
    same = v.kept ∙ w.kept

    -- the header takes three words
    positive : 0 < p
    positive = either (length l) p (λ far. omega (arith, far)) λ near. omega (arith, (w.fits near).0)

    small : q ≤ length l → j < most_count
    small h = either j most_count (λ s. s) λ big. absurd (omega (arith, h, same, t.over (omega (arith, e, big))))

    stored : j < most_count → (q ≡ b) × (l₃ ≡ set l₂ (p - 1) k)
    stored s = t.stored (omega (arith, e, s)) positive

    fitted : q ≤ length l → (q ≡ place + length (x ∷ y ∷ j ∷ ws)) × (max j m < most_count) × (l₃ ≡ laid l place (x ∷ y ∷ j ∷ ws))
    fitted h =
        let s : j < most_count = small h in
        let g = stored s in
        let c = v.fits (omega (arith, h, g.0, w.kept)) in
        let d = w.fits (omega (arith, h, g.0, c.0)) in
        let kj : k ≡ j = omega (arith, e, s) in (
          omega (arith, g.0, c.0, d.0),
          omega (arith, s, c.1),
          g.1 ∙ rw (c.2, d.2, d.0, kj) (patched_words x y n j ws l place),
        )

    filled : length l < q → place + length (x ∷ y ∷ j ∷ ws) ≤ length l → max j m < most_count → ⊥
    filled h f c =
        either (length l) p
        (λ far. w.full far (omega (arith, f)) (omega arith))
        λ near. v.full (omega (arith, h, (stored (omega (arith, c))).0, w.kept)) (omega (arith, f, w.kept, (w.fits near).0)) (omega (arith, c))
