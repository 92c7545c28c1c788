-- Laws of words that are written from a place on.
use Prim.Native.Nat.{ℕ, ◌+◌, ◌≤◌, ◌<◌, max}
use mathlib.Core.Bool.{Bool, true, false}
use mathlib.Core.Path.{◌≡◌, refl, sym, ap, ◌∙◌}
use mathlib.Core.List.{List, [], ◌∷◌, ◌++◌}
use native.Mathlib.Omega.{arith}
use lib.Dec.{ltb}
use lib.ListN.{length, set, length-set, length-append}
use borrow.Author.Tests.{ltb-true, ltb-false}
use Rattle.writing.specs.Laid.{laid}
use Rattle.writing.specs.Wrote.{most_count, Wrote, WroteBytes}
use Rattle.writing.proofs.Laid.{laid_append, length-laid}

-- Below a bound, or not.
pub either : {P : Type 0} (a b : ℕ) → (a < b → P) → (b ≤ a → P) → P
either {P} a b f g = go (ltb a b) refl
  where
    go : (t : Bool) → ltb a b ≡ t → P
    go true e = f (ltb-true a b e)
    go false e = g (ltb-false a b e)

-- Nothing written.
pub wrote_none : (l : List ℕ) (place : ℕ) → Wrote l place [] 0 l place
unfolding laid
wrote_none l place =
    record { kept = refl; fits = λ h. (omega arith, omega arith, refl); full = λ h k _. omega (arith, h, k) }

-- Words laid from the start.
pub wrote-laid : (l xs : List ℕ) → Wrote l 0 xs 0 (laid l 0 xs) (length xs)
wrote-laid l xs =
    record { kept = length-laid xs l 0; fits = λ h. (omega arith, omega arith, refl); full = λ h k _. omega (arith, h, k) }

-- Words behind words.
pub wrote_seq : (xs ys : List ℕ) {l l₁ l₂ : List ℕ} {place p q a b : ℕ} → Wrote l place xs a l₁ p → Wrote l₁ p ys b l₂ q → Wrote l place (xs ++ ys) (max a b) l₂ q
wrote_seq xs ys {l} {l₁} {l₂} {place} {p} {q} {a} {b} w v =
    record { kept = v.kept ∙ w.kept; fits = fitted; full = filled }
  where
    long : length (xs ++ ys) ≡ length xs + length ys
    long = length-append xs ys

    fitted : q ≤ length l → (q ≡ place + length (xs ++ ys)) × (max a b < most_count) × (l₂ ≡ laid l place (xs ++ ys))
    fitted h =
        let y : (q ≡ p + length ys) × (b < most_count) × (l₂ ≡ laid l₁ p ys) = v.fits (omega (arith, h, w.kept)) in
        let x : (p ≡ place + length xs) × (a < most_count) × (l₁ ≡ laid l place xs) = w.fits (omega (arith, h, y.0)) in (
          omega (arith, x.0, y.0, long),
          omega (arith, x.1, y.1),
          y.2 ∙ ap (λ m. laid m p ys) x.2 ∙ ap (λ (k : ℕ). laid (laid l place xs) k ys) x.0 ∙ sym (laid_append xs ys l place),
        )

    filled : length l < q → place + length (xs ++ ys) ≤ length l → max a b < most_count → ⊥
    filled h k m =
        either (length l) p
        (λ far. w.full far (omega (arith, k, long)) (omega (arith, m)))
        λ near. v.full (omega (arith, h, w.kept)) (omega (arith, k, long, w.kept, (w.fits near).0)) (omega (arith, m))

-- Bytes behind bytes.
pub wrote_then : {l l₁ l₂ xs ys : List ℕ} {place p q : ℕ} → WroteBytes l place xs l₁ p → WroteBytes l₁ p ys l₂ q → WroteBytes l place (xs ++ ys) l₂ q
wrote_then {xs = xs} {ys = ys} w v = wrote_seq xs ys w v

-- A smaller count than one that takes more than a word changes nothing.
pub wrote-more : (n : ℕ) {l l' xs : List ℕ} {place m r : ℕ} → n < most_count → Wrote l place xs m l' r → Wrote l place xs (max n m) l' r
wrote-more n {m = m} small w =
    record {
      kept = w.kept;
      fits = λ h. ((w.fits h).0, omega (arith, small, (w.fits h).1), (w.fits h).2);
      full = λ h k c. w.full h k (omega (arith, c));
    }

-- The same words and the same largest count, by other names.
pub wrote_as : {l l' xs ys : List ℕ} {place m n r : ℕ} → xs ≡ ys → m ≡ n → Wrote l place xs m l' r → Wrote l place ys n l' r
wrote_as e f w = rw (← e, ← f) w

-- One word stored, and the others behind it.
pub wrote-first : (y : ℕ) (ys : List ℕ) {l l' : List ℕ} {p r : ℕ} → Wrote (set l p y) (p + 1) ys 0 l' r → Wrote l p (y ∷ ys) 0 l' r
unfolding laid
wrote-first y ys {l} {p = p} w =
    let n : length (set l p y) ≡ length l = length-set l p y in
    record {
      kept = w.kept ∙ n;
      fits = λ h.
          let f = w.fits (omega (arith, h, n)) in
          (omega (arith, f.0), f.1, f.2);
      full = λ h k m. w.full (omega (arith, h, n)) (omega (arith, k, n)) m;
    }

-- No room for a word.
pub wrote-full : (l : List ℕ) (p y : ℕ) (ys : List ℕ) (r : ℕ) → length l ≤ p → length l < r → Wrote l p (y ∷ ys) 0 l r
wrote-full l p y ys r h k =
    record { kept = refl; fits = λ f. absurd (omega (arith, f, k)); full = λ _ f _. omega (arith, h, f) }

-- There is room for all words, and they are laid.
pub wrote-all : {l l' xs : List ℕ} {place r : ℕ} → r ≡ place + length xs → place + length xs ≤ length l → l' ≡ laid l place xs → Wrote l place xs 0 l' r
wrote-all {l} {l'} {xs} {place} {r} e h p =
    record {
      kept = ap length p ∙ length-laid xs l place;
      fits = λ _. (e, omega arith, p);
      full = λ k _ _. omega (arith, k, e, h);
    }

-- There is no room for all words, and nothing is laid.
pub wrote-over : {l xs : List ℕ} {place r : ℕ} → length l < place + length xs → length l < r → Wrote l place xs 0 l r
wrote-over h k =
    record { kept = refl; fits = λ f. absurd (omega (arith, f, k)); full = λ _ f _. omega (arith, h, f) }
