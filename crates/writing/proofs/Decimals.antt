-- Laws of decimal digits: a number's by those of its tenth, and how many there are.
use Prim.Native.Nat.{ℕ, zero, suc, ◌+◌, ◌/◌, ◌%◌, ◌^◌, ◌≤◌, ◌<◌}
use mathlib.Core.Bool.{Bool, true, false}
use mathlib.Core.Path.{◌≡◌, refl, sym, ap, ◌∙◌}
use mathlib.Core.List.{List, [], ◌∷◌, ◌++◌}
use native.Mathlib.Omega.{arith}
use lib.Dec.{ltb}
use lib.ListN.{length, length-append}
use borrow.Author.Tests.{ltb-false, lt-ltb, le-ltb}
use Rattle.writing.specs.Digits.{figures, decimal}
use Rattle.writing.specs.Quads.{Tenths}
use Rattle.writing.proofs.Wrote.{either}

-- One digit, or the digits of the tenth and one more.
pub figures-small : (f n : ℕ) → ltb n 10 ≡ true → figures (suc f) n ≡ (48 + n) ∷ []
unfolding figures
figures-small f n e = ap (λ (t : Bool). elim t [ true ↦ (48 + n) ∷ [] | false ↦ figures f (n / 10) ++ ((48 + n % 10) ∷ []) ]) e

pub figures-large : (f n : ℕ) → ltb n 10 ≡ false → figures (suc f) n ≡ figures f (n / 10) ++ ((48 + n % 10) ∷ [])
unfolding figures
figures-large f n e = ap (λ (t : Bool). elim t [ true ↦ (48 + n) ∷ [] | false ↦ figures f (n / 10) ++ ((48 + n % 10) ∷ []) ]) e

-- A larger bound than is needed changes nothing.
figures-enough : (f g n : ℕ) → n < f → n < g → figures f n ≡ figures g n
figures-enough zero g n h k = absurd (omega arith)
figures-enough (suc f) zero n h k = absurd (omega arith)
figures-enough (suc f) (suc g) n h k = go (ltb n 10) refl (figures-enough f g (n / 10))
  where
    go : (t : Bool) → ltb n 10 ≡ t → (n / 10 < f → n / 10 < g → figures f (n / 10) ≡ figures g (n / 10)) → figures (suc f) n ≡ figures (suc g) n
    go true e ih = figures-small f n e ∙ sym (figures-small g n e)
    go false e ih =
        let u : 10 ≤ n = ltb-false n 10 e in
        figures-large f n e ∙ ap (λ (l : List ℕ). l ++ ((48 + n % 10) ∷ [])) (ih (omega arith) (omega arith)) ∙ sym (figures-large g n e)

pub decimal-one : (n : ℕ) → n < 10 → decimal n ≡ (48 + n) ∷ []
unfolding decimal
decimal-one n h = figures-small n n (lt-ltb n 10 h)

pub decimal-more : {n t d : ℕ} → Tenths n t d → 10 ≤ n → decimal n ≡ decimal t ++ ((48 + d) ∷ [])
unfolding decimal
decimal-more {n} {t} {d} s h =
    let v : n / 10 ≡ t = omega (arith, s.sum, s.digit) in
    let w : n % 10 ≡ d = omega (arith, s.sum, s.digit) in
    figures-large n n (le-ltb n 10 h)
    ∙ ap (λ (l : List ℕ). l ++ ((48 + n % 10) ∷ [])) (figures-enough n (suc (n / 10)) (n / 10) (omega (arith, h)) (omega arith))
    ∙ rw (v, w) refl

-- The tenth is less, and has one digit less.
pub tenth_less : {n t d : ℕ} → Tenths n t d → 10 ≤ n → t < n
tenth_less s h = omega (arith, s.sum, h)

pub tenth_long : {n t d : ℕ} → Tenths n t d → 10 ≤ n → length (decimal n) ≡ length (decimal t) + 1
tenth_long {t = t} {d = d} s h = ap length (decimal-more s h) ∙ length-append (decimal t) ((48 + d) ∷ [])

-- The tenth and the last digit, as they are computed.
tenths : (n : ℕ) → Tenths n (n / 10) (n % 10)
tenths n = record { sum = omega arith; digit = omega arith }

-- There is a digit, and there are more where the number is not below ten.
pub decimal-some : (n : ℕ) → 0 < length (decimal n)
decimal-some n =
    either n 10
    (λ s. omega (arith, ap length (decimal-one n s)))
    λ b. omega (arith, tenth_long (tenths n) b)

pub decimal-two : (n : ℕ) → 10 ≤ n → 1 < length (decimal n)
decimal-two n h = omega (arith, tenth_long (tenths n) h, decimal-some (n / 10))

pub decimal-few : (n : ℕ) → length (decimal n) ≡ 1 → n < 10
decimal-few n e =
    either n 10 (λ s. s) λ b. absurd (omega (arith, e, decimal-two n b))

pub decimal-many : (n i : ℕ) → length (decimal n) ≡ i + 1 → 0 < i → 10 ≤ n
decimal-many n i e h =
    either n 10 (λ s. absurd (omega (arith, e, h, ap length (decimal-one n s)))) λ b. b

-- A number below a power of ten has no more digits than that power says.
pub decimal-most : (k n : ℕ) → n < 10 ^ suc k → length (decimal n) ≤ suc k
decimal-most zero n h = omega (arith, ap length (decimal-one n h))
decimal-most (suc k) n h =
    either n 10
    (λ s. omega (arith, ap length (decimal-one n s)))
    λ b. omega (arith, tenth_long (tenths n) b, decimal-most k (n / 10) (omega (arith, h)))
