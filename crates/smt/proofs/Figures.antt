-- Decimal digits are read back as the numeral that they were written for.
use Prim.Native.Nat.{ℕ, zero, suc, ◌<◌}
use mathlib.Core.Path.{◌≡◌, refl}
use mathlib.Core.List.{List, [], ◌∷◌}
use mathlib.Core.Bool.{Bool, true, ◌||◌}
use native.Mathlib.Omega.{arith}
use borrow.Author.Tests.{ne_eqb}
use Rattle.reading.specs.Pick.{pick}
use Rattle.reading.specs.Bytes.{just}
use Rattle.reading.specs.Number.{is_digit, all_digits}
use Rattle.writing.specs.Digits.{figures, decimal}
use Rattle.writing.proofs.DecimalBack.{DigitsOf, decimal-back}
use Rattle.smt.specs.Sexp.{between, every, digit, symbol_byte}
use Rattle.smt.specs.SexpBack.{canonical, natural, led_by_digit}
use Rattle.smt.proofs.Tests.{or_left, or_right, all-every, pick-and}

-- Each digit passes a test that digits pass.
pub digits-every : (p : ℕ → Bool) → ((b : ℕ) → digit b ≡ true → p b ≡ true) → (xs : List ℕ) → all_digits 10 xs ≡ true → every p xs ≡ true
unfolding all_digits
digits-every p f xs h = all-every (all_digits 10) digit p (λ x xs e. pick-and (digit x) (all_digits 10 xs) e) f xs h

-- Digits of which the first is not 0.
some-canonical : (n : ℕ) (xs : List ℕ) → 0 < n → DigitsOf n xs → canonical xs ≡ true
unfolding canonical all_digits pick
some-canonical n [] p d = absurd (omega (arith, d.some))
some-canonical n (b ∷ []) p d = (pick-and (digit b) true d.all).0
some-canonical n (b ∷ c ∷ bs) p d = rw (ne_eqb b 48 (λ e. omega (arith, e, d.first p))) d.all

decimal-canonical : (n : ℕ) → canonical (decimal n) ≡ true
unfolding decimal figures canonical is_digit pick
decimal-canonical zero = refl
decimal-canonical (suc n) = some-canonical (suc n) (decimal (suc n)) (omega arith) (decimal-back (suc n))

-- A number is read back from its digits.
pub natural-decimal : (n : ℕ) → natural (decimal n) ≡ just n
unfolding natural pick
natural-decimal n = rw (decimal-canonical n, (decimal-back n).value) refl

pub decimal-first : (n : ℕ) → led_by_digit (decimal n) ≡ true
decimal-first n = go (decimal n) (decimal-back n)
  where
    go : (xs : List ℕ) → DigitsOf n xs → led_by_digit xs ≡ true
    go [] d = absurd (omega (arith, d.some))
    go (b ∷ bs) d = unfold all_digits in (pick-and (digit b) (all_digits 10 bs) d.all).0

digit-symbol : (b : ℕ) → digit b ≡ true → symbol_byte b ≡ true
unfolding symbol_byte
digit-symbol b h = or_left (between 65 90 b || between 97 122 b || digit b) _ (or_right (between 65 90 b || between 97 122 b) (digit b) h)

pub decimal-symbol : (n : ℕ) → every symbol_byte (decimal n) ≡ true
decimal-symbol n = digits-every symbol_byte digit-symbol (decimal n) (decimal-back n).all
