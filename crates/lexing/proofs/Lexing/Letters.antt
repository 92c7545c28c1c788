-- No number begins with a byte behind `9`.
use Prim.Native.Nat.{ℕ, ◌<◌, ◌≤◌}
use mathlib.Core.Bool.{false}
use mathlib.Core.Path.{◌≡◌, refl, sym, ap, ◌∙◌}
use mathlib.Core.List.{List, [], ◌∷◌}
use native.Mathlib.Omega.{arith}
use lib.Dec.{eqb}
use lib.ListN.{get_or, drop}
use borrow.Author.Tests.{le-ltb}
use Rattle.reading.specs.Pick.{pick}
use Rattle.reading.specs.Bytes.{nothing, before}
use Rattle.reading.specs.Number.{is_digit, digits, plus_bytes, sign_bytes, signed, integer_of}
use Rattle.reading.specs.Decimal.{no_digit, leading_digits, is_fraction, is_unsigned_decimal, is_decimal}
use Rattle.reading.proofs.Picks.{pick_ge, pick_ne}
use Rattle.lexing.proofs.Lexing.Digits.{digits-some, from_bad}
use Rattle.lexing.proofs.Lexing.Decimals.{fraction_none}

-- It is no sign and no digit.
letter_sign : (s : List ℕ) → 57 < get_or s 0 0 → sign_bytes s ≡ 0
unfolding sign_bytes plus_bytes
letter_sign s h =
    let not : (n : ℕ) → n ≤ 57 → get_or s 0 0 ≡ n → ⊥ = λ n k e. omega arith in
    sym (pick_ne _ (not 45 (omega arith)) (pick_ne _ (not 43 (omega arith)) refl))

letter_digit : (b : ℕ) → 57 < b → is_digit 10 b ≡ false
unfolding is_digit
letter_digit b h =
    let from : 48 ≤ b = omega arith in
    sym (pick_ge _ from (sym (le-ltb b 58 (omega arith))))

-- So the bytes are no integer and no decimal.
pub letter_integer : (s : List ℕ) → 57 < get_or s 0 0 → nothing ≡ integer_of s
unfolding integer_of signed
letter_integer [] h = absurd (omega arith)
letter_integer (b ∷ s) h =
    let none : digits 10 (b ∷ s) ≡ nothing = digits-some 10 (b ∷ s) (λ e. omega arith) ∙ from_bad (b ∷ s) 0 10 0 (omega arith) b refl (letter_digit b h) in
    sym (ap (signed (eqb b 45)) (ap (λ (k : ℕ). digits 10 (drop k (b ∷ s))) (letter_sign (b ∷ s) h) ∙ none))

pub letter_decimal : (s : List ℕ) → 57 < get_or s 0 0 → false ≡ is_decimal s
unfolding is_decimal is_unsigned_decimal before no_digit pick
letter_decimal [] h = absurd (omega arith)
letter_decimal (b ∷ s) h =
    let none : leading_digits (b ∷ s) ≡ 0 = rw (letter_digit b h) in
    fraction_none (b ∷ s) 0 (omega arith) (λ e. omega arith) refl
    ∙ sym (ap (λ (n : ℕ). is_fraction n (drop n (b ∷ s))) none)
    ∙ sym (ap (λ (k : ℕ). is_unsigned_decimal (drop k (b ∷ s))) (letter_sign (b ∷ s) h))
