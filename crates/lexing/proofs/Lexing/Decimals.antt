-- Laws of decimals.
use Prim.Native.Nat.{ℕ, suc, ◌+◌, ◌<◌, ◌≤◌}
use mathlib.Core.Bool.{Bool, true, false, not}
use mathlib.Core.Path.{◌≡◌, refl, sym, ap, ◌∙◌}
use mathlib.Core.List.{List, [], ◌∷◌}
use native.Mathlib.Nat.{add-zero}
use native.Mathlib.Numerals.{add-one}
use native.Mathlib.Omega.{arith}
use lib.Dec.{ltb, eqb}
use lib.ListN.{length, get_or, drop, drop_of_length-le}
use lib.Seq.{drop-cons, get_or-drop}
use borrow.Author.Tests.{eqb-true, eqb-false, eq-eqb, ne_eqb}
use Rattle.reading.specs.Pick.{pick}
use Rattle.reading.specs.Bytes.{before}
use Rattle.reading.specs.Number.{is_digit, all_digits, sign_bytes}
use Rattle.reading.specs.Decimal.{no_digit, leading_digits, some_digits, is_exponent, is_fraction}
use Rattle.reading.proofs.Picks.{pick_true, pick-false, pick_eq, pick_ne}

-- A place has a digit, or not.
pub no_digit_lem : (s : List ℕ) (i b : ℕ) → b ≡ get_or s i 0 → not (is_digit 10 b) ≡ no_digit (drop i s)
unfolding no_digit
no_digit_lem s i b e = simp (get_or-drop, add-zero, ← e)

eqb-suc : (n m : ℕ) → eqb (suc n) (suc m) ≡ eqb n m
eqb-suc n m = go (eqb n m) refl
  where
    go : (t : Bool) → eqb n m ≡ t → eqb (suc n) (suc m) ≡ eqb n m
    go true e = eq-eqb (suc n) (suc m) (ap suc (eqb-true n m e)) ∙ sym e
    go false e = ne_eqb (suc n) (suc m) (λ q. eqb-false n m e (omega arith)) ∙ sym e

-- All bytes are digits where as many stand in front as there are bytes.
all-leading : (s : List ℕ) → eqb (leading_digits s) (length s) ≡ all_digits 10 s
unfolding before all_digits no_digit pick
all-leading [] = eq-eqb 0 0 refl
all-leading (b ∷ s) = go (is_digit 10 b) (all-leading s)
  where
    go : (t : Bool) → eqb (leading_digits s) (length s) ≡ all_digits 10 s → eqb (pick (not t) 0 (suc (leading_digits s))) (suc (length s)) ≡ pick t (all_digits 10 s) false
    go true h = eqb-suc (leading_digits s) (length s) ∙ h
    go false h = ne_eqb 0 (suc (length s)) (λ e. omega arith)

module _ (s : List ℕ) where
  pub some-none : length s ≡ 0 → false ≡ some_digits s
  unfolding some_digits
  some-none e = pick_eq _ e refl

  pub some-leading : (n : ℕ) → n ≡ leading_digits s → (length s ≡ 0 → ⊥) → eqb n (length s) ≡ some_digits s
  unfolding some_digits
  some-leading n e h = pick_ne _ h (ap (λ (k : ℕ). eqb k (length s)) e ∙ all-leading s)

-- An exponent, by its first byte.
pub exponent-end : (s : List ℕ) → length s ≡ 0 → true ≡ is_exponent s
unfolding is_exponent
exponent-end [] h = refl
exponent-end (b ∷ s) h = absurd (omega arith)

module _ (s : List ℕ) (h : 0 < length s) where
  exponent_cons : is_exponent (get_or s 0 0 ∷ drop 1 s) ≡ is_exponent s
  exponent_cons = sym (ap is_exponent (drop-cons s 0 0 h))

  pub exponent-some : (r : Bool) → ((get_or s 0 0 ≡ 101 → ⊥) → get_or s 0 0 ≡ 69) → r ≡ some_digits (drop (sign_bytes (drop 1 s)) (drop 1 s)) → r ≡ is_exponent s
  unfolding is_exponent
  exponent-some r e q = go (eqb (get_or s 0 0) 101) refl ∙ exponent_cons
    where
      go : (t : Bool) → eqb (get_or s 0 0) 101 ≡ t → r ≡ is_exponent (get_or s 0 0 ∷ drop 1 s)
      go true p = pick_true _ p q
      go false p = pick-false _ p (pick_eq _ (e (eqb-false (get_or s 0 0) 101 p)) q)

  pub exponent-no : (get_or s 0 0 ≡ 101 → ⊥) → (get_or s 0 0 ≡ 69 → ⊥) → false ≡ is_exponent s
  unfolding is_exponent
  exponent-no n m = pick_ne _ n (pick_ne _ m refl) ∙ exponent_cons

-- What stands behind n digits.
module _ (s : List ℕ) (n : ℕ) where
  pub fraction_end : length s ≤ n → ltb 0 n ≡ is_fraction n (drop n s)
  unfolding is_fraction
  fraction_end h = rw drop_of_length-le

  module _ (h : n < length s) where
    fraction_cons : is_fraction n (get_or s n 0 ∷ drop (n + 1) s) ≡ is_fraction n (drop n s)
    fraction_cons = rw (drop-cons s n 0, add-one)

    pub fraction_alone : (m : ℕ) → get_or s n 0 ≡ 46 → m ≡ leading_digits (drop (n + 1) s) → n + m ≡ 0 → false ≡ is_fraction n (drop n s)
    unfolding is_fraction
    fraction_alone m e q z = pick_eq _ e (pick_eq _ (ap (λ (k : ℕ). n + k) (sym q) ∙ z) refl) ∙ fraction_cons

    pub fraction_point : (r : Bool) (m : ℕ) → get_or s n 0 ≡ 46 → m ≡ leading_digits (drop (n + 1) s) → (n + m ≡ 0 → ⊥)
        → r ≡ is_exponent (drop m (drop (n + 1) s)) → r ≡ is_fraction n (drop n s)
    unfolding is_fraction
    fraction_point r m e q z p =
        let k : n + leading_digits (drop (n + 1) s) ≡ 0 → ⊥ = λ x. z (ap (λ (k : ℕ). n + k) q ∙ x) in
        pick_eq _ e (pick_ne _ k (p ∙ ap (λ (k : ℕ). is_exponent (drop k (drop (n + 1) s))) q)) ∙ fraction_cons

    pub fraction_none : (get_or s n 0 ≡ 46 → ⊥) → n ≡ 0 → false ≡ is_fraction n (drop n s)
    unfolding is_fraction
    fraction_none e z = pick_ne _ e (pick_eq _ z refl) ∙ fraction_cons

    pub fraction_whole : (r : Bool) → (get_or s n 0 ≡ 46 → ⊥) → (n ≡ 0 → ⊥) → r ≡ is_exponent (drop n s) → r ≡ is_fraction n (drop n s)
    unfolding is_fraction
    fraction_whole r e z p =
        let q : is_exponent (drop n s) ≡ is_exponent (get_or s n 0 ∷ drop (n + 1) s) = rw (drop-cons s n 0, add-one) in
        pick_ne _ e (pick_ne _ z (p ∙ q)) ∙ fraction_cons
