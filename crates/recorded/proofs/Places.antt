-- Laws of the places where something ends.
use Prim.Native.Nat.{ℕ, ◌+◌, ◌≤◌, ◌<◌}
use mathlib.Core.Path.{◌≡◌, refl, sym, ap, ◌∙◌}
use mathlib.Core.List.{List}
use native.Mathlib.Numerals.{add-one}
use native.Mathlib.Omega.{arith}
use lib.Dec.{eqb, ltb}
use lib.ListN.{length, get_or, drop, drop_of_length-le, get_or-eq_default}
use lib.Seq.{drop-cons}
use Rattle.reading.specs.Pick.{pick}
use Rattle.reading.proofs.Picks.{pick_le, pick_gt, pick-holds}
use Rattle.recorded.specs.Numbers.{digit, decimal}
use Rattle.recorded.specs.declared.line.Line.{Line}
use Rattle.recorded.specs.Fields.{ends, up_to, next_field, field, number_in}

-- Behind a text nothing but digits ends.
pub ends-zero : ends 0 ≡ 1
unfolding ends digit pick
ends-zero = refl

-- No byte ends more than a field.
pub ends-small : (b : ℕ) → ends b ≤ 3
unfolding ends
ends-small b =
    pick-holds (eqb b 32) 3 _ (λ n. n ≤ 3) (omega arith)
    (pick-holds (eqb b 10) 3 _ (λ n. n ≤ 3) (omega arith)
    (pick-holds (eqb b 46) 2 _ (λ n. n ≤ 3) (omega arith)
    (pick-holds (eqb b 44) 2 _ (λ n. n ≤ 3) (omega arith) (pick-holds (ltb (digit b) 16) 0 1 (λ n. n ≤ 3) (omega arith) (omega arith)))))

module _ (k : ℕ) (s : List ℕ) (i : ℕ) where
  pub upto-end : length s ≤ i → up_to k (drop i s) ≡ 0
  unfolding up_to
  upto-end h = rw drop_of_length-le

  module _ (h : i < length s) where
    pub upto_stop : k ≤ ends (get_or s i 0) → up_to k (drop i s) ≡ 0
    unfolding up_to
    upto_stop e = rw (drop-cons s i 0) (sym (pick_le _ e refl))

    pub upto-more : ends (get_or s i 0) < k → up_to k (drop i s) ≡ 1 + up_to k (drop (i + 1) s)
    unfolding up_to
    upto-more e = rw (drop-cons s i 0, add-one) (sym (pick_gt _ e (omega arith)))

-- A byte that ends a part is inside the text.
pub ends-inside : (s : List ℕ) (i : ℕ) → ends (get_or s i 0) ≡ 2 → i < length s
ends-inside s i e = go (λ h. omega (arith, e, ap ends (get_or-eq_default s 0 {n = i} h), ends-zero))
  where
    go : (length s ≤ i → ⊥) → i < length s
    go h = omega arith

-- A byte that is not 0 stands inside the text.
pub byte_inside : (s : List ℕ) (i : ℕ) {b : ℕ} → get_or s i 0 ≡ b → (b ≡ 0 → ⊥) → i < length s
byte_inside s i {b} e n = go (λ h. n (sym e ∙ get_or-eq_default s 0 {n = i} h))
  where
    go : (length s ≤ i → ⊥) → i < length s
    go h = omega arith

-- The next field of a line, and the number in a field.
module _ (s : List ℕ) (at : ℕ) where
  pub field-first : at ≡ field 0 s at
  unfolding field
  field-first = refl

  pub field_next : (n : ℕ) {p q : ℕ} → p ≡ field n s at → q ≡ next_field s p → q ≡ field (n + 1) s at
  unfolding field
  field_next n e f = f ∙ ap (next_field s) e ∙ rw add-one refl

  pub number_in_lem : (n : ℕ) {p d : ℕ} → p ≡ field n s at → d ≡ decimal (drop p s) → d ≡ number_in n s at
  unfolding number_in
  number_in_lem n e f = f ∙ ap (λ (k : ℕ). decimal (drop k s)) e

-- Lines with equal fields.
pub line_equal : {op₁ op₂ start₁ start₂ tree₁ tree₂ draft₁ draft₂ out₁ out₂ input₁ input₂ refusal₁ refusal₂ a₁ a₂ b₁ b₂ count₁ count₂ words₁ words₂ next₁ next₂ : ℕ} → op₁ ≡ op₂ → start₁ ≡ start₂ → tree₁ ≡ tree₂ → draft₁ ≡ draft₂ → out₁ ≡ out₂ → input₁ ≡ input₂ → refusal₁ ≡ refusal₂ → a₁ ≡ a₂ → b₁ ≡ b₂ → count₁ ≡ count₂ → words₁ ≡ words₂ → next₁ ≡ next₂ → ◌≡◌ {A = Line} (record { op = op₁; start = start₁; tree = tree₁; draft = draft₁; out = out₁; input = input₁; refusal = refusal₁; a = a₁; b = b₁; count = count₁; words = words₁; next = next₁ }) (record { op = op₂; start = start₂; tree = tree₂; draft = draft₂; out = out₂; input = input₂; refusal = refusal₂; a = a₂; b = b₂; count = count₂; words = words₂; next = next₂ })
line_equal e0 e1 e2 e3 e4 e5 e6 e7 e8 e9 e10 e11 = cc
