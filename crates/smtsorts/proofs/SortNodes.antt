-- The bytes before the sorts inside a sort.
use Prim.Native.Nat.{ℕ, zero, suc}
use mathlib.Core.Path.{◌≡◌, refl, sym}
use mathlib.Core.List.{List, [], ◌∷◌, ◌++◌}
use native.Mathlib.Omega.{arith}
use Rattle.reading.specs.Bytes.{ascii, Span}
use Rattle.reading.specs.Answer.{got, bad, unwritable}
use Rattle.reading.proofs.Picks.{pick_eq, pick_ne}
use Rattle.writing.specs.Digits.{decimal}
use Rattle.smtnames.specs.Pieces.{joined, name_text}
use Rattle.smtsorts.specs.SortNode.{width_text, array_text, data_text}

-- A width.
pub width-none : (w : ℕ) → w ≡ 0 → width_text w ≡ bad unwritable
unfolding width_text
width-none zero h = refl
width-none (suc w) h = absurd (omega (arith, h))

pub width_some : (w : ℕ) → (w ≡ 0 → ⊥) → width_text w ≡ got (ascii "(_ BitVec " ++ (decimal w ++ ascii ")"))
unfolding width_text
width_some zero h = absurd (h refl)
width_some (suc w) h = refl

-- An Array.
pub array_two : (n : ℕ) → n ≡ 2 → array_text n ≡ got (ascii "(Array ")
unfolding array_text
array_two n h = sym (pick_eq _ h refl)

pub array_other : (n : ℕ) → (n ≡ 2 → ⊥) → array_text n ≡ bad unwritable
unfolding array_text
array_other n h = sym (pick_ne _ h refl)

-- A Data sort.
module _ (text : List ℕ) (ctor : Span) where
  pub data_none : (n : ℕ) → n ≡ 0 → data_text text ctor n ≡ name_text text 115 ctor
  unfolding data_text
  data_none zero h = refl
  data_none (suc n) h = absurd (omega (arith, h))

  pub data_some : (n : ℕ) → (n ≡ 0 → ⊥) → data_text text ctor n ≡ joined (got (40 ∷ [])) (joined (name_text text 115 ctor) (got (32 ∷ [])))
  unfolding data_text
  data_some zero h = absurd (h refl)
  data_some (suc n) h = refl
