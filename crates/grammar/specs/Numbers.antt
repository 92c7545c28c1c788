-- Lists of fresh numbers.
use Rattle.std.specs.Prelude.{ℕ, ◌+◌, ◌≤◌, ◌<◌, ◌≡◌, ◌⊎◌, List, [], ◌∷◌, eqb, length}
use Rattle.reading.specs.Pick.{pick}

-- A number stands in a list.
abbrev pub In : ℕ → List ℕ → Type 0
In k [] = ⊥
In k (x ∷ xs) = (k ≡ x) ⊎ In k xs

-- All numbers of the first list stand in the second.
abbrev pub AllIn : List ℕ → List ℕ → Type 0
AllIn [] l = Unit {0}
AllIn (k ∷ ks) l = In k l × AllIn ks l

-- 1 for equal numbers, else 0.
abbrev pub hit : ℕ → ℕ → ℕ
hit k x = pick (eqb k x) 1 0

-- How often a number stands in a list.
unfoldable pub times : ℕ → List ℕ → ℕ
times k [] = 0
times k (x ∷ xs) = hit k x + times k xs

-- A list has each number from a up to b, b excluded, once, and no other.
pub record Exactly (a : ℕ) (l : List ℕ) (b : ℕ) : Type 0 where
  pub below : (k : ℕ) → k < a → times k l ≡ 0
  pub once : (k : ℕ) → a ≤ k → k < b → times k l ≡ 1
  pub above : (k : ℕ) → b ≤ k → times k l ≡ 0
  pub size : b ≡ a + length l
