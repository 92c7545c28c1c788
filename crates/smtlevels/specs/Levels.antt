-- The innermost of the open lists are known by how many sorts are to come when they end, which stands in an array, the innermost list's last.
use Rattle.std.specs.Prelude.{ℕ, zero, suc, ◌/◌, ◌≤◌, ◌≡◌, List, [], ◌∷◌, eqb, ltb, length, get_or}
use Rattle.reading.specs.Limits.{max_lists}
use Rattle.reading.specs.Pick.{pick}
use Rattle.smtlevels.specs.Open.{total}

-- How many are kept where there is no room for one more.
abbrev pub half : ℕ
half = max_lists / 2

-- An array with room for so many.
abbrev pub Within : List ℕ → ℕ → Type 0
Within bases known = (length bases ≡ max_lists) × (known ≤ max_lists)

-- So many of the open lists are known.
abbrev pub Known : List ℕ → ℕ → List ℕ → Type 0
Known bases zero cs = Unit {0}
Known bases (suc k) [] = ⊥
Known bases (suc k) (c ∷ cs) = (get_or bases k 0 ≡ total cs) × Known bases k cs

-- How many of so many known lists do not end where just so many sorts are to come.
unfoldable pub standing : List ℕ → ℕ → ℕ → ℕ
standing bases left zero = 0
standing bases left (suc k) = pick (eqb (get_or bases k 0) left) (standing bases left k) (suc k)

-- The open lists that end where fewer sorts than so many are to come.
unfoldable pub below : ℕ → List ℕ → List ℕ
below left [] = []
below left (c ∷ cs) = pick (ltb (total cs) left) (c ∷ cs) (below left cs)
