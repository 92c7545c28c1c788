-- The lists of sorts that are open around a sort, each by how many of its sorts are still to come.
use Rattle.std.specs.Prelude.{ℕ, zero, suc, ◌+◌, List, [], ◌∷◌}
use Rattle.grammar.specs.Numbers.{hit}

-- How many sorts are to come in the open lists, the innermost of which stands first.
unfoldable pub total : List ℕ → ℕ
total [] = 0
total (c ∷ cs) = c + total cs

-- How many of the open lists end where just so many sorts are to come.
unfoldable pub ending : ℕ → List ℕ → ℕ
ending left [] = 0
ending left (c ∷ cs) = hit left (total cs) + ending left cs

-- The open lists without those that have ended.
unfoldable pub settled : List ℕ → List ℕ
settled [] = []
settled (zero ∷ cs) = settled cs
settled (suc c ∷ cs) = suc c ∷ cs
