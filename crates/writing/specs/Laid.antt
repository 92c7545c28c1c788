-- Words, or bytes, laid from a place on.
use Rattle.std.specs.Prelude.{ℕ, ◌+◌, List, [], ◌∷◌, set}

-- Words stored from a place on, one after the other; what does not fit is dropped.
unfoldable pub laid : List ℕ → ℕ → List ℕ → List ℕ
laid o w [] = o
laid o w (x ∷ xs) = laid (set o w x) (w + 1) xs
