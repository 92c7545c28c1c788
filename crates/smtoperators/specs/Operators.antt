-- An operator in front of its operands.
use Rattle.std.specs.Prelude.{ℕ, List, [], ◌∷◌, ◌++◌}

-- An operator behind a parenthesis, and a space.
abbrev pub operator_text : List ℕ → List ℕ
operator_text name = 40 ∷ name ++ (32 ∷ [])
