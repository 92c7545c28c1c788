-- Cases of flattening, one for each reading that is easily got wrong.
use Prim.Native.Nat.{ℕ}
use mathlib.Core.Path.{◌≡◌, refl}
use mathlib.Core.List.{List, [], ◌∷◌, ◌++◌}
use lib.ListN.{replicate}
use Rattle.reading.specs.Limits.{max_nodes}
use Rattle.reading.specs.Answer.{Final, accepts, refuses}
use Rattle.grammar.specs.Expr.{Expr}
use Rattle.flattening.specs.Operations.{expr_words, flatten_final}
use Rattle.flattening.specs.Compute.{flatten_computes}

-- The words that are written, or a refusal's number alone.
abbrev shown : Final Expr → List ℕ
shown (accepts e n) = expr_words e
shown (refuses r) = r ∷ []

abbrev flat : List ℕ → List ℕ
flat ws = shown (flatten_final ws (replicate 64 0))

-- The inner arguments come first, and the outer application's sort stays: `((f 1) 2)`, the inner one flagged with Int, the outer one not.
inner_first : flat (38 ∷ 0 ∷ 1 ∷ 33 ∷ 0 ∷ 38 ∷ 1 ∷ 1 ∷ 33 ∷ 1 ∷ 1 ∷ 37 ∷ 0 ∷ 1 ∷ []) ≡ (38 ∷ 0 ∷ 2 ∷ 33 ∷ 1 ∷ 33 ∷ 0 ∷ 37 ∷ 0 ∷ 1 ∷ [])
unfolding flatten_computes
inner_first = refl

-- A let as head ends a chain: the arguments of an application in its body are not joined with those outside.
let-ends : flat (38 ∷ 0 ∷ 1 ∷ 37 ∷ 1 ∷ 1 ∷ 52 ∷ 0 ∷ 0 ∷ 37 ∷ 2 ∷ 1 ∷ 38 ∷ 0 ∷ 1 ∷ 37 ∷ 3 ∷ 1 ∷ 37 ∷ 4 ∷ 1 ∷ []) ≡ (38 ∷ 0 ∷ 1 ∷ 37 ∷ 1 ∷ 1 ∷ 52 ∷ 0 ∷ 0 ∷ 37 ∷ 2 ∷ 1 ∷ 38 ∷ 0 ∷ 1 ∷ 37 ∷ 3 ∷ 1 ∷ 37 ∷ 4 ∷ 1 ∷ [])
unfolding flatten_computes
let-ends = refl

-- A node too deep is 6 even where its fields are missing, and 14 where its kind is unknown.
too_deep_lem : flat (replicate max_nodes 44 ++ (33 ∷ [])) ≡ (6 ∷ [])
unfolding flatten_computes
too_deep_lem = refl

unknown_deep : flat (replicate max_nodes 44 ++ (53 ∷ [])) ≡ (14 ∷ [])
unfolding flatten_computes
unknown_deep = refl
