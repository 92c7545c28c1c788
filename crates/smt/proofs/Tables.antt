-- What holds of every name in a table.
use Prim.Native.Nat.{ℕ, zero, suc, ◌≤◌}
use mathlib.Core.Path.{◌≡◌}
use mathlib.Core.Bool.{Bool, true, ◌&&◌}
use mathlib.Core.List.{List, [], ◌∷◌}
use native.Mathlib.Omega.{arith}
use lib.ListN.{length}
use Rattle.reading.specs.Bytes.{ascii, Named, named}
use Rattle.smt.specs.Writer.{spelled_at}
use Rattle.smt.proofs.Tests.{and_left, and_right}

-- Each name passes.
abbrev pub each_name : {A : Type 0} → (List ℕ → Bool) → List (Named A) → Bool
each_name p [] = true
each_name p (named s a ∷ rows) = p (ascii s) && each_name p rows

-- So does the one at a place; behind the last row there is no byte.
pub name_passes : {A : Type 0} (p : List ℕ → Bool) (rows : List (Named A)) (k : ℕ) → each_name p rows ≡ true → (length rows ≤ k → p [] ≡ true) → p (spelled_at rows k) ≡ true
name_passes p [] k h n = n (omega arith)
name_passes p (named s a ∷ rows) zero h n = and_left (p (ascii s)) (each_name p rows) h
name_passes p (named s a ∷ rows) (suc k) h n = name_passes p rows k (and_right (p (ascii s)) (each_name p rows) h) (λ l. n (omega (arith, l)))
