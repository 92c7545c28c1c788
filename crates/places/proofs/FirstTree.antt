-- Some trees: the first and the others, or none.
use Prim.Native.Nat.{◌<◌}
use mathlib.Core.Path.{◌≡◌, refl}
use native.Mathlib.Omega.{arith}
use Rattle.reading.specs.Tree.{Tree, Trees, tnil, tcons, trees}

pub record More (ts : Trees) : Type 0 where
  pub first : Tree
  pub others : Trees
  pub is : ts ≡ tcons first others

pub some : (ts : Trees) → 0 < trees ts → More ts
unfolding trees
some tnil h = absurd (omega arith)
some (tcons t ts) h = record { first = t; others = ts; is = refl }

pub none_left : (ts : Trees) → trees ts ≡ 0 → ts ≡ tnil
unfolding trees
none_left tnil h = refl
none_left (tcons t ts) h = absurd (omega arith)
