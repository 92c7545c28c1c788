-- Laws of bytes behind bytes.
use Prim.Native.Nat.{ℕ}
use mathlib.Core.Path.{◌≡◌, refl, sym, ap}
use mathlib.Core.List.{List, [], ◌++◌, append_assoc, append-nil}
use Rattle.reading.specs.Answer.{Ans, got, bad}
use Rattle.smtnames.specs.Pieces.{joined}

-- Brackets do not matter.
pub joined_assoc : (x y z : Ans (List ℕ)) → joined (joined x y) z ≡ joined x (joined y z)
unfolding joined
joined_assoc (bad r) y z = refl
joined_assoc (got a) (bad r) z = refl
joined_assoc (got a) (got b) (bad r) = refl
joined_assoc (got a) (got b) (got c) = ap got (append_assoc a b c)

-- No bytes change nothing.
pub joined-none : (x : Ans (List ℕ)) → joined (got []) x ≡ x
unfolding joined
joined-none (got a) = refl
joined-none (bad r) = refl

pub joined_end : (x : Ans (List ℕ)) → joined x (got []) ≡ x
unfolding joined
joined_end (got a) = ap got (append-nil a)
joined_end (bad r) = refl

-- Bytes in front of bytes in front.
pub joined-got : (a b : List ℕ) (x : Ans (List ℕ)) → joined (got a) (joined (got b) x) ≡ joined (got (a ++ b)) x
unfolding joined
joined-got a b (got c) = ap got (sym (append_assoc a b c))
joined-got a b (bad r) = refl
