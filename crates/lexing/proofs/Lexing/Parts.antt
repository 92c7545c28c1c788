-- What a callee is lent: a part of a list.
use Prim.Native.Nat.{ℕ, ◌-◌}
use mathlib.Core.Path.{◌≡◌, ap, ◌∙◌}
use mathlib.Core.List.{List}
use native.Mathlib.Omega.{arith}
use lib.ListN.{length, take, drop, length-drop}
use lib.Seq.{take_all}

module _ (s : List ℕ) (k : ℕ) where
  -- The part in front of a place.
  pub front : take (k - 0) (drop 0 s) ≡ take k s
  front = let e : k - 0 ≡ k = omega arith in ap (λ (n : ℕ). take n s) e

  -- The part from a place on.
  pub tail : take (length s - k) (drop k s) ≡ drop k s
  tail = take_all (length s - k) (drop k s) (omega (arith, length-drop k s))

-- The same where the place is known by another name.
pub tail_at : (s : List ℕ) (k n : ℕ) → k ≡ n → take (length s - k) (drop k s) ≡ drop n s
tail_at s k n e = tail s k ∙ ap (λ (i : ℕ). drop i s) e
