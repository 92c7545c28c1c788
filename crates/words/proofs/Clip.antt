-- A list cut at a place that may lie behind its end.
use Prim.Native.Nat.{ℕ, zero, suc, ◌+◌, ◌-◌, ◌≤◌, min, zero-le, suc-le-suc}
use mathlib.Core.Path.{◌≡◌, sym, ◌∙◌}
use mathlib.Core.Logic.{◌⊎◌, inl, inr, ⊎_elim}
use mathlib.Core.List.{List, []}
use native.Mathlib.Omega.{arith}
use native.Mathlib.Nat.{min-eq_left, min-eq_right, le_refl}
use lib.ListN.{length, take, drop, length-drop, drop_of_length-le}
use lib.Seq.{take_all}

-- One of two numbers is at most the other.
pub order : (a b : ℕ) → (a ≤ b) ⊎ (b ≤ a)
order zero b = inl zero-le
order (suc a) zero = inr zero-le
order (suc a) (suc b) = ⊎_elim (λ p. inl (suc-le-suc p)) (λ q. inr (suc-le-suc q)) (order a b)

pub take_min : (n : ℕ) (l : List ℕ) → take (min n (length l)) l ≡ take n l
take_min n l = ⊎_elim (λ (h : n ≤ length l). rw (min-eq_left h)) (λ (h : length l ≤ n). rw (min-eq_right h) (take_all (length l) l (le_refl _) ∙ sym (take_all n l h))) (order n (length l))

pub drop_min : (n : ℕ) (l : List ℕ) → drop (min n (length l)) l ≡ drop n l
drop_min n l = ⊎_elim (λ (h : n ≤ length l). rw (min-eq_left h)) (λ (h : length l ≤ n). rw (min-eq_right h) (drop_of_length-le l (le_refl _) ∙ sym (drop_of_length-le l h))) (order n (length l))

-- A span of a list, where its ends are moved to the list's end if they lie behind it.
pub clipped : (l : List ℕ) (s n : ℕ) → take (min (s + n) (length l) - min s (length l)) (drop (min s (length l)) l) ≡ take n (drop s l)
clipped l s n = rw (drop_min s l) (⊎_elim fits over-end (order n (length (drop s l))))
  where
    fits : n ≤ length (drop s l) → take (min (s + n) (length l) - min s (length l)) (drop s l) ≡ take n (drop s l)
    fits h = ⊎_elim (λ (k : s ≤ length l). let e : min (s + n) (length l) - min s (length l) ≡ n = omega (arith, length-drop s l) in rw e) (λ (k : length l ≤ s). rw (drop_of_length-le l k) (take_all (min (s + n) (length l) - min s (length l)) [] zero-le ∙ sym (take_all n [] zero-le))) (order s (length l))

    over-end : length (drop s l) ≤ n → take (min (s + n) (length l) - min s (length l)) (drop s l) ≡ take n (drop s l)
    over-end h = take_all (min (s + n) (length l) - min s (length l)) (drop s l) (omega (arith, length-drop s l)) ∙ sym (take_all n (drop s l) h)
