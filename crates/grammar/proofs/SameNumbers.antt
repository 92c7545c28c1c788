-- Lists that have the same numbers, each as often.
use Prim.Native.Nat.{ℕ, ◌+◌}
use mathlib.Core.Path.{◌≡◌, refl, sym, ap, ap₂, ◌∙◌}
use mathlib.Core.List.{List, [], ◌∷◌, ◌++◌}
use native.Mathlib.Omega.{arith}
use lib.ListN.{length, length-append}
use Rattle.grammar.specs.Numbers.{times, Exactly}

-- How often a number stands in two lists, one after the other.
pub times_append : (k : ℕ) (a b : List ℕ) → times k (a ++ b) ≡ times k a + times k b
unfolding times
times_append k [] b = omega arith
times_append k (x ∷ xs) b = omega (arith, times_append k xs b)

-- Each number stands as often in the one as in the other, and they are of one length.
pub record Same (a b : List ℕ) : Type 0 where
  pub often : (k : ℕ) → times k a ≡ times k b
  pub long : length a ≡ length b

-- A list is the same as itself.
pub same_refl : (a : List ℕ) → Same a a
same_refl a = record { often = λ k. refl; long = refl }

-- Equal lists are the same.
pub same_of : (a b : List ℕ) → a ≡ b → Same a b
same_of a b e = record { often = λ k. ap (times k) e; long = ap length e }

-- The other way round.
pub same-sym : (a b : List ℕ) → Same a b → Same b a
same-sym a b s = record { often = λ k. sym (s.often k); long = sym s.long }

-- One after the other.
pub same_trans : (a b c : List ℕ) → Same a b → Same b c → Same a c
same_trans a b c s t = record { often = λ k. s.often k ∙ t.often k; long = s.long ∙ t.long }

-- Two parts that are the same one by one.
pub same_append : (a b c d : List ℕ) → Same a c → Same b d → Same (a ++ b) (c ++ d)
same_append a b c d s t =
    record { often = λ k. simp times_append (ap₂ ◌+◌ (s.often k) (t.often k)); long = simp length-append (ap₂ ◌+◌ s.long t.long) }

-- Two lists in front of a third change places.
pub same_swap : (a b c : List ℕ) → Same ((a ++ b) ++ c) (b ++ (a ++ c))
same_swap a b c = record { often = λ k. simp times_append (omega arith); long = simp length-append (omega arith) }

-- A list with the same numbers has each of them exactly once, too.
pub exactly_same : (a : ℕ) (l r : List ℕ) (b : ℕ) → Same l r → Exactly a r b → Exactly a l b
exactly_same a l r b s x =
    record {
      below = λ k u. s.often k ∙ x.below k u;
      once = λ k lo up. s.often k ∙ x.once k lo up;
      above = λ k u. s.often k ∙ x.above k u;
      size = x.size ∙ ap (λ n. a + n) (sym s.long);
    }
