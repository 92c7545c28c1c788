-- Lists that have each number of a run once.
use Prim.Native.Nat.{ℕ, zero, suc, ◌+◌, ◌-◌, ◌≤◌, ◌<◌}
use mathlib.Core.Path.{◌≡◌, refl, sym, ap, ap₂, ◌∙◌}
use mathlib.Core.List.{List, [], ◌∷◌, ◌++◌}
use mathlib.Core.Bool.{Bool, true, false}
use native.Mathlib.Omega.{arith}
use lib.Dec.{eqb, ltb}
use lib.ListN.{length, length-append}
use borrow.Author.Tests.{eqb-true, eqb-false, eq-eqb, ne_eqb, ltb-true, ltb-false}
use Rattle.reading.specs.Pick.{pick}
use Rattle.grammar.specs.Item.{Item, plain, uses, binds, raise, used, bound}
use Rattle.grammar.specs.Numbers.{hit, times, Exactly}
use Rattle.grammar.proofs.SameNumbers.{times_append}

-- The numbers from k on, so many.
unfoldable pub up_from : ℕ → ℕ → List ℕ
up_from k zero = []
up_from k (suc n) = k ∷ up_from (suc k) n

pub length_up : (k n : ℕ) → length (up_from k n) ≡ n
unfolding up_from
length_up k zero = refl
length_up k (suc n) = ap suc (length_up (suc k) n)

once-same : (k x : ℕ) → k ≡ x → hit k x ≡ 1
unfolding pick
once-same k x h = rw (eq-eqb k x h) refl

once-other : (k x : ℕ) → (k ≡ x → ⊥) → hit k x ≡ 0
unfolding pick
once-other k x h = rw (ne_eqb k x h) refl

up-below : (a n k : ℕ) → k < a → times k (up_from a n) ≡ 0
unfolding up_from times
up-below a zero k u = refl
up-below a (suc n) k u = omega (arith, once-other k a (λ e. omega arith), up-below (suc a) n k (omega arith))

up_above : (a n k : ℕ) → a + n ≤ k → times k (up_from a n) ≡ 0
unfolding up_from times
up_above a zero k u = refl
up_above a (suc n) k u = omega (arith, once-other k a (λ e. omega arith), up_above (suc a) n k (omega arith))

up-once : (a n k : ℕ) → a ≤ k → k < a + n → times k (up_from a n) ≡ 1
unfolding up_from times
up-once a zero k l u = absurd (omega arith)
up-once a (suc n) k l u = go (eqb k a) refl (λ v. up-once (suc a) n k v (omega arith))
  where
    go : (b : Bool) → eqb k a ≡ b → (suc a ≤ k → times k (up_from (suc a) n) ≡ 1) → hit k a + times k (up_from (suc a) n) ≡ 1
    go true e h = let q : k ≡ a = eqb-true k a e in omega (arith, once-same k a q, up-below (suc a) n k (omega arith))
    go false e h = let q : k ≡ a → ⊥ = eqb-false k a e in omega (arith, once-other k a q, h (omega arith))

-- A run has each of its numbers once.
pub exactly_up : (a n : ℕ) → Exactly a (up_from a n) (a + n)
exactly_up a n =
    record { below = λ k u. up-below a n k u; once = λ k l u. up-once a n k l u; above = λ k u. up_above a n k u; size = ap (λ m. a + m) (sym (length_up a n)) }

pub exactly_none : (a : ℕ) → Exactly a [] a
unfolding times
exactly_none a = record { below = λ k u. refl; once = λ k l u. absurd (omega arith); above = λ k u. refl; size = omega arith }

-- One run behind another.
pub exactly_append : (a b d : ℕ) (l r : List ℕ) → Exactly a l b → Exactly b r d → Exactly a (l ++ r) d
exactly_append a b d l r x y =
    record {
      below = λ k u. rw times_append (omega (arith, x.below k u, y.below k (omega (arith, x.size))));
      once = λ k lo up. rw times_append (go k lo up (ltb k b) refl);
      above = λ k u. rw times_append (omega (arith, y.above k u, x.above k (omega (arith, y.size))));
      size = omega (arith, x.size, y.size, length-append l r);
    }
  where
    go : (k : ℕ) → a ≤ k → k < d → (t : Bool) → ltb k b ≡ t → times k l + times k r ≡ 1
    go k lo up true e = let u : k < b = ltb-true k b e in omega (arith, x.once k lo u, y.below k u)
    go k lo up false e = let u : b ≤ k = ltb-false k b e in omega (arith, x.above k u, y.once k u up)

-- Each number of a list raised by c.
unfoldable pub plus : ℕ → List ℕ → List ℕ
plus c [] = []
plus c (x ∷ xs) = (c + x) ∷ plus c xs

pub bound-raise : (c : ℕ) (its : List Item) → bound (raise c its) ≡ plus c (bound its)
unfolding plus bound raise
bound-raise c [] = refl
bound-raise c (plain w ∷ its) = bound-raise c its
bound-raise c (uses k ∷ its) = bound-raise c its
bound-raise c (binds k ∷ its) = ap (λ l. (c + k) ∷ l) (bound-raise c its)

pub used-raise : (c : ℕ) (its : List Item) → used (raise c its) ≡ plus c (used its)
unfolding plus used raise
used-raise c [] = refl
used-raise c (plain w ∷ its) = used-raise c its
used-raise c (uses k ∷ its) = ap (λ l. (c + k) ∷ l) (used-raise c its)
used-raise c (binds k ∷ its) = used-raise c its

pub plus-up : (c a n : ℕ) → plus c (up_from a n) ≡ up_from (c + a) n
unfolding plus up_from
plus-up c a zero = refl
plus-up c a (suc n) = ap (λ l. (c + a) ∷ l) (plus-up c (suc a) n ∙ ap (λ k. up_from k n) e)
  where
    e : c + suc a ≡ suc (c + a)
    e = omega arith

length-plus : (c : ℕ) (l : List ℕ) → length (plus c l) ≡ length l
unfolding plus
length-plus c [] = refl
length-plus c (x ∷ xs) = ap suc (length-plus c xs)

once-plus : (c k x : ℕ) → hit (c + k) (c + x) ≡ hit k x
once-plus c k x = go (eqb k x) refl
  where
    go : (b : Bool) → eqb k x ≡ b → hit (c + k) (c + x) ≡ hit k x
    go true e = let q : k ≡ x = eqb-true k x e in once-same (c + k) (c + x) (omega arith) ∙ sym (once-same k x q)
    go false e = let q : k ≡ x → ⊥ = eqb-false k x e in once-other (c + k) (c + x) (λ p. q (omega arith)) ∙ sym (once-other k x q)

times-plus : (c k : ℕ) (l : List ℕ) → times (c + k) (plus c l) ≡ times k l
unfolding plus times
times-plus c k [] = refl
times-plus c k (x ∷ xs) = ap₂ ◌+◌ (once-plus c k x) (times-plus c k xs)

times-plus-below : (c k : ℕ) (l : List ℕ) → k < c → times k (plus c l) ≡ 0
unfolding plus times
times-plus-below c k [] u = refl
times-plus-below c k (x ∷ xs) u = omega (arith, once-other k (c + x) (λ e. omega arith), times-plus-below c k xs u)

module _ (c n : ℕ) (its : List Item) (x : Exactly 0 (bound its) n) where
  above-c : (k : ℕ) → c ≤ k → times k (bound (raise c its)) ≡ times (k - c) (bound its)
  above-c k h = rw (bound-raise c its) (ap (λ j. times j (plus c (bound its))) e ∙ times-plus c (k - c) (bound its))
    where
      e : k ≡ c + (k - c)
      e = omega arith

  -- What is bound from 0 on is bound from c on where the items are raised by c.
  pub exactly_raise : Exactly c (bound (raise c its)) (c + n)
  exactly_raise =
      record {
        below = λ k u. rw (bound-raise c its) (times-plus-below c k (bound its) u);
        once = λ k lo up. above-c k lo ∙ x.once (k - c) (omega arith) (omega arith);
        above = λ k u. above-c k (omega arith) ∙ x.above (k - c) (omega arith);
        size = omega (arith, x.size, ap length (bound-raise c its), length-plus c (bound its));
      }
