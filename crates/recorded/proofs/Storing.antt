-- Words stored one behind the other, where there is room, and counted.
use Prim.Native.Nat.{ℕ, zero, suc, ◌+◌, ◌-◌, ◌≤◌, ◌<◌, min}
use mathlib.Core.Bool.{Bool, true, false}
use mathlib.Core.Path.{◌≡◌, refl, sym, ap, ◌∙◌}
use mathlib.Core.List.{List, [], ◌∷◌, ◌++◌}
use native.Mathlib.Nat.{add-zero}
use native.Mathlib.Numerals.{add-one}
use native.Mathlib.Omega.{arith}
use borrow.Author.Tests.{leb-true, leb-false}
use lib.Dec.{leb}
use lib.ListN.{length, set, length-append}
use lib.Seq.{sets, set_out, length-sets}
use Rattle.reading.specs.Answer.{over}
use Rattle.reading.proofs.Over.{over-more}
use Rattle.recorded.specs.Numbers.{most}
use Rattle.recorded.specs.Spelled.{again}

-- Stores behind the end change nothing.
pub sets-out : (vs l : List ℕ) (i : ℕ) → length l ≤ i → sets l i vs ≡ l
sets-out [] l i h = refl
sets-out (v ∷ vs) l i h = ap (λ (m : List ℕ). sets m (suc i) vs) (set_out l i v h) ∙ sets-out vs l (suc i) (omega arith)

-- Some stores, and then the others.
pub sets_append : (xs ys l : List ℕ) (i : ℕ) → sets l i (xs ++ ys) ≡ sets (sets l i xs) (i + length xs) ys
sets_append [] ys l i = rw add-zero
sets_append (x ∷ xs) ys l i =
    let e : suc i + length xs ≡ i + suc (length xs) = omega arith in
    sets_append xs ys (set l i x) (suc i) ∙ ap (λ (n : ℕ). sets (sets (set l i x) (suc i) xs) n ys) e

-- A place behind the end stands for any other.
sets_capped : (l vs : List ℕ) (i : ℕ) → length l ≤ most → sets l (min most i) vs ≡ sets l i vs
sets_capped l vs i h = go (leb i most) refl
  where
    go : (t : Bool) → leb i most ≡ t → sets l (min most i) vs ≡ sets l i vs
    go true e = ap (λ (n : ℕ). sets l n vs) (omega (arith, leb-true i most e))
    go false e = let k : most < i = leb-false i most e in sets-out vs l (min most i) (omega arith) ∙ sym (sets-out vs l i (omega arith))

-- Of all that is to be stored in l₀ at n₀, the rest is still to be stored, at n.
pub record Left (l₀ : List ℕ) (n₀ : ℕ) (all l : List ℕ) (n : ℕ) (rest : List ℕ) : Type 0 where
  pub kept : length l ≡ length l₀
  pub stores : sets l n rest ≡ sets l₀ n₀ all
  pub counts : min most (n + length rest) ≡ min most (n₀ + length all)

-- At first this is all of it.
pub left-all : (l : List ℕ) (n : ℕ) (all : List ℕ) → Left l n all l n all
left-all l n all = record { kept = refl; stores = refl; counts = refl }

module _ {l₀ : List ℕ} {n₀ : ℕ} {all l : List ℕ} {n : ℕ} {rest : List ℕ} (v : Left l₀ n₀ all l n rest) where
  -- The next of it is stored.
  pub left-more : (xs ys : List ℕ) → rest ≡ xs ++ ys → length l₀ ≤ most → {l' : List ℕ} {n' : ℕ} → l' ≡ sets l n xs → n' ≡ min most (n + length xs) → Left l₀ n₀ all l' n' ys
  left-more xs ys e h {l'} {n'} el en =
      let k : length (sets l n xs) ≡ length l₀ = length-sets l n xs ∙ v.kept in
      record {
        kept = ap length el ∙ k;
        stores =
            ap (λ (m : List ℕ). sets m n' ys) el
            ∙ ap (λ (m : ℕ). sets (sets l n xs) m ys) en
            ∙ sets_capped (sets l n xs) ys (n + length xs) (omega arith)
            ∙ sym (sets_append xs ys l n)
            ∙ ap (λ (m : List ℕ). sets l n m) (sym e)
            ∙ v.stores;
        counts = omega (arith, v.counts, ap length e, length-append xs ys, en);
      }

  -- Nothing is left.
  pub left-none : rest ≡ [] → n ≤ most → (n ≡ min most (n₀ + length all)) × (l ≡ sets l₀ n₀ all)
  left-none e h = (omega (arith, v.counts, ap length e), ap (λ (m : List ℕ). sets l n m) (sym e) ∙ v.stores)

-- What is stored from the start on is laid over the slice.
pub stored-over : (all l₀ : List ℕ) {l : List ℕ} {n : ℕ} → (n ≡ min most (0 + length all)) × (l ≡ sets l₀ 0 all) → (n ≡ min most (length all)) × (l ≡ over all l₀)
unfolding over
stored-over all l₀ p = (omega (arith, p.0), p.1 ∙ over-more all [] l₀ 0 refl)

-- The next time.
pub again-next : (l : List ℕ) (k j : ℕ) → k ≡ j + 1 → again k l ≡ l ++ again j l
unfolding again
again-next l k j e = rw (e, add-one) refl

pub again-none : (l : List ℕ) (k : ℕ) → k ≡ 0 → again k l ≡ []
unfolding again
again-none l k e = rw e refl

-- A list of nothing, so many times.
pub again-nothing : (k : ℕ) → again k [] ≡ []
unfolding again
again-nothing zero = refl
again-nothing (suc k) = again-nothing k

-- One word, so many times.
pub again-length : (w k : ℕ) → length (again k (w ∷ [])) ≡ k
unfolding again
again-length w zero = refl
again-length w (suc k) = ap suc (again-length w k)

-- One word is stored so many times, from a place to an end that is at most the largest number.
module _ (n times w : ℕ) {l₀ l : List ℕ} {i : ℕ} (v : Left l₀ n (again times (w ∷ [])) l i (again (n + times - i) (w ∷ []))) where
  pub word_more : i < n + times → i < length l → length l₀ ≤ most → Left l₀ n (again times (w ∷ [])) (set l i w) (i + 1) (again (n + times - (i + 1)) (w ∷ []))
  word_more h k m =
      left-more v (w ∷ []) (again (n + times - (i + 1)) (w ∷ [])) (again-next (w ∷ []) (n + times - i) (n + times - (i + 1)) (omega arith)) m refl (omega (arith, v.kept))

  -- The end of the slice, or of the words, is reached.
  word_end : {end : ℕ} → end ≡ min most (n + times) → length l ≤ i → (end ≡ min most (n + length (again times (w ∷ [])))) × (l ≡ sets l₀ n (again times (w ∷ [])))
  word_end {end} e h = (omega (arith, e, again-length w times), sym (sets-out (again (n + times - i) (w ∷ [])) l i h) ∙ v.stores)

  word-last : {end : ℕ} → end ≡ min most (n + times) → length l₀ ≤ most → end ≤ i → (end ≡ min most (n + length (again times (w ∷ [])))) × (l ≡ sets l₀ n (again times (w ∷ [])))
  word-last {end} e m h = (omega (arith, e, again-length w times), go (leb (n + times) i) refl)
    where
      go : (t : Bool) → leb (n + times) i ≡ t → l ≡ sets l₀ n (again times (w ∷ []))
      go true q =
          let z : n + times - i ≡ 0 = omega (arith, leb-true (n + times) i q) in
          ap (λ (k : List ℕ). sets l i k) (sym (again-none (w ∷ []) (n + times - i) z)) ∙ v.stores
      go false q =
          let k : i < n + times = leb-false (n + times) i q in
          sym (sets-out (again (n + times - i) (w ∷ [])) l i (omega (arith, v.kept, e))) ∙ v.stores

  -- The one or the other.
  pub word_done : {end : ℕ} → end ≡ min most (n + times) → length l₀ ≤ most → min end (length l₀) ≤ i → (end ≡ min most (n + length (again times (w ∷ [])))) × (l ≡ sets l₀ n (again times (w ∷ [])))
  word_done {end} e m h = go (leb end i) refl
    where
      go : (t : Bool) → leb end i ≡ t → (end ≡ min most (n + length (again times (w ∷ [])))) × (l ≡ sets l₀ n (again times (w ∷ [])))
      go true q = word-last e m (leb-true end i q)
      go false q = word_end e (omega (arith, leb-false end i q, v.kept, h))
