-- Laws of the parts of a field.
use Prim.Native.Nat.{ℕ, suc, ◌+◌, ◌*◌, ◌≤◌, ◌<◌, min}
use mathlib.Core.Bool.{Bool, true, false}
use mathlib.Core.Path.{◌≡◌, refl, sym, ap, ◌∙◌}
use mathlib.Core.List.{List, [], ◌∷◌, ◌++◌}
use native.Mathlib.Nat.{add-zero}
use native.Mathlib.Omega.{arith}
use borrow.Author.Tests.{leb-true, leb-false}
use lib.Dec.{leb, ltb}
use lib.ListN.{length, get_or, drop, drop_of_length-le}
use lib.Seq.{sets, drop-cons, drop-drop, get_or-drop}
use Rattle.reading.specs.Pick.{pick}
use Rattle.reading.proofs.Picks.{pick_lt, pick_ge, pick_eq, pick_ne, pick-holds}
use Rattle.reading.specs.Answer.{over}
use Rattle.recorded.specs.Numbers.{most, digit, decimal, hexadecimal}
use Rattle.recorded.specs.Fields.{ends, up_to, end_from}
use Rattle.recorded.specs.Spelled.{parts_behind, times, bytes_once, word_once, again, spelled}
use Rattle.recorded.proofs.Digits.{digit-zero}
use Rattle.recorded.proofs.Storing.{again-nothing, Left, left-none, left-more, stored-over}
use Rattle.recorded.proofs.Places.{ends-zero, ends-small}

-- The next part, where `.` or `,` ends the first one.
parts_more : (s : List ℕ) → ends (get_or s (up_to 2 s) 0) ≡ 2 → parts_behind s ≡ drop (suc (up_to 2 s)) s ∷ parts_behind (drop (suc (up_to 2 s)) s)
unfolding parts_behind up_to pick
parts_more [] e = absurd (omega (arith, e, ends-zero))
parts_more (b ∷ s) e = go (leb 2 (ends b)) refl e (parts_more s)
  where
    go : (t : Bool) → leb 2 (ends b) ≡ t → ends (get_or (b ∷ s) (pick t 0 (suc (up_to 2 s))) 0) ≡ 2 → (ends (get_or s (up_to 2 s) 0) ≡ 2 → parts_behind s ≡ drop (suc (up_to 2 s)) s ∷ parts_behind (drop (suc (up_to 2 s)) s))
        → parts_behind (b ∷ s) ≡ drop (suc (pick t 0 (suc (up_to 2 s)))) (b ∷ s) ∷ parts_behind (drop (suc (pick t 0 (suc (up_to 2 s)))) (b ∷ s))
    go true q e k = let n : ends b ≡ 2 = e in let m : ends b ≡ 3 → ⊥ = λ z. omega arith in sym (pick_ne [] m (pick_eq _ n refl))
    go false q e k = let h : ends b < 2 = leb-false 2 (ends b) q in let m : ends b ≡ 3 → ⊥ = λ z. omega arith in let n : ends b ≡ 2 → ⊥ = λ z. omega arith in sym (pick_ne [] m (pick_ne _ n (sym (k e))))

-- There is none, where a field or the text ends.
parts_last : (s : List ℕ) → (ends (get_or s (up_to 2 s) 0) ≡ 2 → ⊥) → parts_behind s ≡ []
unfolding parts_behind up_to pick
parts_last [] e = refl
parts_last (b ∷ s) e = go (leb 2 (ends b)) refl e (parts_last s)
  where
    go : (t : Bool) → leb 2 (ends b) ≡ t → (ends (get_or (b ∷ s) (pick t 0 (suc (up_to 2 s))) 0) ≡ 2 → ⊥) → ((ends (get_or s (up_to 2 s) 0) ≡ 2 → ⊥) → parts_behind s ≡ []) → parts_behind (b ∷ s) ≡ []
    go true q e k = let h : 2 ≤ ends b = leb-true 2 (ends b) q in let m : ends b ≤ 3 = ends-small b in let n : ends b ≡ 2 → ⊥ = e in let z : ends b ≡ 3 = omega arith in sym (pick_eq _ z refl)
    go false q e k = let h : ends b < 2 = leb-false 2 (ends b) q in let m : ends b ≡ 3 → ⊥ = λ z. omega arith in let n : ends b ≡ 2 → ⊥ = λ z. omega arith in sym (pick_ne [] m (pick_ne _ n (sym (k e))))

-- The text from a place on, and the place where its first part ends.
module _ (once : List ℕ → List ℕ) (s : List ℕ) (i : ℕ) {end : ℕ} (e : end ≡ end_from 2 s i) where
  first-end : get_or (drop i s) (up_to 2 (drop i s)) 0 ≡ get_or s end 0
  first-end = get_or-drop i s (up_to 2 (drop i s)) 0 ∙ ap (λ (n : ℕ). get_or s n 0) (sym e)

  -- What a field spells is what its first part spells, and what the field from the next part on does.
  pub spelled-more : ends (get_or s end 0) ≡ 2 → spelled once (drop i s ∷ parts_behind (drop i s)) ≡ again (times (drop i s)) (once (drop i s)) ++ spelled once (drop (end + 1) s ∷ parts_behind (drop (end + 1) s))
  unfolding spelled
  spelled-more h =
      let n : i + suc (up_to 2 (drop i s)) ≡ end + 1 = omega (arith, e) in
      let d : drop (suc (up_to 2 (drop i s))) (drop i s) ≡ drop (end + 1) s = drop-drop (suc (up_to 2 (drop i s))) i s ∙ ap (λ (k : ℕ). drop k s) n in
      let p : parts_behind (drop i s) ≡ drop (end + 1) s ∷ parts_behind (drop (end + 1) s) = parts_more (drop i s) (ap ends first-end ∙ h) ∙ ap (λ (l : List ℕ). l ∷ parts_behind l) d in
      ap (λ (ps : List (List ℕ)). again (times (drop i s)) (once (drop i s)) ++ spelled once ps) p

  -- The last part.
  pub spelled-last : (ends (get_or s end 0) ≡ 2 → ⊥) → spelled once (drop i s ∷ parts_behind (drop i s)) ≡ again (times (drop i s)) (once (drop i s)) ++ []
  unfolding spelled
  spelled-last h = ap (λ (ps : List (List ℕ)). again (times (drop i s)) (once (drop i s)) ++ spelled once ps) (parts_last (drop i s) (λ z. h (ap ends (sym first-end) ∙ z)))

-- A part is stored of what a field spells: the last one, or one that others follow.
module _ (once : List ℕ → List ℕ) (s : List ℕ) (i : ℕ) {end : ℕ} (e : end ≡ end_from 2 s i) {l₀ all l l' : List ℕ} {n n' b : ℕ}
    (v : Left l₀ 0 all l n (spelled once (drop i s ∷ parts_behind (drop i s)))) (m : length l₀ ≤ most)
    (f : n' ≡ min most (n + length (again (times (drop i s)) (once (drop i s))))) (g : l' ≡ sets l n (again (times (drop i s)) (once (drop i s)))) (h : b ≡ ends (get_or s end 0)) where
  pub part-last : (b ≡ 2 → ⊥) → (n' ≡ min most (length all)) × (l' ≡ over all l₀)
  part-last k = stored-over all l₀ (left-none (left-more v (again (times (drop i s)) (once (drop i s))) [] (spelled-last once s i e (λ z. k (h ∙ z))) m g f) refl (omega (arith, f)))

  pub part-more : b ≡ 2 → (n' ≤ most) × Left l₀ 0 all l' n' (spelled once (drop (end + 1) s ∷ parts_behind (drop (end + 1) s)))
  part-more k =
      (omega (arith, f), left-more v (again (times (drop i s)) (once (drop i s))) (spelled once (drop (end + 1) s ∷ parts_behind (drop (end + 1) s))) (spelled-more once s i e (sym h ∙ k)) m g f)

-- How often a part is meant, by the byte behind its digits.
module _ (s : List ℕ) (i : ℕ) {end : ℕ} (e : end ≡ end_from 1 s i) where
  behind-digits : get_or (drop i s) (up_to 1 (drop i s)) 0 ≡ get_or s end 0
  behind-digits = get_or-drop i s (up_to 1 (drop i s)) 0 ∙ ap (λ (n : ℕ). get_or s n 0) (sym e)

  pub times_star : get_or s end 0 ≡ 42 → decimal (drop (end + 1) s) ≡ times (drop i s)
  unfolding times
  times_star h =
      let n : i + (up_to 1 (drop i s) + 1) ≡ end + 1 = omega (arith, e) in
      pick_eq _ (behind-digits ∙ h) (ap decimal (sym (drop-drop (up_to 1 (drop i s) + 1) i s ∙ ap (λ (k : ℕ). drop k s) n)))

  pub times-once : (get_or s end 0 ≡ 42 → ⊥) → 1 ≡ times (drop i s)
  unfolding times
  times-once h = pick_ne _ (λ z. h (sym behind-digits ∙ z)) refl

-- The bytes of a part, by its next two bytes.
high-ends : (a : ℕ) (r : List ℕ) → 16 ≤ digit a → bytes_once (a ∷ r) ≡ []
unfolding bytes_once
high-ends a [] h = refl
high-ends a (b ∷ r) h = sym (pick_ge _ h refl)

low-ends : (a : ℕ) (r : List ℕ) → 16 ≤ digit (get_or r 0 0) → bytes_once (a ∷ r) ≡ []
unfolding bytes_once
low-ends a [] h = refl
low-ends a (b ∷ r) h = pick-holds (ltb (digit a) 16) _ [] (λ l. l ≡ []) (sym (pick_ge _ h refl)) refl

both_spell : (a : ℕ) (r : List ℕ) → digit a < 16 → digit (get_or r 0 0) < 16 → bytes_once (a ∷ r) ≡ (16 * digit a + digit (get_or r 0 0)) ∷ bytes_once (drop 1 r)
unfolding bytes_once
both_spell a [] h k = absurd (omega (arith, k, digit-zero))
both_spell a (b ∷ r) h k = sym (pick_lt _ h (pick_lt _ k refl))

module _ (s : List ℕ) (i : ℕ) where
  pub once-end : length s ≤ i → bytes_once (drop i s) ≡ []
  unfolding bytes_once
  once-end h = rw drop_of_length-le

  module _ (h : i < length s) where
    next-byte : get_or (drop (suc i) s) 0 0 ≡ get_or s (i + 1) 0
    next-byte = let n : suc i + 0 ≡ i + 1 = omega arith in get_or-drop (suc i) s 0 0 ∙ ap (λ (k : ℕ). get_or s k 0) n

    pub once-high : 16 ≤ digit (get_or s i 0) → bytes_once (drop i s) ≡ []
    once-high k = rw (drop-cons s i 0) (high-ends (get_or s i 0) (drop (suc i) s) k)

    pub once-low : 16 ≤ digit (get_or s (i + 1) 0) → bytes_once (drop i s) ≡ []
    once-low k = rw (drop-cons s i 0) (low-ends (get_or s i 0) (drop (suc i) s) (rw next-byte k))

    pub once_more : (high low : ℕ) → high ≡ digit (get_or s i 0) → low ≡ digit (get_or s (i + 1) 0) → high < 16 → low < 16 → bytes_once (drop i s) ≡ ((16 * high + low) ∷ []) ++ bytes_once (drop (i + 2) s)
    once_more high low eh el h16 l16 =
        let n : suc i + 1 ≡ i + 2 = omega arith in
        let d : drop 1 (drop (suc i) s) ≡ drop (i + 2) s = drop-drop 1 (suc i) s ∙ ap (λ (k : ℕ). drop k s) n in
        let p : bytes_once (drop i s) ≡ (16 * digit (get_or s i 0) + digit (get_or (drop (suc i) s) 0 0)) ∷ bytes_once (drop 1 (drop (suc i) s)) =
        rw (drop-cons s i 0) (both_spell (get_or s i 0) (drop (suc i) s) (rw eh at h16) (rw (next-byte, ← el) l16)) in
        p ∙ rw (next-byte, d, eh, el) refl

-- The word of a part, by its first byte.
module _ (s : List ℕ) (i : ℕ) where
  first_byte_lem : get_or (drop i s) 0 0 ≡ get_or s i 0
  first_byte_lem = get_or-drop i s 0 0 ∙ ap (λ (n : ℕ). get_or s n 0) (add-zero i)

  word_none : 16 ≤ digit (get_or s i 0) → word_once (drop i s) ≡ []
  unfolding word_once
  word_none h = rw first_byte_lem (sym (pick_ge _ h refl))

  word_some : digit (get_or s i 0) < 16 → {w : ℕ} → w ≡ hexadecimal (drop i s) → word_once (drop i s) ≡ w ∷ []
  unfolding word_once
  word_some h e = rw (first_byte_lem, e) (sym (pick_lt _ h refl))

  -- Its words, and with them how often it is meant.
  pub part_none : 16 ≤ digit (get_or s i 0) → again (times (drop i s)) (word_once (drop i s)) ≡ []
  part_none h = ap (again (times (drop i s))) (word_none h) ∙ again-nothing (times (drop i s))

  pub part-some : digit (get_or s i 0) < 16 → {w t : ℕ} → w ≡ hexadecimal (drop i s) → t ≡ times (drop i s) → again (times (drop i s)) (word_once (drop i s)) ≡ again t (w ∷ [])
  part-some h {w} {t} e k = let o : word_once (drop i s) ≡ w ∷ [] = word_some h e in cc
