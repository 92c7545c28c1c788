-- Laws of slices that are filled and compared.
use Prim.Native.Nat.{ℕ, zero, suc, ◌+◌, ◌-◌, ◌≤◌, ◌<◌}
use mathlib.Core.Bool.{Bool, true, false, ◌&&◌}
use mathlib.Core.Path.{◌≡◌, refl, sym, ap, ◌∙◌}
use mathlib.Core.List.{List, [], ◌∷◌, ◌++◌, append-nil}
use native.Mathlib.Nat.{add-zero, not-suc-le-zero, le_of_suc-le-suc}
use native.Mathlib.Numerals.{add-one}
use native.Mathlib.Omega.{arith}
use borrow.Author.Tests.{leb-true, leb-false, lt-ltb, le-ltb, le-leb, lt-leb}
use lib.Dec.{leb, ltb}
use lib.ListN.{length, get_or, set, drop, length-replicate, get_or-replicate, length-set, drop_of_length-le}
use lib.Seq.{sets}
use Rattle.reading.specs.Pick.{pick}
use Rattle.reading.specs.Bytes.{same_bytes}
use Rattle.reading.specs.Answer.{zeros, over}
use Rattle.reading.proofs.Bytes.{same_more, same_differ, same_end}
use Rattle.reading.proofs.Over.{over-length, over-more, over-fits}
use Rattle.compared.specs.Recorded.{pattern, patterns, filled, is_answer}

pub patterns-length : (i n : ℕ) → length (patterns i n) ≡ n
unfolding patterns
patterns-length i zero = refl
patterns-length i (suc n) = ap suc (patterns-length (suc i) n)

patterns-at : (i n k : ℕ) → k < n → get_or (patterns i n) k 0 ≡ pattern (i + k)
unfolding patterns
patterns-at i zero k h = absurd (not-suc-le-zero h)
patterns-at i (suc n) zero h = ap pattern (sym (add-zero i))
patterns-at i (suc n) (suc k) h = patterns-at (suc i) n k (le_of_suc-le-suc h) ∙ ap pattern (omega arith)

-- The patterns from the index i on are still to be stored.
pub record Filling (l₀ l : List ℕ) (i : ℕ) : Type 0 where
  pub kept : length l ≡ length l₀
  pub stores : sets l i (patterns i (length l₀ - i)) ≡ filled l₀

pub filling_all : (l : List ℕ) → Filling l l 0
unfolding over
filling_all l =
    let n : length (patterns 0 (length l)) ≡ length l = patterns-length 0 (length l) in
    let z : length l - 0 ≡ length l = omega arith in
    record {
      kept = refl;
      stores =
          ap (λ (k : ℕ). sets l 0 (patterns 0 k)) z
          ∙ over-more (patterns 0 (length l)) [] l 0 refl
          ∙ over-fits (patterns 0 (length l)) l (omega arith)
          ∙ ap (λ (m : List ℕ). patterns 0 (length l) ++ m) (drop_of_length-le l {i = length (patterns 0 (length l))} (omega arith))
          ∙ append-nil (patterns 0 (length l));
    }

module _ {l₀ l : List ℕ} {i : ℕ} (v : Filling l₀ l i) where
  pub filling_more : i < length l₀ → {w : ℕ} → w ≡ pattern i → Filling l₀ (set l i w) (i + 1)
  unfolding patterns
  filling_more h {w} e =
      let n : length l₀ - i ≡ suc (length l₀ - (i + 1)) = omega (arith, v.kept) in
      record { kept = length-set l i w ∙ v.kept; stores = rw (e, add-one) (rw (n, add-one) at v.stores) }

  pub filling_none : length l₀ ≤ i → l ≡ filled l₀
  unfolding patterns
  filling_none h =
      let n : length l₀ - i ≡ 0 = omega (arith, v.kept) in
      rw n at v.stores

-- A slice is compared with another list of its length, from the index i on.
pub record Comparing (l m : List ℕ) (i : ℕ) : Type 0 where
  pub long : length m ≡ length l
  pub left : same_bytes l m ≡ same_bytes (drop i l) (drop i m)

pub comparing_all : (l m : List ℕ) → length m ≡ length l → Comparing l m 0
comparing_all l m e = record { long = e; left = refl }

module _ {l m : List ℕ} {i : ℕ} (v : Comparing l m i) where
  pub comparing_differ : i < length l → {w : ℕ} → w ≡ get_or m i 0 → (get_or l i 0 ≡ w → ⊥) → false ≡ same_bytes l m
  comparing_differ h e d = sym (v.left ∙ same_differ l m i h (omega (arith, v.long)) (λ z. d (z ∙ sym e)))

  pub comparing_more : i < length l → {w : ℕ} → w ≡ get_or m i 0 → get_or l i 0 ≡ w → Comparing l m (i + 1)
  comparing_more h e d = record { long = v.long; left = v.left ∙ same_more l m i h (omega (arith, v.long)) (d ∙ e) }

  pub comparing_none : length l ≤ i → true ≡ same_bytes l m
  comparing_none h = sym (v.left ∙ same_end l m i h (omega (arith, v.long)))

-- Zeros.
pub zeros-length : (l : List ℕ) → length (zeros l) ≡ length l
zeros-length l = length-replicate (length l) 0

pub zeros-at : (l : List ℕ) (i : ℕ) → i < length l → 0 ≡ get_or (zeros l) i 0
zeros-at l i h = sym (get_or-replicate (length l) i 0 0 h)

-- Words laid over a slice: one of them, or one behind them.
over_in : (ws o : List ℕ) (i : ℕ) → i < length ws → i < length o → get_or (over ws o) i 0 ≡ get_or ws i 0
unfolding over
over_in [] o i h k = absurd (not-suc-le-zero h)
over_in (w ∷ ws) [] i h k = absurd (not-suc-le-zero k)
over_in (w ∷ ws) (x ∷ o) zero h k = refl
over_in (w ∷ ws) (x ∷ o) (suc i) h k = over_in ws o i (le_of_suc-le-suc h) (le_of_suc-le-suc k)

over-out : (ws o : List ℕ) (i : ℕ) → length ws ≤ i → get_or (over ws o) i 0 ≡ get_or o i 0
unfolding over
over-out [] o i h = refl
over-out (w ∷ ws) [] i h = refl
over-out (w ∷ ws) (x ∷ o) zero h = absurd (not-suc-le-zero h)
over-out (w ∷ ws) (x ∷ o) (suc i) h = over-out ws o i (le_of_suc-le-suc h)

module _ (words out : List ℕ) where
  pub answer-length : length (over words (filled out)) ≡ length out
  answer-length = over-length words (filled out) ∙ patterns-length 0 (length out)

  pub answer_at : (i : ℕ) → i < length out → {w : ℕ} → w ≡ pick (ltb i (length words)) (get_or words i 0) (pattern i) → w ≡ get_or (over words (filled out)) i 0
  unfolding pick
  answer_at i h {w} e = go (leb (length words) i) refl
    where
      go : (t : Bool) → leb (length words) i ≡ t → w ≡ get_or (over words (filled out)) i 0
      go true q =
          let k : length words ≤ i = leb-true (length words) i q in
          let z : 0 + i ≡ i = omega arith in
          e ∙ rw (le-ltb i (length words) k) (sym (over-out words (filled out) i k ∙ patterns-at 0 (length out) i h ∙ ap pattern z))
      go false q =
          let k : i < length words = leb-false (length words) i q in
          e ∙ rw (lt-ltb i (length words) k) (sym (over_in words (filled out) i k (rw patterns-length h)))

  -- Words that fit, or do not.
  pub answer-fits : length words ≤ length out → {r : Bool} → r ≡ same_bytes out (over words (filled out)) → r ≡ is_answer words out
  unfolding is_answer
  answer-fits h e = e ∙ rw (le-leb (length words) (length out) h) refl

  pub answer-long : length out < length words → false ≡ is_answer words out
  unfolding is_answer
  answer-long h = rw (lt-leb (length words) (length out) h) refl

-- Two tests: the first fails, or it holds and the second decides.
pub and_no : {a : Bool} (b : Bool) → a ≡ false → false ≡ a && b
and_no b e = rw e refl

pub and_yes : {a b r : Bool} → a ≡ true → r ≡ b → r ≡ a && b
and_yes e q = rw e q
