-- What the loops of this crate do, step by step: bytes that are copied from the first to the last, digits that are counted, and digits that
-- are laid from the last to the first.
use Prim.Native.Nat.{ℕ, suc, ◌+◌, ◌-◌, ◌≤◌, ◌<◌}
use mathlib.Core.Path.{◌≡◌, refl, sym, ap, ◌∙◌}
use mathlib.Core.List.{List, [], ◌∷◌}
use native.Mathlib.Omega.{arith}
use native.Mathlib.Nat.{add-zero}
use lib.ListN.{length, get_or, set, drop, length-set, drop_of_length-le}
use lib.Seq.{drop-cons}
use Rattle.writing.specs.Laid.{laid}
use Rattle.writing.specs.Wrote.{Wrote}
use Rattle.writing.specs.Digits.{decimal}
use Rattle.writing.specs.Quads.{Tenths}
use Rattle.writing.proofs.Laid.{laid_append, set-behind}
use Rattle.writing.proofs.Wrote.{wrote-all}
use Rattle.writing.proofs.Decimals.{decimal-one, decimal-more, tenth_long, decimal-some, decimal-two, decimal-few, decimal-many}

-- ---- copying

-- So many bytes are copied; with the others laid behind them, all are.
pub record Copied (from l₀ : List ℕ) (place : ℕ) (l : List ℕ) (i : ℕ) : Type 0 where
  pub kept : length l ≡ length l₀
  pub upto : i ≤ length from
  pub rest : laid l (place + i) (drop i from) ≡ laid l₀ place from

pub copy_none : (from l : List ℕ) (place : ℕ) → Copied from l place l 0
copy_none from l place = record { kept = refl; upto = omega arith; rest = rw (add-zero place) refl }

module _ {from l₀ : List ℕ} {place : ℕ} {l : List ℕ} {i : ℕ} (c : Copied from l₀ place l i) where
  pub copy_next : i < length from → Copied from l₀ place (set l (place + i) (get_or from i 0)) (i + 1)
  unfolding laid
  copy_next h =
      let e : i + 1 ≡ suc i = omega arith in
      let p : place + (i + 1) ≡ place + i + 1 = omega arith in
      record {
        kept = length-set l (place + i) (get_or from i 0) ∙ c.kept;
        upto = omega (arith, h);
        rest = rw (p, e) (ap (laid l (place + i)) (sym (drop-cons from i 0 h)) ∙ c.rest);
      }

  pub copy_all : length from ≤ i → place + length from ≤ length l₀ → Wrote l₀ place from 0 l (place + i)
  unfolding laid
  copy_all h k =
      wrote-all (omega (arith, h, c.upto)) k (ap (laid l (place + i)) (sym (drop_of_length-le from {i = i} h)) ∙ c.rest)

-- ---- counting digits

-- Of the digits of n all but those of m are counted, and one more.
pub record Counted (n m i : ℕ) : Type 0 where
  pub sum : i + length (decimal m) ≡ length (decimal n) + 1

pub count-one : (n : ℕ) → Counted n n 1
count-one n = record { sum = omega arith }

module _ {n m i : ℕ} (c : Counted n m i) where
  pub count_next : {t d : ℕ} → Tenths m t d → 10 ≤ m → Counted n t (i + 1)
  count_next s h = record { sum = omega (arith, c.sum, tenth_long s h) }

  pub count-all : m < 10 → i ≡ length (decimal n)
  count-all h = omega (arith, c.sum, ap length (decimal-one m h))

  pub count-few : {k : ℕ} → length (decimal n) ≤ k → 10 ≤ m → i < k
  count-few h b = omega (arith, h, c.sum, decimal-two m b)

-- ---- laying digits

-- The digits of n are laid, but for those of m, of which the last has the place i.
pub record Ended (n : ℕ) (l₀ : List ℕ) (place : ℕ) (l : List ℕ) (m i : ℕ) : Type 0 where
  pub kept : length l ≡ length l₀
  pub many : length (decimal m) ≡ i + 1
  pub rest : laid l place (decimal m) ≡ laid l₀ place (decimal n)

pub end_none : (n : ℕ) (l : List ℕ) (place : ℕ) {k : ℕ} → k ≡ length (decimal n) → Ended n l place l n (k - 1)
end_none n l place e = record { kept = refl; many = omega (arith, e, decimal-some n); rest = refl }

module _ {n : ℕ} {l₀ : List ℕ} {place : ℕ} {l : List ℕ} {m i : ℕ} (c : Ended n l₀ place l m i) where
  pub end-next : {t d : ℕ} → Tenths m t d → 0 < i → Ended n l₀ place (set l (place + i) (48 + d)) t (i - 1)
  unfolding laid
  end-next {t} {d} s h =
      let b : 10 ≤ m = decimal-many m i c.many h in
      let k : length (decimal t) ≡ i = omega (arith, c.many, tenth_long s b) in
      record {
        kept = length-set l (place + i) (48 + d) ∙ c.kept;
        many = omega (arith, k, h);
        rest =
            sym (set-behind (decimal t) l place (place + i) (48 + d) (omega (arith, k)))
            ∙ ap (λ (j : ℕ). set (laid l place (decimal t)) (place + j) (48 + d)) (sym k)
            ∙ sym (laid_append (decimal t) ((48 + d) ∷ []) l place)
            ∙ ap (laid l place) (sym (decimal-more s b))
            ∙ c.rest;
      }

  pub end-few : i ≤ 0 → m < 10
  end-few h = decimal-few m (omega (arith, c.many, h))

  pub end-all : {k : ℕ} → i ≤ 0 → k ≡ length (decimal n) → place + k ≤ length l₀ → Wrote l₀ place (decimal n) 0 (set l place (48 + m)) (place + k)
  unfolding laid
  end-all h e f =
      wrote-all (omega (arith, e)) (omega (arith, e, f)) (ap (laid l place) (sym (decimal-one m (end-few h))) ∙ c.rest)
