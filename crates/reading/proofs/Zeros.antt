-- A slice that is cleared from its start.
use Prim.Native.Nat.{ℕ, ◌+◌, ◌≤◌, ◌<◌}
use mathlib.Core.Path.{◌≡◌, ap, ◌∙◌}
use mathlib.Core.List.{List, [], ◌++◌, append-nil}
use native.Mathlib.Omega.{arith}
use lib.ListN.{length, set, drop, replicate, length-set, drop_of_length-le}
use borrow.Author.Fill.{fill_more}
use Rattle.reading.specs.Answer.{zeros}

-- So many words are zero, and the others as they were.
pub record Cleared (out₀ out : List ℕ) (i : ℕ) : Type 0 where
  pub inside : i ≤ length out₀
  pub lies : out ≡ replicate i 0 ++ drop i out₀
  pub kept : length out ≡ length out₀

module _ {out₀ out : List ℕ} {i : ℕ} (v : Cleared out₀ out i) where
  -- One more word.
  pub clear-more : i < length out → Cleared out₀ (set out i 0) (i + 1)
  clear-more h =
      record {
        inside = omega arith;
        lies = ap (λ (l : List ℕ). set l i 0) v.lies ∙ fill_more i 0 out₀ (omega arith);
        kept = length-set out i 0 ∙ v.kept;
      }

  -- All words.
  pub clear-all : length out ≤ i → out ≡ zeros out₀
  clear-all h =
      let n : i ≡ length out₀ = omega arith in
      let e : drop i out₀ ≡ [] = drop_of_length-le out₀ {i = i} (omega arith) in
      v.lies ∙ ap (λ (l : List ℕ). replicate i 0 ++ l) e ∙ append-nil (replicate i 0) ∙ ap (λ (m : ℕ). replicate m 0) n
