-- Bit-vector functions by their numbers.
use Prim.Native.Nat.{ℕ, ◌≤◌, ◌<◌, ◌-◌}
use mathlib.Core.Path.{◌≡◌, refl}
use mathlib.Core.List.{List}
use Rattle.writing.specs.Wrote.{WroteBytes}
use Rattle.writing.proofs.Wrote.{either}
use Rattle.smt.specs.Vocabulary.{bit_vectors}
use Rattle.smt.specs.Writer.{spelled_at}
use Rattle.smtfunctions.specs.Functions.{function_text}
use Rattle.smtnames.specs.Written.{tells, keeps, TellsPiece}
use Rattle.std.specs.Prelude.{Ok, Err}
use Rattle.words.specs.declared.refusal.Refusal.TheVariants as refusal
use Rattle.smtfunctions.proofs.Symbols.{function-named, function-low, function-high}

module _ {l l' : List ℕ} {place : ℕ} where
  -- A number that has a name.
  pub function-told : (k : ℕ) {n p : ℕ} → n ≡ k → 9 ≤ k → k < 32 → WroteBytes l place (spelled_at bit_vectors (k - 9)) l' p → TellsPiece (function_text n) l place l' (Ok p)
  function-told k e low high w = rw (e, function-named k low high) (tells w refl)

-- A number that has none.
pub function-none : {l : List ℕ} {place : ℕ} (n : ℕ) → (9 ≤ n → n < 32 → ⊥) → TellsPiece (function_text n) l place l (Err refusal.Unwritable)
function-none n none =
    either n 9
    (λ low. rw (function-low n low) (keeps refl refl))
    λ low. either n 32 (λ high. absurd (none low high)) λ high. rw (function-high n high) (keeps refl refl)
