-- The place behind what was read, as the code takes it from an answer, or a place of its own in its stead.
use Prim.Native.Nat.{ℕ}
use mathlib.Core.Path.{◌≡◌, ◌∙◌}
use Rattle.std.specs.Prelude.{Result, Ok, Err}
use Rattle.std.specs.Result.{result_unwrap_or}
use Rattle.words.specs.declared.refusal.Refusal.{Refusal}
use Rattle.words.specs.Answered.{answered, told, refused}
use Rattle.judging.specs.Judge.{Judged, reads}
use Rattle.judging.specs.Ends.{end_of}

pub behind-read : {A : Type 0} (x : Judged A) (e : Result ℕ Refusal) (at : ℕ) {a : A} {n r : ℕ} → answered e ≡ end_of x → r ≡ result_unwrap_or e at → x ≡ reads a n → r ≡ n
behind-read x e at {a} {n} {r} q p s = p ∙ go e (q ∙ rw s)
  where
    go : (e : Result ℕ Refusal) → answered e ≡ told n → result_unwrap_or e at ≡ n
    go (Ok m) z = cc
    go (Err k) z = cc
