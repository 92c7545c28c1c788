-- What the operation decides, as the code answers it.
use Rattle.std.specs.Prelude.{ℕ, ◌≡◌, List, length, Result}
use Rattle.reading.specs.Answer.{Final, accepts, refuses, over}
use Rattle.words.specs.declared.refusal.Refusal.{Refusal}
use Rattle.words.specs.Answered.{Answered, answered, sized_by}
use Rattle.smt.specs.Operation.{smtlib_final}

-- How many bytes there are, or the refusal's number.
abbrev pub answer_of : Final (List ℕ) → Answered ℕ
answer_of f = sized_by (λ bytes. bytes) f

-- The output before it is cleared after a refusal.
pub data Outcome : Final (List ℕ) → List ℕ → List ℕ → Type 0 where
  wrote : {bytes l l' : List ℕ} {n : ℕ} → l' ≡ over bytes l → Outcome (accepts bytes n) l l'
  left : {r : ℕ} {l l' : List ℕ} → length l' ≡ length l → Outcome (refuses r) l l'

-- What is answered, with the output not cleared yet.
pub record Attempted (words text l l' : List ℕ) (r : Result ℕ Refusal) : Type 0 where
  pub answer : answered r ≡ answer_of (smtlib_final words text l)
  pub output : Outcome (smtlib_final words text l) l l'
