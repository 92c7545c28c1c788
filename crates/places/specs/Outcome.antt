-- What a function says that lays words from a place on.
use Rattle.std.specs.Prelude.{ℕ, ◌+◌, ◌^◌, ◌≡◌, List, length, Result, Ok, Err}
use Rattle.reading.specs.Answer.{Refusal as Met, Ans, got, bad}
use Rattle.writing.specs.Laid.{laid}
use Rattle.words.specs.declared.refusal.Refusal.{Refusal}
use Rattle.words.specs.Refusals.{refusal_of}

-- A bound of places and numbers, far below the largest that a word of the machine holds.
abbrev pub bound : ℕ
bound = 2 ^ 62

-- The words are laid from w on, and the answer is the place behind them.
pub record Put (o : List ℕ) (w : ℕ) (ws : List ℕ) (o' : List ℕ) (r : ℕ) : Type 0 where
  pub is : r ≡ w + length ws
  pub words : o' ≡ laid o w ws

-- A value: its words are laid from w on, and the answer is the place behind them. A refusal: of the output nothing is said.
pub data OutcomeAt {A : Type 0} (words : A → List ℕ) : Ans A → ℕ → List ℕ → List ℕ → Result ℕ Refusal → Type 0 where
  wrote_at : {a : A} {w : ℕ} {o o' : List ℕ} {r : Result ℕ Refusal} → r ≡ Ok (w + length (words a)) → o' ≡ laid o w (words a) → OutcomeAt words (got a) w o o' r
  refused_at : {e : Met} {w : ℕ} {o o' : List ℕ} {r : Result ℕ Refusal} → r ≡ Err (refusal_of e) → OutcomeAt words (bad e) w o o' r
