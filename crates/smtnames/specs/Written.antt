-- What a function says that writes a part of a solution.
use Rattle.std.specs.Prelude.{ℕ, ◌≡◌, List, length, Result, Ok, Err}
use Rattle.reading.specs.Answer.{Refusal as Met, Ans, got, bad}
use Rattle.words.specs.declared.refusal.Refusal.{Refusal}
use Rattle.words.specs.Refusals.{refusal_of}
use Rattle.words.specs.declared.walked.Walked.{Walked}
use Rattle.writing.specs.Wrote.{WroteBytes}

-- Bytes are laid into l from a place on, and the answer tells the place behind them; or a refusal is told, and of l only its length is kept.
pub data Tells {R : Type 0} (to : ℕ → R) : Ans (List ℕ) → List ℕ → ℕ → List ℕ → Result R Refusal → Type 0 where
  tells : {xs l l' : List ℕ} {place p : ℕ} {r : Result R Refusal} → WroteBytes l place xs l' p → r ≡ Ok (to p) → Tells to (got xs) l place l' r
  keeps : {e : Met} {l l' : List ℕ} {place : ℕ} {r : Result R Refusal} → length l' ≡ length l → r ≡ Err (refusal_of e) → Tells to (bad e) l place l' r

-- A piece.
abbrev pub TellsPiece : Ans (List ℕ) → List ℕ → ℕ → List ℕ → Result ℕ Refusal → Type 0
TellsPiece x l place l' r = Tells (λ p. p) x l place l' r

-- A part of the words that ends at n.
abbrev pub TellsPart : ℕ → Ans (List ℕ) → List ℕ → ℕ → List ℕ → Result Walked Refusal → Type 0
TellsPart n x l place l' r = Tells (λ p. record { next = n; place = p }) x l place l' r
