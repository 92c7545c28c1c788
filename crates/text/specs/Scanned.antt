-- What the loop over a text answers and leaves, as the code has it, and what the operation has done before it clears the output.
use Rattle.std.specs.Prelude.{ℕ, Bool, ◌≡◌, List, length, Result, Ok, Err}
use Rattle.reading.specs.Answer.{Ans, got, bad, over, zeros}
use Rattle.reading.specs.Tree.{trees}
use Rattle.reading.specs.Reading.{Read, reading, expressions, read_words, read_said, read_out}
use Rattle.words.specs.Refusals.{refusal_of}
use Rattle.words.specs.declared.refusal.Refusal.{Refusal}
use Rattle.words.specs.declared.report.Report.{Report}
use Rattle.words.specs.Answered.{heard}
use Rattle.text.specs.declared.scan.Found.{Found}

-- What is read in a text, whatever its bytes.
abbrev pub scan_of : Bool → List ℕ → Ans Read
scan_of all text = reading (expressions all (length text) 0 0 text)

-- How many trees and how many words there are, and the byte behind them; or the refusal.
abbrev pub as_outcome : Ans Read → Result Found Refusal
as_outcome (got r) = Ok (record { trees = trees r.read; words = length (read_words r); next = r.next })
as_outcome (bad r) = Err (refusal_of r)

-- The output afterwards: the words over it; after a refusal, anything.
abbrev pub Left : Ans Read → List ℕ → List ℕ → Type 0
Left (got r) out out' = out' ≡ over (read_words r) out
Left (bad r) out out' = Unit {0}

pub record Scanned (all : Bool) (text out out' : List ℕ) (o : Result Found Refusal) : Type 0 where
  pub answer : o ≡ as_outcome (scan_of all text)
  pub left : Left (scan_of all text) out out'

-- The output as it is, out', and as it is to be, end: the same, or after a refusal zeros.
abbrev pub Uncleared : Result Report Refusal → List ℕ → List ℕ → List ℕ → Type 0
Uncleared (Ok r) out out' end = out' ≡ end
Uncleared (Err e) out out' end = end ≡ zeros out

-- The answer is given, and the output not yet cleared.
pub record Attempted (all : Bool) (text out out' : List ℕ) (r : Result Report Refusal) : Type 0 where
  pub answer : heard r ≡ read_said all text out
  pub left : Uncleared r out out' (read_out all text out)
