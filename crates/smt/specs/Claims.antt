-- What is claimed of the writer.
use Rattle.std.specs.Prelude.{ℕ, ◌≡◌, List, length}
use Rattle.reading.specs.Bytes.{just}
use Rattle.reading.specs.Answer.{Ans, got, bad, unwritable, unprintable}
use Rattle.grammar.specs.Expr.{Solution}
use Rattle.judging.specs.Judge.{reads, judge_solution}
use Rattle.smt.specs.Writer.{written}
use Rattle.smt.specs.Meaning.{read_solution}
use Rattle.smt.specs.Shape.{shape}
use Rattle.smt.specs.Unwritable.{SolutionPart}
use Rattle.smt.specs.Unprintable.{SolutionByte}

-- A reader of SMT-LIB, which knows nothing of the writer, finds in the bytes of a solution that solution's shape.
abbrev pub ReadsBack : Type 0
ReadsBack = (text : List ℕ) (s : Solution) (bytes : List ℕ) → written text s ≡ got bytes → read_solution bytes ≡ just (shape text s)

-- What a solution is answered: it is written; or it holds a part that request C-11 lists, and is 15; or it holds a byte that the request lists, and
-- is 16.
pub data Answered (text : List ℕ) (s : Solution) : Ans (List ℕ) → Type 0 where
  is_written : {bytes : List ℕ} → Answered text s (got bytes)
  is_unwritable : SolutionPart s → Answered text s (bad unwritable)
  is_unprintable : SolutionByte text s → Answered text s (bad unprintable)

-- Every solution that passes judging is answered so.
abbrev pub WrittenOrWhy : Type 0
WrittenOrWhy = (text words : List ℕ) (s : Solution) (n : ℕ) → judge_solution (length text) words ≡ reads s n → Answered text s (written text s)

-- What is written holds no such part and no such byte.
abbrev pub HoldsNone : Type 0
HoldsNone = (text : List ℕ) (s : Solution) (bytes : List ℕ) → written text s ≡ got bytes → (SolutionPart s → ⊥) × (SolutionByte text s → ⊥)
