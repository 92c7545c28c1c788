-- What the operation smtlib shows, for tables of cases.
use Rattle.std.specs.Prelude.{ℕ, List, map, replicate}
use Prim.Native.String.{String}
use Rattle.reading.specs.Bytes.{ascii}
use Rattle.reading.specs.Answer.{Final, accepts, refuses}
use Rattle.smt.specs.Operation.{smtlib_final}
use Rattle.smt.specs.Compute.{smt_computes}

-- A refusal's number, or the bytes written.
pub data Shown : Type 0 where
  refusal : ℕ → Shown
  wrote : List ℕ → Shown

abbrev pub bytes : String → Shown
bytes s = wrote (ascii s)

abbrev pub shown : Final (List ℕ) → Shown
shown (accepts bs n) = wrote bs
shown (refuses r) = refusal r

-- A row: words, the text lent with them, the length of the output, and what is answered.
pub record Row : Type 0 where
  pub words : List ℕ
  pub text : String
  pub room : ℕ
  pub answer : Shown

abbrev pub onto : ℕ → List ℕ → String → Shown → Row
onto room words text answer = record { words = words; text = text; room = room; answer = answer }

-- With room for 80 bytes.
abbrev pub on : List ℕ → String → Shown → Row
on words text answer = onto 80 words text answer

-- What the definitions answer to the rows of a table.
unfoldable pub answers : List Row → List Shown
unfolding smt_computes
answers rows = map (λ r. shown (smtlib_final r.words (ascii r.text) (replicate r.room 0))) rows

abbrev pub expected : List Row → List Shown
expected rows = map (λ r. r.answer) rows
