-- What a function answers that may refuse, as definitions have it.
use Rattle.std.specs.Prelude.{ℕ, List, length, Result, Ok, Err}
use Rattle.reading.specs.Answer.{Final, accepts, refuses}
use Rattle.reading.specs.Answer as said
use Rattle.words.specs.declared.refusal.Refusal.{Refusal}
use Rattle.words.specs.declared.report.Report.{Report}
use Rattle.words.specs.Refusals.{number_of}

-- A value, or the number of a refusal.
pub data Answered (A : Type 0) : Type 0 where
  told : A → Answered A
  refused : ℕ → Answered A

-- What a result of the code says.
abbrev pub answered : {A : Type 0} → Result A Refusal → Answered A
answered (Ok a) = told a
answered (Err r) = refused (number_of r)

-- What is decided in the end: how many words a value has, or the number of the refusal.
abbrev pub sized_by : {A : Type 0} → (A → List ℕ) → Final A → Answered ℕ
sized_by words (accepts a n) = told (length (words a))
sized_by words (refuses r) = refused r

-- What a call says that reports two numbers, or refuses.
abbrev pub heard : Result Report Refusal → said.Said
heard (Ok r) = said.accepted r.first r.second
heard (Err r) = said.refused (number_of r)
