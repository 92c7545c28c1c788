-- What is said, and the count afterwards, by what the operation answered.
use Rattle.std.specs.Prelude.{ℕ, Result, Ok, Err}
use Rattle.reading.specs.Answer.{Said}
use Rattle.words.specs.declared.refusal.Refusal.{Refusal}
use Rattle.words.specs.declared.report.Report.{Report}
use Rattle.words.specs.Answered.{heard}
use Rattle.parse.specs.declared.Counted.{Counted}

-- What is counted, the words of a sort or the bytes of SMT-LIB, reports how many there are. An error is passed on, whatever it is.
abbrev pub size_report : {E : Type 0} → Result ℕ E → Result Report E
size_report (Ok n) = Ok (record { first = n; second = 0 })
size_report (Err e) = Err e

-- What takes fresh numbers reports how many words it has.
abbrev pub counted_report : {E : Type 0} → Result Counted E → Result Report E
counted_report (Ok made) = Ok (record { first = made.words; second = 0 })
counted_report (Err e) = Err e

-- What is said of them.
abbrev pub size_said : Result ℕ Refusal → Said
size_said d = heard (size_report d)

abbrev pub counted_said : Result Counted Refusal → Said
counted_said d = heard (counted_report d)

-- The count afterwards.
abbrev pub count_after : {E : Type 0} → Result Counted E → ℕ → ℕ
count_after (Ok made) c = made.count
count_after (Err e) c = c
