-- What is said, as the numbers that a C function returns and reports.
use Rattle.std.specs.Prelude.{ℕ, ◌≡◌, Result, Ok, Err}
use Rattle.reading.specs.Answer.{Said, accepted, refused}
use Rattle.words.specs.declared.refusal.Refusal.{Refusal}
use Rattle.words.specs.declared.report.Report.{Report}
use Rattle.words.specs.Answered.{heard}
use Rattle.boundary.specs.declared.Reported.{Reported}

abbrev pub numbers_of : Said → Reported
numbers_of (accepted a b) = record { refusal = 0; first = a; second = b }
numbers_of (refused r) = record { refusal = r; first = 0; second = 0 }

-- What is said by a result whose refusal is a number.
abbrev pub said_of : Result Report ℕ → Said
said_of (Ok r) = accepted r.first r.second
said_of (Err n) = refused n

-- The numbers of what is said.
abbrev pub Tells : Result Report Refusal → Reported → Type 0
Tells said r = r ≡ numbers_of (heard said)
