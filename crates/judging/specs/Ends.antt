-- Where what is judged ends, as the code answers it.
use Rattle.std.specs.Prelude.{ℕ}
use Rattle.words.specs.Answered.{Answered, told, refused}
use Rattle.judging.specs.Judge.{Judged, reads, fails}

-- The place behind what was read, or the refusal.
abbrev pub end_of : {A : Type 0} → Judged A → Answered ℕ
end_of (reads a at) = told at
end_of (fails r) = refused r
