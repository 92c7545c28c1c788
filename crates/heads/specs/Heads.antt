-- The kind and the fields of an expression, as the code answers them.
use Rattle.std.specs.Prelude.{ℕ}
use Rattle.words.specs.Answered.{Answered, told, refused}
use Rattle.judging.specs.Judge.{Judged, reads, fails, Plan, operands_of, arguments_of}
use Rattle.heads.specs.declared.Header.{Header}
use Rattle.heads.specs.declared.Header.TheVariants as head

-- What a header says, and the place behind it.
abbrev pub head_of : Judged Plan → Answered Header
head_of (reads (operands_of k n) at) = told (head.Operands at n)
head_of (reads (arguments_of f n) at) = told (head.Arguments at f n)
head_of (fails r) = refused r

-- So many operands behind fields that end at a place, or the refusal of the fields.
abbrev pub operands_at : Answered ℕ → ℕ → Answered Header
operands_at (told at) n = told (head.Operands at n)
operands_at (refused r) n = refused r
