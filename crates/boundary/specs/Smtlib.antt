-- What a C caller sees of a solution that is written as SMT-LIB, and what is promised of it.
use Rattle.std.specs.Prelude.{ℕ, ◌≡◌, List}
use Rattle.smt.specs.Operation.{smtlib_said, smtlib_out}
use Rattle.boundary.specs.Reply.{refusal_of, first_of}

-- The number returned, how many bytes there are, and the output.
pub record Bytes : Type 0 where
  pub refusal : ℕ
  pub bytes : ℕ
  pub out : List ℕ

abbrev pub spoken : ℕ → ℕ → List ℕ → Bytes
spoken refusal bytes out = record { refusal = refusal; bytes = bytes; out = out }

-- The contract of the C function, which takes no reader.
pub record Spoken (words text out : List ℕ) (r : Bytes) : Type 0 where
  pub refusal : r.refusal ≡ refusal_of (smtlib_said words text out)
  pub count : r.bytes ≡ first_of (smtlib_said words text out)
  pub output : r.out ≡ smtlib_out words text out
