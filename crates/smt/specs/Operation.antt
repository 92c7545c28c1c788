-- The operation smtlib.
use Rattle.std.specs.Prelude.{ℕ, List, length}
use Rattle.reading.specs.Pick.{pick}
use Rattle.reading.specs.Answer.{number, no_room, Ans, got, bad, Final, accepts, refuses, fits_in, Said, accepted, said_of, output_of}
use Rattle.grammar.specs.Expr.{Solution}
use Rattle.judging.specs.Judge.{Judged, reads, fails, judge_solution}
use Rattle.smt.specs.Writer.{written}

-- Bytes that are written, or 15 or 16; then 7.
unfoldable pub bytes_final : List ℕ → Ans (List ℕ) → Final (List ℕ)
bytes_final out (bad r) = refuses (number r)
bytes_final out (got bytes) = pick (fits_in out bytes) (accepts bytes 0) (refuses (number no_room))

-- Words that are judged: 14 and 6 as met, 14 for words left over, then what is written.
unfoldable pub smtlib_by : List ℕ → List ℕ → Judged Solution → Final (List ℕ)
smtlib_by text out (fails r) = refuses r
smtlib_by text out (reads s at) = bytes_final out (written text s)

-- The operation on words, the text that is lent with them, and an output of these bytes. A span that ends behind the text is 14.
unfoldable pub smtlib_final : List ℕ → List ℕ → List ℕ → Final (List ℕ)
smtlib_final words text out = smtlib_by text out (judge_solution (length text) words)

-- What it answers, and the output afterwards; the words and the text are not changed.
unfoldable pub smtlib_said : List ℕ → List ℕ → List ℕ → Said
smtlib_said words text out = said_of (λ bytes. accepted (length bytes) 0) (smtlib_final words text out)

unfoldable pub smtlib_out : List ℕ → List ℕ → List ℕ → List ℕ
smtlib_out words text out = output_of (λ bytes. bytes) (smtlib_final words text out) out
