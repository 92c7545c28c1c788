-- What it means that an answer is the recorded one.
use Rattle.std.specs.Prelude.{ℕ, zero, suc, ◌+◌, ◌%◌, Bool, true, ◌&&◌, List, [], ◌∷◌, eqb, leb, length}
use Rattle.reading.specs.Pick.{pick}
use Rattle.reading.specs.Bytes.{same_bytes}
use Rattle.reading.specs.Answer.{zeros, over}
use Rattle.recorded.specs.declared.line.Line.{Line}
use Rattle.compared.specs.declared.Reply.{Reply}

-- The word that stands at an index of a slice before a call: a5a5 in its upper 16 bits, and the index modulo 2^16 in its lower ones.
unfoldable pub pattern : ℕ → ℕ
pattern i = 2779054080 + i % 65536

-- So many such words, from an index on.
unfoldable pub patterns : ℕ → ℕ → List ℕ
patterns i zero = []
patterns i (suc n) = pattern i ∷ patterns (suc i) n

-- What a slice holds before a call.
abbrev pub filled : List ℕ → List ℕ
filled l = patterns 0 (length l)

-- The slice is zero throughout.
unfoldable pub is_zero : List ℕ → Bool
is_zero l = same_bytes l (zeros l)

-- The output is the recorded words, laid over what stood there before the call. They fit.
unfoldable pub is_answer : List ℕ → List ℕ → Bool
is_answer words out = leb (length words) (length out) && same_bytes out (over words (filled out))

-- How many words an accepted call reports: the second number for `A`, read all, else the first.
unfoldable pub reported : Line → ℕ
reported line = pick (eqb line.op 65) line.b line.a

-- The numbers of the reply are the recorded ones.
unfoldable pub is_reply : Line → Reply → Bool
is_reply line reply =
    eqb reply.refusal line.refusal
    && (eqb reply.a line.a && (eqb reply.b line.b && eqb reply.count line.count))

-- After a refusal no words are recorded, and the output is zero. Otherwise it is the recorded words, and there are as many as are reported.
unfoldable pub is_output : Line → List ℕ → List ℕ → Bool
is_output line words out =
    pick (eqb line.refusal 0)
    (eqb (length words) (reported line) && is_answer words out)
    (eqb (length words) 0 && is_zero out)

-- The reply and the output are those of a line that records such words.
unfoldable pub is_recorded : Line → List ℕ → Reply → List ℕ → Bool
is_recorded line words reply out = is_reply line reply && is_output line words out

-- The working slices that the operation takes are zero: `R` and `A`, reading, take none, and only `L`, a solution, takes a draft.
unfoldable pub is_clear : ℕ → List ℕ → List ℕ → Bool
is_clear op tree draft = pick (eqb op 82) true (pick (eqb op 65) true (is_zero tree && pick (eqb op 76) (is_zero draft) true))
