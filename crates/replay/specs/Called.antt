-- What a call answers, and when its outcome is the recorded one.
use Rattle.std.specs.Prelude.{ℕ, Bool, true, ◌&&◌, ◌≡◌, List, eqb, leb, length, drop}
use Rattle.reading.specs.Pick.{pick}
use Rattle.words.specs.Answered.{Answered, told, refused as told_refused, heard}
use Rattle.flattening.specs.Operations.{flatten_final, flatten_out}
use Rattle.flatten.specs.Answers.{flatten_answer}
use Rattle.session.specs.Session.{Call, Outcome, outcome}
use Rattle.reading.specs.Answer.{Said}
use Rattle.reading.specs.Answer.{accepted, refused}
use Rattle.reader.specs.declared.Answer.{Answer}
use Rattle.replies.specs.Calls.{one_call, all_call, sort_call, expr_call, bind_call, solution_call}
use Rattle.recorded.specs.declared.line.Line.{Line}
use Rattle.compared.specs.declared.Reply.{Reply}
use Rattle.recorded.specs.Spelled.{bytes_in, words_in}
use Rattle.compared.specs.Recorded.{patterns, is_recorded, is_clear}

-- The numbers of what a reader says, at the count of the reader that comes back. After a refusal nothing is reported.
abbrev pub reply_to : Said → ℕ → Reply
reply_to (accepted a b) c = record { refusal = 0; a = a; b = b; count = c }
reply_to (refused r) c = record { refusal = r; a = 0; b = 0; count = c }

-- The numbers of what flattening says: how many words it wrote. It takes no reader.
abbrev pub flat_reply : Answered ℕ → Reply
flat_reply (told n) = record { refusal = 0; a = n; b = 0; count = 0 }
flat_reply (told_refused r) = record { refusal = r; a = 0; b = 0; count = 0 }

-- The call of an operation on a text, with slices of these words: `R` read one, `A` read all, `S` sort, `E` expression, `B` bind, else solution.
unfoldable pub call_of : ℕ → List ℕ → List ℕ → List ℕ → List ℕ → Call
call_of op text tree draft out =
    pick (eqb op 82) (one_call text out)
    (pick (eqb op 65) (all_call text out)
    (pick (eqb op 83) (sort_call text tree out)
    (pick (eqb op 69) (expr_call text tree out)
    (pick (eqb op 66) (bind_call text tree out) (solution_call text tree draft out)))))

-- What holds after such a call on a reader at the count c: answer and output are its outcome, and the working slices are zero.
pub record Ran (op : ℕ) (call : Call) (c : ℕ) (answer : Answer) (tree draft out : List ℕ) : Type 0 where
  pub said : heard answer.said ≡ (outcome call c).said
  pub count : answer.reader.next ≡ (outcome call c).count
  pub output : out ≡ (outcome call c).out
  pub clear : is_clear op tree draft ≡ true

-- The outcome of a call is the recorded one.
unfoldable pub is_outcome : Line → List ℕ → Outcome → Bool
is_outcome line words o = is_recorded line words (reply_to (o.said) o.count) o.out

-- The outcome of a line's call on a text, at the count c. The slices are as long as the line says.
unfoldable pub outcome_on : Line → List ℕ → ℕ → Outcome
outcome_on line text c = outcome (call_of line.op text (patterns 0 line.tree) (patterns 0 line.draft) (patterns 0 line.out)) c

-- A line is replayed if it records at most 120,000 words, and its slices have no more.
unfoldable pub is_lent : List ℕ → Line → Bool
is_lent lines line =
    leb (length (words_in (drop line.words lines))) 120000
    && (leb line.tree 120000 && (leb line.draft 120000 && leb line.out 120000))

-- It is, and the outcome of its call on a text is the recorded one.
unfoldable pub is_same_on : List ℕ → Line → List ℕ → ℕ → Bool
is_same_on lines line text c = is_lent lines line && is_outcome line (words_in (drop line.words lines)) (outcome_on line text c)

-- The count of the reader that comes back. It is as it was where the line is not replayed.
unfoldable pub count_on : List ℕ → Line → List ℕ → ℕ → ℕ
count_on lines line text c = pick (is_lent lines line) (outcome_on line text c).count c

-- The text that a line spells.
abbrev pub text_of : List ℕ → Line → List ℕ
text_of lines line = bytes_in (drop line.input lines)

-- A line's call on a reader at the count c has the recorded outcome; its text has at most 65,536 bytes.
unfoldable pub is_same : List ℕ → Line → ℕ → Bool
is_same lines line c = leb (length (text_of lines line)) 65536 && is_same_on lines line (text_of lines line) c

unfoldable pub count_after : List ℕ → Line → ℕ → ℕ
count_after lines line c = pick (leb (length (text_of lines line)) 65536) (count_on lines line (text_of lines line) c) c

-- Flattening these words into such an output answers what is recorded.
unfoldable pub is_flattened : Line → List ℕ → List ℕ → List ℕ → Bool
is_flattened line words given out = is_recorded line words (flat_reply (flatten_answer (flatten_final given out))) (flatten_out given out)

-- So does flattening what the line spells; none of its lists has more than 8,192 words.
unfoldable pub is_flat : List ℕ → Line → Bool
is_flat lines line =
    leb (length (words_in (drop line.input lines))) 8192
    && (leb (length (words_in (drop line.words lines))) 8192
    && (leb line.out 8192
    && is_flattened line (words_in (drop line.words lines)) (words_in (drop line.input lines)) (patterns 0 line.out)))

-- A line's answer is the recorded one: `F` flattens, any other line is a call on a reader at the count where it starts.
unfoldable pub is_right : List ℕ → Line → Bool
is_right lines line = pick (eqb line.op 70) (is_flat lines line) (is_same lines line line.start)
