-- What calls show, for tables of cases.
use Rattle.std.specs.Prelude.{ℕ, List, [], ◌∷◌, map, replicate}
use Prim.Native.String.{String}
use Rattle.reading.specs.Bytes.{ascii}
use Rattle.reading.specs.Answer.{Final, accepts, refuses, Said}
use Rattle.flattening.specs.Operations.{expr_words, flatten_final}
use Rattle.session.specs.Session.{Op, Call, term_words, final, outcome}
use Rattle.session.specs.Compute.{reader_computes}

-- A refusal's number, or the words written.
pub data Shown : Type 0 where
  refusal : ℕ → Shown
  words : List ℕ → Shown

abbrev pub shown : {A : Type 0} → (A → List ℕ) → Final A → Shown
shown words_of (accepts a n) = words (words_of a)
shown words_of (refuses r) = refusal r

-- A call with slices of 64 words.
abbrev pub call_on : Op → List ℕ → Call
call_on op text = record { op = op; text = text; tree = replicate 64 0; draft = replicate 64 0; out = replicate 64 0 }

-- A row: the operation, the text, and what a new reader answers.
pub record Row : Type 0 where
  pub op : Op
  pub text : String
  pub answer : Shown

abbrev pub row : Op → String → Shown → Row
row op text answer = record { op = op; text = text; answer = answer }

-- What the definitions answer to the rows of a table.
unfoldable pub answers : List Row → List Shown
unfolding reader_computes
answers rows = map (λ r. shown (term_words 0) (final (call_on r.op (ascii r.text)) 0)) rows

abbrev pub expected : List Row → List Shown
expected rows = map (λ r. r.answer) rows

-- A call on a reader at a count, and what it answers.
pub record Asked : Type 0 where
  pub call : Call
  pub count : ℕ
  pub answer : Shown

abbrev pub asks : ℕ → Call → Shown → Asked
asks c call answer = record { call = call; count = c; answer = answer }

-- A text of ASCII characters, or bytes, for a new reader, with slices of 64 words.
abbrev pub asked : Op → String → Shown → Asked
asked op text answer = asks 0 (call_on op (ascii text)) answer

abbrev pub asked_bytes : Op → List ℕ → Shown → Asked
asked_bytes op text answer = asks 0 (call_on op text) answer

-- A call with slices of so many words: tree, draft, output.
abbrev pub lending : ℕ → ℕ → ℕ → Op → List ℕ → Call
lending tree draft out op text = record { op = op; text = text; tree = replicate tree 0; draft = replicate draft 0; out = replicate out 0 }

unfoldable pub tells : List Asked → List Shown
unfolding reader_computes
tells rows = map (λ r. shown (term_words r.count) (final r.call r.count)) rows

abbrev pub told : List Asked → List Shown
told rows = map (λ r. r.answer) rows

-- A call on a new reader, and the numbers that it reports.
pub record Reported : Type 0 where
  pub call : Call
  pub said : Said

abbrev pub reported : Op → String → Said → Reported
reported op text said = record { call = call_on op (ascii text); said = said }

unfoldable pub reports : List Reported → List Said
unfolding reader_computes
reports rows = map (λ r. (outcome r.call 0).said) rows

abbrev pub said_in : List Reported → List Said
said_in rows = map (λ r. r.said) rows

-- What the rows of a table are answered, one after the other on a reader that is opened at a count.
unfoldable pub in_turn : List Row → ℕ → List Shown
unfolding reader_computes
in_turn [] c = []
in_turn (r ∷ rs) c =
    shown (term_words c) (final (call_on r.op (ascii r.text)) c) ∷ in_turn rs (outcome (call_on r.op (ascii r.text)) c).count

-- Words to flatten, the length of the output, and what flattening answers.
pub record Flat : Type 0 where
  pub input : List ℕ
  pub out : ℕ
  pub answer : Shown

abbrev pub flat : List ℕ → Shown → Flat
flat input answer = record { input = input; out = 64; answer = answer }

abbrev pub flat_into : ℕ → List ℕ → Shown → Flat
flat_into out input answer = record { input = input; out = out; answer = answer }

unfoldable pub flattens_to : List Flat → List Shown
unfolding reader_computes
flattens_to rows = map (λ r. shown expr_words (flatten_final r.input (replicate r.out 0))) rows

abbrev pub flat_answers : List Flat → List Shown
flat_answers rows = map (λ r. r.answer) rows
