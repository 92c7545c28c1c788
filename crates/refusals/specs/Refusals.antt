-- Which refusals each operation has, and how long slices are that never meet 7.
use Rattle.std.specs.Prelude.{ℕ, ◌*◌, ◌^◌, ◌≤◌, ◌<◌, Bool, true, false, ◌≡◌, List, [], ◌∷◌, ◌++◌, eqb, length, get_or, replicate}
use Rattle.reading.specs.Pick.{pick}
use Rattle.reading.specs.Answer.{number, no_room, refused}
use Rattle.flattening.specs.Operations.{flatten_said}
use Rattle.smt.specs.Operation.{smtlib_said}
use Rattle.session.specs.Session.{Op, read_one, read_all, sort, expression, bind, solution, Call, outcome}

-- A number stands in a list.
unfoldable pub is_among : ℕ → List ℕ → Bool
is_among r [] = false
is_among r (x ∷ xs) = pick (eqb r x) true (is_among r xs)

-- "Refusals by operation" of document 01, and 17 by request C-13: those of reading, and what a sort and an expression add.
abbrev pub of_reading : List ℕ
of_reading = 1 ∷ 2 ∷ 3 ∷ 4 ∷ 5 ∷ 6 ∷ 7 ∷ []

abbrev pub of_sort : List ℕ
of_sort = 8 ∷ 12 ∷ []

abbrev pub of_expr : List ℕ
of_expr = 8 ∷ 9 ∷ 10 ∷ 11 ∷ 12 ∷ 13 ∷ 17 ∷ []

-- The refusals of an operation.
abbrev pub refusals_of : Op → List ℕ
refusals_of read_one = of_reading
refusals_of read_all = of_reading
refusals_of sort = of_reading ++ of_sort
refusals_of expression = of_reading ++ of_expr
refusals_of bind = of_reading ++ of_expr
refusals_of solution = of_reading ++ of_expr

-- Those of flattening, which takes words.
abbrev pub of_flatten : List ℕ
of_flatten = 6 ∷ 7 ∷ 14 ∷ []

-- Those of the operation smtlib, which takes words and their text, by request C-11.
abbrev pub of_smtlib : List ℕ
of_smtlib = 6 ∷ 7 ∷ 14 ∷ 15 ∷ 16 ∷ []

-- Words of the slices for each byte of the text.
pub record PerByte : Type 0 where
  pub tree : ℕ
  pub draft : ℕ
  pub out : ℕ

-- So many are enough for an operation.
abbrev pub per_byte : Op → PerByte
per_byte read_one = record { tree = 0; draft = 0; out = 5 }
per_byte read_all = record { tree = 0; draft = 0; out = 5 }
per_byte sort = record { tree = 5; draft = 0; out = 15 }
per_byte expression = record { tree = 5; draft = 0; out = 15 }
per_byte bind = record { tree = 5; draft = 0; out = 15 }
per_byte solution = record { tree = 5; draft = 15; out = 15 }

-- The slices of a call have so many words.
pub record Roomy (call : Call) : Type 0 where
  -- Nothing is asked of the words themselves.
  pub tree : (per_byte call.op).tree * length call.text ≤ length call.tree
  pub draft : (per_byte call.op).draft * length call.text ≤ length call.draft
  pub out : (per_byte call.op).out * length call.text ≤ length call.out

-- A call with slices of just so many words.
abbrev pub roomy_call : Op → List ℕ → Call
roomy_call op text =
    record {
      op = op;
      text = text;
      tree = replicate ((per_byte op).tree * length text) 0;
      draft = replicate ((per_byte op).draft * length text) 0;
      out = replicate ((per_byte op).out * length text) 0;
    }

-- What holds of the refusals of a call on a reader at a count that it can have: the operation has them, and 7 is none of them where the
-- slices are roomy.
pub record RefusalsOf (call : Call) (c : ℕ) : Type 0 where
  pub among : (r : ℕ) → (outcome call c).said ≡ refused r → is_among r (refusals_of call.op) ≡ true
  pub no_seven : Roomy call → (outcome call c).said ≡ refused (number no_room) → ⊥

-- The same of flattening, where an output as long as the words is long enough for words of 32 bits, if they are fewer than 2^32.
pub record FlattenRefusals (words out : List ℕ) : Type 0 where
  pub among : (r : ℕ) → flatten_said words out ≡ refused r → is_among r of_flatten ≡ true
  pub no_seven : ((i : ℕ) → i < length words → get_or words i 0 < 2 ^ 32) → length words < 2 ^ 32 → length words ≤ length out → flatten_said words out ≡ refused (number no_room) → ⊥

-- The operation smtlib has no others, whatever the words, the text and the output.
pub record SmtlibRefusals (words text out : List ℕ) : Type 0 where
  pub among : (r : ℕ) → smtlib_said words text out ≡ refused r → is_among r of_smtlib ≡ true
