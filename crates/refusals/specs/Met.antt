-- For each refusal of each operation a call that meets it, with the shortest text that was found.
use Rattle.std.specs.Prelude.{ℕ, suc, false, ◌≡◌, refl, List, [], ◌∷◌, ◌++◌, map, replicate}
use Prim.Native.String.{String}
use Rattle.reading.specs.Limits.{max_bytes, max_lists, max_nodes, max_number}
use Rattle.reading.specs.Pick.{pick}
use Rattle.reading.specs.Bytes.{ascii}
use Rattle.reading.specs.Answer.{Said, accepted, refused}
use Rattle.flattening.specs.Operations.{flatten_said}
use Rattle.smt.specs.Operation.{smtlib_said}
use Rattle.smt.specs.Compute.{smt_computes}
use Rattle.session.specs.Session.{Op, read_one, read_all, sort, expression, bind, solution, Call, outcome}
use Rattle.session.specs.Compute.{reader_computes}
use Rattle.refusals.specs.Refusals.{is_among, refusals_of, of_flatten, of_smtlib, roomy_call}

-- A call on a reader at a count.
pub record Asked : Type 0 where
  pub call : Call
  pub count : ℕ

-- With slices that are long enough: bytes and a text for a new reader, and a text for one that has no number left.
abbrev pub bytes : Op → List ℕ → Asked
bytes op text = record { call = roomy_call op text; count = 0 }

abbrev pub text : Op → String → Asked
text op t = bytes op (ascii t)

abbrev pub at_last : Op → String → Asked
at_last op t = record { call = roomy_call op (ascii t); count = max_number }

-- A text for a new reader, with slices of no words.
abbrev pub no_words : Op → String → Asked
no_words op t = record { call = record { op = op; text = ascii t; tree = []; draft = []; out = [] }; count = 0 }

-- 1 to 7, where a text is given that ends early. 1 is met by one byte more than a text may have, 6 by `(` once more than lists may nest.
abbrev pub in_reading : Op → String → List Asked
in_reading op early =
    bytes op (replicate (suc max_bytes) 32) ∷ bytes op (255 ∷ []) ∷ text op early ∷ text op ")" ∷ text op "\"" ∷ bytes op (replicate (suc max_lists) 40) ∷ no_words op "1" ∷ []

-- The calls of an operation. The first item of a solution and of `apply`'s list can be anything.
abbrev pub calls : Op → List Asked
calls read_one = in_reading read_one ""
calls read_all = in_reading read_all "("
calls sort = in_reading sort "" ++ (text sort "1" ∷ text sort "(func 65()a)" ∷ [])
calls expression =
    in_reading expression ""
    ++ (text expression "()"
    ∷ text expression "1."
    ∷ text expression "(exists((a a)(a a))1)"
    ∷ text expression "(lit\"#b\")"
    ∷ text expression "((1 apply(func 65()a)))"
    ∷ at_last expression "(exists((a a))1)"
    ∷ text expression "(lit\"#b0\"(1 Size2))"
    ∷ [])
calls bind =
    in_reading bind ""
    ++ (text bind "1"
    ∷ text bind "((a a)(1.))"
    ∷ text bind "((a a)(exists((a a)(a a))1))"
    ∷ text bind "((a a)(lit\"#b\"))"
    ∷ text bind "((a(func 65()a)))"
    ∷ at_last bind "((a a)(exists((a a))1))"
    ∷ text bind "((a a)(lit\"#b0\"(1 Size2)))"
    ∷ [])
calls solution =
    in_reading solution ""
    ++ (text solution "1"
    ∷ text solution "(1()1.)"
    ∷ text solution "(1((a a)(a a))1)"
    ∷ text solution "(1()(lit\"#b\"))"
    ∷ text solution "(1((a(func 65()a)))1)"
    ∷ at_last solution "(1((a a))1)"
    ∷ text solution "(1()(lit\"#b0\"(1 Size2)))"
    ∷ [])

-- The number of a refusal; none is 0.
unfoldable pub refusal_in : Said → ℕ
refusal_in (accepted a b) = 0
refusal_in (refused r) = r

-- The refusals that the calls of an operation meet.
unfoldable pub met : Op → List ℕ
unfolding reader_computes refusal_in
met op = map (λ a. refusal_in (outcome a.call a.count).said) (calls op)

-- They are all that it has.
pub met_all : (op : Op) → met op ≡ refusals_of op
unfolding met
met_all read_one = refl
met_all read_all = refl
met_all sort = refl
met_all expression = refl
met_all bind = refl
met_all solution = refl

-- 15 for a literal is met by stored words, as those of the literal 2 of one digit; one that is read is written.
pub stored_literal : smtlib_said (0 ∷ 35 ∷ 2 ∷ 0 ∷ 0 ∷ 0 ∷ 1 ∷ []) [] [] ≡ refused 15
unfolding smt_computes
stored_literal = refl

pub read_literal : (outcome (roomy_call solution (ascii "(1()(lit\"#b1\"(1 Size1)))")) 0).said ≡ accepted 7 0
unfolding reader_computes
read_literal = refl

pub literal_written : smtlib_said (0 ∷ 35 ∷ 1 ∷ 0 ∷ 0 ∷ 0 ∷ 1 ∷ []) [] (replicate 12 0) ≡ accepted 12 0
unfolding smt_computes
literal_written = refl

-- Numbers that stand in no list of theirs.
pub not-among : (op : Op) → is_among 14 (refusals_of op) ≡ false
unfolding is_among pick
not-among read_one = refl
not-among read_all = refl
not-among sort = refl
not-among expression = refl
not-among bind = refl
not-among solution = refl

pub not_among_flatten : is_among 1 of_flatten ≡ false
unfolding is_among pick
not_among_flatten = refl

pub not_among_smtlib : is_among 1 of_smtlib ≡ false
unfolding is_among pick
not_among_smtlib = refl

-- Words to flatten, and the length of the output.
pub record Flat : Type 0 where
  pub input : List ℕ
  pub out : ℕ

-- `not` once more than expressions may nest; `true` with one word of output; no words.
abbrev pub flats : List Flat
flats =
    record { input = replicate (suc max_nodes) 44; out = suc max_nodes }
    ∷ record { input = 33 ∷ 1 ∷ []; out = 1 }
    ∷ record { input = []; out = 0 }
    ∷ []

-- The refusals that they meet are all that flattening has.
unfoldable pub met_by_flatten : List ℕ
unfolding reader_computes refusal_in
met_by_flatten = map (λ f. refusal_in (flatten_said f.input (replicate f.out 0))) flats

pub met_flatten : met_by_flatten ≡ of_flatten
unfolding met_by_flatten
met_flatten = refl

-- Words of a solution, their text, and the length of the output in bytes.
pub record Smt : Type 0 where
  pub input : List ℕ
  pub text : String
  pub out : ℕ

-- `not` once more than expressions may nest; `true`, which is written as the seven bytes `() true`, with six of output; no words; the theory function 0; a string of one bar.
abbrev pub smts : List Smt
smts =
    record { input = 0 ∷ replicate (suc max_nodes) 44; text = ""; out = 0 }
    ∷ record { input = 0 ∷ 33 ∷ 1 ∷ []; text = ""; out = 6 }
    ∷ record { input = []; text = ""; out = 0 }
    ∷ record { input = 0 ∷ 49 ∷ 0 ∷ []; text = ""; out = 0 }
    ∷ record { input = 0 ∷ 34 ∷ 0 ∷ 1 ∷ []; text = "|"; out = 0 }
    ∷ []

-- The refusals that they meet are all that the operation has.
unfoldable pub met_by_smtlib : List ℕ
unfolding smt_computes refusal_in
met_by_smtlib = map (λ s. refusal_in (smtlib_said s.input (ascii s.text) (replicate s.out 0))) smts

pub met_smtlib : met_by_smtlib ≡ of_smtlib
unfolding met_by_smtlib
met_smtlib = refl
