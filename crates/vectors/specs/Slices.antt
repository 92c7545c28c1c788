-- What calls leave in the slices that are lent to them. Each slice holds sevens before the call: an accepted call writes its words from the
-- start of the output and keeps the sevens behind them, and tree and draft are zero; after a refusal all is zero.
use Rattle.std.specs.Prelude.{ℕ, ◌≡◌, refl, List, [], ◌∷◌, map, replicate}
use Prim.Native.String.{String}
use Rattle.reading.specs.Bytes.{ascii}
use Rattle.reading.specs.Answer.{Said, accepted, refused}
use Rattle.flattening.specs.Operations.{flatten_said, flatten_out}
use Rattle.session.specs.Session.{Op, read_one, read_all, sort, expression, bind, solution, Call, Outcome, outcome}
use Rattle.session.specs.Compute.{reader_computes}

-- So many sevens, and so many zeros.
abbrev pub sevens : ℕ → List ℕ
sevens n = replicate n 7

abbrev pub blank : ℕ → List ℕ
blank n = replicate n 0

-- A call with slices of so many words: tree, draft, output.
abbrev pub lends : ℕ → ℕ → ℕ → Op → String → Call
lends tree draft out op text = record { op = op; text = ascii text; tree = sevens tree; draft = sevens draft; out = sevens out }

-- What is said, the count afterwards, and the words of tree, draft and output.
abbrev pub leaves : Said → ℕ → List ℕ → List ℕ → List ℕ → Outcome
leaves said count tree draft out = record { said = said; count = count; tree = tree; draft = draft; out = out }

-- A call on a reader that is opened at 5, and what it leaves.
pub record Row : Type 0 where
  pub call : Call
  pub left : Outcome

abbrev pub row : Call → Outcome → Row
row call left = record { call = call; left = left }

abbrev pub rows : List Row
rows =
    row (lends 0 0 4 read_one "a b") (leaves (accepted 3 1) 5 [] [] (16 ∷ 0 ∷ 1 ∷ 7 ∷ []))
    ∷ row (lends 0 0 4 read_one ")") (leaves (refused 4) 5 [] [] (blank 4))
    ∷ row (lends 0 0 7 read_all "a b") (leaves (accepted 2 6) 5 [] [] (16 ∷ 0 ∷ 1 ∷ 16 ∷ 2 ∷ 1 ∷ 7 ∷ []))
    ∷ row (lends 0 0 5 read_all "a b") (leaves (refused 7) 5 [] [] (blank 5))
    ∷ row (lends 4 0 3 sort "Int") (leaves (accepted 1 0) 5 (blank 4) [] (1 ∷ 7 ∷ 7 ∷ []))
    ∷ row (lends 4 0 3 sort "Size") (leaves (refused 8) 5 (blank 4) [] (blank 3))
    ∷ row (lends 21 0 9 expression "(exists ((x Int)) x)") (leaves (accepted 8 0) 6 (blank 21) [] (51 ∷ 1 ∷ 5 ∷ 0 ∷ 1 ∷ 36 ∷ 5 ∷ 0 ∷ 7 ∷ []))
    ∷ row (lends 21 0 7 expression "(exists ((x Int)) x)") (leaves (refused 7) 5 (blank 21) [] (blank 7))
    ∷ row (lends 21 0 9 bind "((x Int) (x))") (leaves (accepted 8 0) 5 (blank 21) [] (2 ∷ 1 ∷ 1 ∷ 1 ∷ 65 ∷ 37 ∷ 10 ∷ 1 ∷ 7 ∷ []))
    ∷ row (lends 21 0 9 bind "((x Int) (1.5))") (leaves (refused 9) 5 (blank 21) [] (blank 9))
    ∷ row (lends 64 10 15 solution "(lambda ((x Int)) (< x 5))")
    (leaves (accepted 14 0) 6 (blank 64) (blank 10) (1 ∷ 5 ∷ 0 ∷ 1 ∷ 47 ∷ 4 ∷ 36 ∷ 5 ∷ 0 ∷ 32 ∷ 5 ∷ 0 ∷ 0 ∷ 0 ∷ 7 ∷ []))
    ∷ row (lends 64 9 15 solution "(lambda ((x Int)) (< x 5))") (leaves (refused 7) 5 (blank 64) (blank 9) (blank 15))
    ∷ []

unfoldable pub left_by : List Row → List Outcome
unfolding reader_computes
left_by l = map (λ r. outcome r.call 5) l

pub slices_hold : left_by rows ≡ map (λ r. r.left) rows
unfolding left_by
slices_hold = refl

-- Words to flatten, what is said, and the output afterwards.
pub record FlatRow : Type 0 where
  pub input : List ℕ
  pub out : ℕ
  pub said : Said
  pub left : List ℕ

abbrev pub flat_row : List ℕ → ℕ → Said → List ℕ → FlatRow
flat_row input out said left = record { input = input; out = out; said = said; left = left }

-- `(f a) b` becomes `f a b`; words that end early.
abbrev pub flat_rows : List FlatRow
flat_rows =
    flat_row (38 ∷ 0 ∷ 1 ∷ 37 ∷ 4 ∷ 1 ∷ 38 ∷ 0 ∷ 1 ∷ 37 ∷ 2 ∷ 1 ∷ 37 ∷ 0 ∷ 1 ∷ []) 13 (accepted 12 0) (38 ∷ 0 ∷ 2 ∷ 37 ∷ 2 ∷ 1 ∷ 37 ∷ 4 ∷ 1 ∷ 37 ∷ 0 ∷ 1 ∷ 7 ∷ [])
    ∷ flat_row (38 ∷ 0 ∷ 1 ∷ 37 ∷ 4 ∷ 1 ∷ []) 4 (refused 14) (blank 4)
    ∷ []

pub record FlatLeft : Type 0 where
  pub said : Said
  pub out : List ℕ

unfoldable pub flat_left : List FlatRow → List FlatLeft
unfolding reader_computes
flat_left l = map (λ r. record { said = flatten_said r.input (sevens r.out); out = flatten_out r.input (sevens r.out) }) l

pub flat_slices_hold : flat_left flat_rows ≡ map (λ r. record { said = r.said; out = r.left }) flat_rows
unfolding flat_left
flat_slices_hold = refl
