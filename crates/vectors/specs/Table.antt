-- The bench table of document 01, with the literal of request C-13 and the `nan` of request C-14: every row that is marked P, a row for the let of
-- request C-17, and one claim about all of them.
use Rattle.std.specs.Prelude.{◌≡◌, refl, List, [], ◌∷◌}
use Rattle.session.specs.Session.{read_one, expression, sort, solution}
use Rattle.vectors.specs.Shown.{Row, row, refusal, words, answers, expected}

abbrev pub table : List Row
table =
    row read_one "" (refusal 3)
    ∷ row read_one ")" (refusal 4)
    ∷ row read_one "-" (words (16 ∷ 0 ∷ 1 ∷ []))
    ∷ row read_one "+5" (words (18 ∷ 5 ∷ 0 ∷ 0 ∷ 0 ∷ []))
    ∷ row read_one "(a)" (words (21 ∷ 1 ∷ 3 ∷ 16 ∷ 1 ∷ 1 ∷ []))
    ∷ row expression "(and)" (words (42 ∷ 0 ∷ []))
    ∷ row expression "(or (and) true)" (words (43 ∷ 2 ∷ 37 ∷ 5 ∷ 3 ∷ 33 ∷ 1 ∷ []))
    ∷ row expression "nan" (words (37 ∷ 0 ∷ 3 ∷ []))
    ∷ row expression "(lit \"#b101\" (BitVec Size3))" (words (35 ∷ 5 ∷ 0 ∷ 0 ∷ 0 ∷ 3 ∷ []))
    ∷ row sort "(func 1 (Int) Bool)" (words (9 ∷ 0 ∷ 8 ∷ 1 ∷ 2 ∷ []))
    ∷ row sort "(Int)" (words (10 ∷ 2 ∷ 1 ∷ 3 ∷ 0 ∷ []))
    ∷ row solution "(lambda ((x Int) (x Int)) x)" (refusal 10)
    ∷ row solution "(lambda ((x Int) (x Int)) ())" (refusal 8)
    ∷ row solution "(lambda () (((as apply Int) f) a))" (words (0 ∷ 38 ∷ 0 ∷ 1 ∷ 37 ∷ 31 ∷ 1 ∷ 37 ∷ 28 ∷ 1 ∷ []))
    ∷ row solution "(lambda ((x Int)) (let (x 1) (< x 2)))" (words (1 ∷ 0 ∷ 0 ∷ 1 ∷ 52 ∷ 1 ∷ 0 ∷ 32 ∷ 1 ∷ 0 ∷ 0 ∷ 0 ∷ 47 ∷ 4 ∷ 36 ∷ 1 ∷ 0 ∷ 32 ∷ 2 ∷ 0 ∷ 0 ∷ 0 ∷ []))
    ∷ []

pub table-holds : answers table ≡ expected table
unfolding answers
table-holds = refl
