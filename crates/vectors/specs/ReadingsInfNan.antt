-- The answers of request C-14 about `inf`, `infinity` and `nan` that are easily read otherwise, each with the smallest input that shows it, and a
-- claim about all.
use Rattle.std.specs.Prelude.{◌≡◌, refl, List, [], ◌∷◌}
use Rattle.session.specs.Session.{read_one, read_all, sort, expression, bind, solution}
use Rattle.vectors.specs.Shown.{refusal, words, Asked, asked, tells, told}

abbrev pub inf_and_nan : List Asked
inf_and_nan =
    -- the sign belongs to the name, there is no Neg, and case counts
    asked expression "inf" (words (37 ∷ 0 ∷ 3 ∷ []))
    ∷ asked expression "-inf" (words (37 ∷ 0 ∷ 4 ∷ []))
    ∷ asked expression "+nan" (words (37 ∷ 0 ∷ 4 ∷ []))
    ∷ asked expression "INFINITY" (words (37 ∷ 0 ∷ 8 ∷ []))
    ∷ asked expression "(- inf)" (words (39 ∷ 37 ∷ 3 ∷ 3 ∷ []))
    ∷ asked expression "(exists ((inf Int)) -inf)" (words (51 ∷ 1 ∷ 0 ∷ 0 ∷ 1 ∷ 37 ∷ 20 ∷ 4 ∷ []))
    ∷ asked expression "(exists ((inf Int)) Inf)" (words (51 ∷ 1 ∷ 0 ∷ 0 ∷ 1 ∷ 37 ∷ 20 ∷ 3 ∷ []))
    -- in trees a symbol of the same length
    ∷ asked read_one "-nan" (words (16 ∷ 0 ∷ 4 ∷ []))
    ∷ asked read_one "nan" (words (16 ∷ 0 ∷ 3 ∷ []))
    ∷ asked read_one "+INF" (words (16 ∷ 0 ∷ 4 ∷ []))
    ∷ asked read_one "Infinity" (words (16 ∷ 0 ∷ 8 ∷ []))
    ∷ asked read_all "inf nan" (words (16 ∷ 0 ∷ 3 ∷ 16 ∷ 4 ∷ 3 ∷ []))
    -- one sign and the letters, and nothing more; such words with something more were symbols before
    ∷ asked read_one "--inf" (words (16 ∷ 0 ∷ 5 ∷ []))
    ∷ asked read_one "inf0" (words (16 ∷ 0 ∷ 4 ∷ []))
    ∷ asked read_one "nan." (words (16 ∷ 0 ∷ 4 ∷ []))
    -- what has a digit stays a decimal, and 9 as an expression
    ∷ asked read_one "1e5" (words (19 ∷ 0 ∷ 3 ∷ []))
    ∷ asked expression "1e5" (refusal 9)
    ∷ asked expression ".5" (refusal 9)
    ∷ asked expression "1." (refusal 9)
    ∷ asked expression "1.5" (refusal 9)
    ∷ asked expression "170141183460469231731687303715884105728" (refusal 9)
    ∷ asked expression "(not 1e5)" (refusal 9)
    -- sorts
    ∷ asked sort "inf" (words (10 ∷ 2 ∷ 0 ∷ 3 ∷ 0 ∷ []))
    ∷ asked sort "(inf Int)" (words (10 ∷ 2 ∷ 1 ∷ 3 ∷ 1 ∷ 1 ∷ []))
    ∷ asked sort "(List nan)" (words (10 ∷ 2 ∷ 1 ∷ 4 ∷ 1 ∷ 10 ∷ 2 ∷ 6 ∷ 3 ∷ 0 ∷ []))
    ∷ asked sort "(BitVec nan)" (refusal 8)
    ∷ asked sort "(func nan () Int)" (refusal 8)
    -- names of an exists, a let, a solution and a bind, and arguments of a kvar; repeated they are 10
    ∷ asked expression "(exists ((inf Int)) inf)" (words (51 ∷ 1 ∷ 0 ∷ 0 ∷ 1 ∷ 36 ∷ 0 ∷ 0 ∷ []))
    ∷ asked expression "(exists ((inf Int)) (- inf))" (words (51 ∷ 1 ∷ 0 ∷ 0 ∷ 1 ∷ 39 ∷ 36 ∷ 0 ∷ 0 ∷ []))
    ∷ asked expression "(let (inf 1) inf)" (words (52 ∷ 0 ∷ 0 ∷ 32 ∷ 1 ∷ 0 ∷ 0 ∷ 0 ∷ 36 ∷ 0 ∷ 0 ∷ []))
    ∷ asked solution "(lambda ((inf Int)) (< inf 5))" (words (1 ∷ 0 ∷ 0 ∷ 1 ∷ 47 ∷ 4 ∷ 36 ∷ 0 ∷ 0 ∷ 32 ∷ 5 ∷ 0 ∷ 0 ∷ 0 ∷ []))
    ∷ asked solution "(lambda ((inf Int) (-inf Int)) -inf)" (words (2 ∷ 0 ∷ 0 ∷ 1 ∷ 1 ∷ 0 ∷ 1 ∷ 36 ∷ 1 ∷ 0 ∷ []))
    ∷ asked bind "((x Int) ($k nan))" (words (2 ∷ 1 ∷ 1 ∷ 1 ∷ 64 ∷ 10 ∷ 2 ∷ 1 ∷ 37 ∷ 13 ∷ 3 ∷ []))
    ∷ asked bind "((nan inf) ($k -inf))" (words (2 ∷ 3 ∷ 10 ∷ 2 ∷ 6 ∷ 3 ∷ 0 ∷ 1 ∷ 64 ∷ 12 ∷ 2 ∷ 1 ∷ 37 ∷ 15 ∷ 4 ∷ []))
    ∷ asked expression "(exists ((nan Int) (nan Int)) 1)" (refusal 10)
    ∷ asked solution "(lambda ((nan Int) (nan Int)) 1)" (refusal 10)
    ∷ asked expression "(exists ((nan Int) (NaN Int)) nan)" (words (51 ∷ 2 ∷ 0 ∷ 0 ∷ 1 ∷ 1 ∷ 0 ∷ 1 ∷ 36 ∷ 0 ∷ 0 ∷ []))
    -- heads and arguments
    ∷ asked expression "(inf x)" (refusal 8)
    ∷ asked expression "(inf)" (refusal 8)
    ∷ asked expression "(not (inf))" (words (44 ∷ 37 ∷ 6 ∷ 3 ∷ []))
    ∷ asked bind "((x Int) nan)" (refusal 8)
    ∷ asked bind "((x Int) (nan))" (words (2 ∷ 1 ∷ 1 ∷ 1 ∷ 65 ∷ 37 ∷ 10 ∷ 3 ∷ []))
    ∷ asked expression "(((as apply Int) f) -inf)" (words (38 ∷ 0 ∷ 1 ∷ 37 ∷ 20 ∷ 4 ∷ 38 ∷ 1 ∷ 0 ∷ 1 ∷ 37 ∷ 17 ∷ 1 ∷ []))
    ∷ asked expression "((nan apply inf) f)" (words (38 ∷ 1 ∷ 0 ∷ 10 ∷ 2 ∷ 12 ∷ 3 ∷ 0 ∷ 37 ∷ 17 ∷ 1 ∷ []))
    ∷ asked solution "(nan () inf)" (words (0 ∷ 37 ∷ 8 ∷ 3 ∷ []))
    -- operands of `and` and `or`; in a literal only where nothing is looked at
    ∷ asked expression "(and inf (or nan))" (words (42 ∷ 2 ∷ 37 ∷ 5 ∷ 3 ∷ 43 ∷ 1 ∷ 37 ∷ 13 ∷ 3 ∷ []))
    ∷ asked expression "(lit \"#b1\" inf)" (refusal 8)
    ∷ asked expression "(lit \"#b1\" (nan Size1))" (words (35 ∷ 1 ∷ 0 ∷ 0 ∷ 0 ∷ 1 ∷ []))
    ∷ []

pub inf_and_nan_hold : tells inf_and_nan ≡ told inf_and_nan
unfolding tells
inf_and_nan_hold = refl
