-- The same for sorts, expressions, binds, solutions and flattening.
use Rattle.std.specs.Prelude.{ℕ, ◌≡◌, refl, List, [], ◌∷◌, ◌++◌, replicate}
use Prim.Native.String.{String}
use Rattle.reading.specs.Bytes.{ascii}
use Rattle.session.specs.Session.{sort, expression, bind, solution}
use Rattle.vectors.specs.Shown.{refusal, words, Asked, asks, asked, lending, tells, told, Flat, flat, flat_into, flattens_to, flat_answers}

-- Sorts.
abbrev pub sorts_read : List Asked
sorts_read =
    -- `Size` counts as an atom only, and needs a width of 32 bits
    asked sort "Size" (refusal 8)
    ∷ asked sort "Sizex" (refusal 8)
    ∷ asked sort "Size-0" (refusal 8)
    ∷ asked sort "Size4294967295" (words (6 ∷ 4294967295 ∷ []))
    ∷ asked sort "Size4294967296" (refusal 8)
    ∷ asked sort "Size+3" (words (6 ∷ 3 ∷ []))
    ∷ asked sort "Size03" (words (6 ∷ 3 ∷ []))
    ∷ asked sort "(Size)" (words (10 ∷ 2 ∷ 1 ∷ 4 ∷ 0 ∷ []))
    ∷ asked sort "(Size3)" (words (10 ∷ 2 ∷ 1 ∷ 5 ∷ 0 ∷ []))
    -- an index has 64 bits; anything else is a name, and so is a list's head
    ∷ asked sort "@(+7)" (words (7 ∷ 7 ∷ 0 ∷ []))
    ∷ asked sort "@(07)" (words (7 ∷ 7 ∷ 0 ∷ []))
    ∷ asked sort "@(18446744073709551615)" (words (7 ∷ 4294967295 ∷ 4294967295 ∷ []))
    ∷ asked sort "@(18446744073709551616)" (words (10 ∷ 2 ∷ 0 ∷ 23 ∷ 0 ∷ []))
    ∷ asked sort "@()" (words (10 ∷ 2 ∷ 0 ∷ 3 ∷ 0 ∷ []))
    ∷ asked sort "@(+)" (words (10 ∷ 2 ∷ 0 ∷ 4 ∷ 0 ∷ []))
    ∷ asked sort "@(-0)" (words (10 ∷ 2 ∷ 0 ∷ 5 ∷ 0 ∷ []))
    ∷ asked sort "@( 7)" (words (10 ∷ 2 ∷ 0 ∷ 5 ∷ 0 ∷ []))
    ∷ asked sort "@)" (words (10 ∷ 2 ∷ 0 ∷ 2 ∷ 0 ∷ []))
    ∷ asked sort "(@(0) Int)" (words (10 ∷ 2 ∷ 1 ∷ 4 ∷ 1 ∷ 1 ∷ []))
    -- a constructor with its number of arguments, and with any other, which makes it a name
    ∷ asked sort "(BitVec Size3)" (words (5 ∷ 6 ∷ 3 ∷ []))
    ∷ asked sort "(BitVec)" (words (10 ∷ 2 ∷ 1 ∷ 6 ∷ 0 ∷ []))
    ∷ asked sort "(BitVec Size3 Size4)" (words (10 ∷ 2 ∷ 1 ∷ 6 ∷ 2 ∷ 6 ∷ 3 ∷ 6 ∷ 4 ∷ []))
    ∷ asked sort "(Set_Set Int)" (words (10 ∷ 0 ∷ 1 ∷ 1 ∷ []))
    ∷ asked sort "(Set_Set)" (words (10 ∷ 2 ∷ 1 ∷ 7 ∷ 0 ∷ []))
    ∷ asked sort "(Map_t Int Bool)" (words (10 ∷ 1 ∷ 2 ∷ 1 ∷ 2 ∷ []))
    ∷ asked sort "(Array_t Int Bool)" (words (10 ∷ 1 ∷ 2 ∷ 1 ∷ 2 ∷ []))
    ∷ asked sort "(Map_t Int)" (words (10 ∷ 2 ∷ 1 ∷ 5 ∷ 1 ∷ 1 ∷ []))
    ∷ asked sort "(function Int Bool)" (words (8 ∷ 1 ∷ 2 ∷ []))
    ∷ asked sort "(function Int)" (words (10 ∷ 2 ∷ 1 ∷ 8 ∷ 1 ∷ 1 ∷ []))
    ∷ asked sort "(function Int Bool Str)" (words (10 ∷ 2 ∷ 1 ∷ 8 ∷ 3 ∷ 1 ∷ 2 ∷ 4 ∷ []))
    ∷ asked sort "(func)" (words (10 ∷ 2 ∷ 1 ∷ 4 ∷ 0 ∷ []))
    ∷ asked sort "(func Int Int Int Int)" (words (10 ∷ 2 ∷ 1 ∷ 4 ∷ 4 ∷ 1 ∷ 1 ∷ 1 ∷ 1 ∷ []))
    ∷ asked sort "(func Int Int Int)" (refusal 8)
    ∷ asked sort "(BitVec Int)" (refusal 8)
    ∷ asked sort "(BitVec (BitVec Size3))" (refusal 8)
    -- no sort is seen through, and what is no symbol is no sort
    ∷ asked sort "()" (refusal 8)
    ∷ asked sort "((Int))" (refusal 8)
    ∷ asked sort "(5)" (refusal 8)
    ∷ asked sort "(\"a\")" (refusal 8)
    ∷ asked sort "5" (refusal 8)
    ∷ asked sort "true" (refusal 8)
    ∷ asked sort "1.5" (refusal 8)
    ∷ asked sort "\"a\"" (refusal 8)
    -- Abs has one index word, Var has two
    ∷ asked sort "(func 2 (@(0) Int) @(1))" (words (9 ∷ 0 ∷ 9 ∷ 1 ∷ 8 ∷ 7 ∷ 0 ∷ 0 ∷ 8 ∷ 1 ∷ 7 ∷ 1 ∷ 0 ∷ []))
    -- each plain sort has two names
    ∷ asked sort "(List Int int Bool bool Real real Str str)" (words (10 ∷ 2 ∷ 1 ∷ 4 ∷ 8 ∷ 1 ∷ 1 ∷ 2 ∷ 2 ∷ 3 ∷ 3 ∷ 4 ∷ 4 ∷ []))
    ∷ []

pub sorts_hold : tells sorts_read ≡ told sorts_read
unfolding tells
sorts_hold = refl

-- Expressions.
abbrev pub expressions : List Asked
expressions =
    -- operands, arguments, the pair, value and body of a let, and the body of an exists are seen through
    asked expression "(not ((x)))" (words (44 ∷ 37 ∷ 7 ∷ 1 ∷ []))
    ∷ asked expression "(or (and) true)" (words (43 ∷ 2 ∷ 37 ∷ 5 ∷ 3 ∷ 33 ∷ 1 ∷ []))
    ∷ asked expression "(exists ((and Int)) (and))" (words (51 ∷ 1 ∷ 0 ∷ 0 ∷ 1 ∷ 36 ∷ 0 ∷ 0 ∷ []))
    ∷ asked expression "(not (nan))" (words (44 ∷ 37 ∷ 6 ∷ 3 ∷ []))
    ∷ asked expression "(((as apply Int) f) (a))" (words (38 ∷ 0 ∷ 1 ∷ 37 ∷ 21 ∷ 1 ∷ 38 ∷ 1 ∷ 0 ∷ 1 ∷ 37 ∷ 17 ∷ 1 ∷ []))
    ∷ asked expression "(let ((x (1))) (x))" (words (52 ∷ 0 ∷ 0 ∷ 32 ∷ 1 ∷ 0 ∷ 0 ∷ 0 ∷ 36 ∷ 0 ∷ 0 ∷ []))
    ∷ asked expression "(exists () (x))" (words (51 ∷ 0 ∷ 37 ∷ 12 ∷ 1 ∷ []))
    -- the whole expression, a solution's body, `cast`, `cast_as_int`, `is$`, a literal's size, names and sorts are not
    ∷ asked expression "(x)" (refusal 8)
    ∷ asked expression "((and))" (refusal 8)
    ∷ asked solution "(lambda () (x))" (refusal 8)
    ∷ asked solution "(lambda () ((and)))" (refusal 8)
    ∷ asked solution "(lambda () (and))" (words (0 ∷ 42 ∷ 0 ∷ []))
    ∷ asked expression "(cast (x))" (refusal 8)
    ∷ asked expression "(cast (and))" (words (42 ∷ 0 ∷ []))
    ∷ asked expression "(cast_as_int (x))" (refusal 8)
    ∷ asked expression "(is$a (x))" (refusal 8)
    ∷ asked expression "(lit \"#b110\" ((BitVec Size3)))" (refusal 8)
    ∷ asked expression "(exists (((x) Int)) x)" (refusal 8)
    ∷ asked expression "(exists (((x Int))) x)" (refusal 8)
    ∷ asked expression "(exists ((x ((Int)))) x)" (refusal 8)
    ∷ asked expression "(not ())" (refusal 8)
    -- only `and` and `or` accept a list of one item
    ∷ asked expression "(or)" (words (43 ∷ 0 ∷ []))
    ∷ asked expression "(not)" (refusal 8)
    ∷ asked expression "(cast)" (refusal 8)
    ∷ asked expression "(let)" (refusal 8)
    ∷ asked expression "(exists)" (refusal 8)
    ∷ asked expression "(is$a)" (refusal 8)
    -- minus
    ∷ asked expression "(- a)" (words (39 ∷ 37 ∷ 3 ∷ 1 ∷ []))
    ∷ asked expression "(- a b c)" (words (40 ∷ 1 ∷ 37 ∷ 3 ∷ 1 ∷ 37 ∷ 5 ∷ 1 ∷ []))
    ∷ asked expression "(-)" (refusal 8)
    ∷ asked expression "(-5)" (refusal 8)
    ∷ asked expression "(not (-5))" (words (44 ∷ 39 ∷ 32 ∷ 5 ∷ 0 ∷ 0 ∷ 0 ∷ []))
    ∷ asked expression "-5" (words (39 ∷ 32 ∷ 5 ∷ 0 ∷ 0 ∷ 0 ∷ []))
    -- `is$` is a variable by itself, and a test with an empty name in front of an item
    ∷ asked expression "is$" (words (37 ∷ 0 ∷ 3 ∷ []))
    ∷ asked expression "(is$ x)" (words (50 ∷ 4 ∷ 0 ∷ 37 ∷ 5 ∷ 1 ∷ []))
    ∷ asked expression "(is$Cons x)" (words (50 ∷ 4 ∷ 4 ∷ 37 ∷ 9 ∷ 1 ∷ []))
    -- `apply` is looked for at the second place of the head; a symbol is never the head
    ∷ asked expression "((5 apply Int) f)" (words (38 ∷ 1 ∷ 0 ∷ 1 ∷ 37 ∷ 15 ∷ 1 ∷ []))
    ∷ asked expression "((x apply) f)" (refusal 8)
    ∷ asked expression "(bvadd x y)" (refusal 8)
    ∷ asked expression "(f x)" (refusal 8)
    ∷ asked expression "($k x)" (refusal 8)
    -- an application without arguments stays one when it is flattened, and the inner sort goes
    ∷ asked expression "(((as apply Int) f))" (words (38 ∷ 0 ∷ 0 ∷ 38 ∷ 1 ∷ 0 ∷ 1 ∷ 37 ∷ 17 ∷ 1 ∷ []))
    ∷ asked solution "(lambda () (((as apply Int) f)))" (words (0 ∷ 38 ∷ 0 ∷ 0 ∷ 37 ∷ 28 ∷ 1 ∷ []))
    -- theory names win over scopes, keywords as heads over both
    ∷ asked expression "(exists ((bvadd Int)) bvadd)" (words (51 ∷ 1 ∷ 0 ∷ 0 ∷ 1 ∷ 49 ∷ 27 ∷ []))
    ∷ asked expression "(exists ((not Int)) (not not))" (words (51 ∷ 1 ∷ 0 ∷ 0 ∷ 1 ∷ 44 ∷ 36 ∷ 0 ∷ 0 ∷ []))
    -- the innermost scope counts
    ∷ asked expression "(exists ((x Int)) (exists ((x Int)) x))" (words (51 ∷ 1 ∷ 0 ∷ 0 ∷ 1 ∷ 51 ∷ 1 ∷ 1 ∷ 0 ∷ 1 ∷ 36 ∷ 1 ∷ 0 ∷ []))
    -- numbers: an exists before its body, arguments before the head, then before else
    ∷ asked expression "(exists ((x Int) (y Int)) (exists ((z Int)) (= x y)))" (words (51 ∷ 2 ∷ 0 ∷ 0 ∷ 1 ∷ 1 ∷ 0 ∷ 1 ∷ 51 ∷ 1 ∷ 2 ∷ 0 ∷ 1 ∷ 47 ∷ 0 ∷ 36 ∷ 0 ∷ 0 ∷ 36 ∷ 1 ∷ 0 ∷ []))
    ∷ asked expression "(((as apply Int) (exists ((x Int)) x)) (exists ((y Int)) y))"
    (words (38 ∷ 0 ∷ 1 ∷ 51 ∷ 1 ∷ 0 ∷ 0 ∷ 1 ∷ 36 ∷ 0 ∷ 0 ∷ 38 ∷ 1 ∷ 0 ∷ 1 ∷ 51 ∷ 1 ∷ 1 ∷ 0 ∷ 1 ∷ 36 ∷ 1 ∷ 0 ∷ []))
    ∷ asked expression "(if (exists ((x Int)) x) (exists ((y Int)) y) a)" (words (41 ∷ 51 ∷ 1 ∷ 0 ∷ 0 ∷ 1 ∷ 36 ∷ 0 ∷ 0 ∷ 51 ∷ 1 ∷ 1 ∷ 0 ∷ 1 ∷ 36 ∷ 1 ∷ 0 ∷ 37 ∷ 46 ∷ 1 ∷ []))
    ∷ asked expression "(if a (exists ((x Int)) x) (exists ((y Int)) y))" (words (41 ∷ 37 ∷ 4 ∷ 1 ∷ 51 ∷ 1 ∷ 0 ∷ 0 ∷ 1 ∷ 36 ∷ 0 ∷ 0 ∷ 51 ∷ 1 ∷ 1 ∷ 0 ∷ 1 ∷ 36 ∷ 1 ∷ 0 ∷ []))
    -- the same after flattening, which writes the head's arguments first
    ∷ asks 0 (lending 128 64 64 solution (ascii "(lambda () ((((as apply Int) f) (exists ((x Int)) x)) (exists ((y Int)) y)))"))
    (words (0 ∷ 38 ∷ 0 ∷ 2 ∷ 51 ∷ 1 ∷ 1 ∷ 0 ∷ 1 ∷ 36 ∷ 1 ∷ 0 ∷ 51 ∷ 1 ∷ 0 ∷ 0 ∷ 1 ∷ 36 ∷ 0 ∷ 0 ∷ 37 ∷ 29 ∷ 1 ∷ []))
    -- operators and relations by their codes
    ∷ asked expression "(+ a b)" (words (40 ∷ 0 ∷ 37 ∷ 3 ∷ 1 ∷ 37 ∷ 5 ∷ 1 ∷ []))
    ∷ asked expression "(- a b)" (words (40 ∷ 1 ∷ 37 ∷ 3 ∷ 1 ∷ 37 ∷ 5 ∷ 1 ∷ []))
    ∷ asked expression "(* a b)" (words (40 ∷ 2 ∷ 37 ∷ 3 ∷ 1 ∷ 37 ∷ 5 ∷ 1 ∷ []))
    ∷ asked expression "(/ a b)" (words (40 ∷ 3 ∷ 37 ∷ 3 ∷ 1 ∷ 37 ∷ 5 ∷ 1 ∷ []))
    ∷ asked expression "(mod a b)" (words (40 ∷ 4 ∷ 37 ∷ 5 ∷ 1 ∷ 37 ∷ 7 ∷ 1 ∷ []))
    ∷ asked expression "(= a b)" (words (47 ∷ 0 ∷ 37 ∷ 3 ∷ 1 ∷ 37 ∷ 5 ∷ 1 ∷ []))
    ∷ asked expression "(!= a b)" (words (47 ∷ 1 ∷ 37 ∷ 4 ∷ 1 ∷ 37 ∷ 6 ∷ 1 ∷ []))
    ∷ asked expression "(> a b)" (words (47 ∷ 2 ∷ 37 ∷ 3 ∷ 1 ∷ 37 ∷ 5 ∷ 1 ∷ []))
    ∷ asked expression "(>= a b)" (words (47 ∷ 3 ∷ 37 ∷ 4 ∷ 1 ∷ 37 ∷ 6 ∷ 1 ∷ []))
    ∷ asked expression "(< a b)" (words (47 ∷ 4 ∷ 37 ∷ 3 ∷ 1 ∷ 37 ∷ 5 ∷ 1 ∷ []))
    ∷ asked expression "(<= a b)" (words (47 ∷ 5 ∷ 37 ∷ 4 ∷ 1 ∷ 37 ∷ 6 ∷ 1 ∷ []))
    ∷ asked expression "(=> a b)" (words (45 ∷ 37 ∷ 4 ∷ 1 ∷ 37 ∷ 6 ∷ 1 ∷ []))
    ∷ asked expression "(<=> a b)" (words (46 ∷ 37 ∷ 5 ∷ 1 ∷ 37 ∷ 7 ∷ 1 ∷ []))
    ∷ []

pub expressions_hold : tells expressions ≡ told expressions
unfolding tells
expressions_hold = refl

-- A theory function by its name and its number.
abbrev pub theory_name : String → ℕ → Asked
theory_name name k = asked expression name (words (49 ∷ k ∷ []))

-- 44 names of 42 theory functions.
abbrev pub theory_names : List Asked
theory_names =
    theory_name "strLen" 0
    ∷ theory_name "int_to_bv8" 1
    ∷ theory_name "bv8_to_int" 2
    ∷ theory_name "int_to_bv32" 3
    ∷ theory_name "bv32_to_int" 4
    ∷ theory_name "int_to_bv64" 5
    ∷ theory_name "bv64_to_int" 6
    ∷ theory_name "int_to_bv128" 7
    ∷ theory_name "bv128_to_int" 8
    ∷ theory_name "bvule" 9
    ∷ theory_name "bvsle" 10
    ∷ theory_name "bvuge" 11
    ∷ theory_name "bvsge" 12
    ∷ theory_name "bvugt" 13
    ∷ theory_name "bvsgt" 14
    ∷ theory_name "bvult" 15
    ∷ theory_name "bvslt" 16
    ∷ theory_name "bvudiv" 17
    ∷ theory_name "bvsdiv" 18
    ∷ theory_name "bvurem" 19
    ∷ theory_name "bvsrem" 20
    ∷ theory_name "bvlshr" 21
    ∷ theory_name "bvashr" 22
    ∷ theory_name "bvand" 23
    ∷ theory_name "bvor" 24
    ∷ theory_name "bvxor" 25
    ∷ theory_name "bvnot" 26
    ∷ theory_name "bvadd" 27
    ∷ theory_name "bvneg" 28
    ∷ theory_name "bvsub" 29
    ∷ theory_name "bvmul" 30
    ∷ theory_name "bvshl" 31
    ∷ theory_name "Set_empty" 32
    ∷ theory_name "Set_sng" 33
    ∷ theory_name "Set_cup" 34
    ∷ theory_name "Set_cap" 35
    ∷ theory_name "Set_dif" 36
    ∷ theory_name "Set_mem" 37
    ∷ theory_name "Set_sub" 38
    ∷ theory_name "Map_default" 39
    ∷ theory_name "Map_select" 40
    ∷ theory_name "arr_select_m" 40
    ∷ theory_name "Map_store" 41
    ∷ theory_name "arr_store_m" 41
    ∷ []

pub theory_names_hold : tells theory_names ≡ told theory_names
unfolding tells
theory_names_hold = refl

-- Binds and solutions.
abbrev pub binds_and_solutions : List Asked
binds_and_solutions =
    -- `and` joins predicates, but a list of one is seen through to a variable
    asked bind "((x Int) (and))" (words (2 ∷ 1 ∷ 1 ∷ 0 ∷ []))
    ∷ asked bind "((x Int) ((and)))" (words (2 ∷ 1 ∷ 1 ∷ 1 ∷ 65 ∷ 37 ∷ 11 ∷ 3 ∷ []))
    ∷ asked bind "((x Int) (and (or)))" (words (2 ∷ 1 ∷ 1 ∷ 1 ∷ 65 ∷ 37 ∷ 15 ∷ 2 ∷ []))
    ∷ asked bind "((x Int) (and ($k x) (and ((p)))))" (words (2 ∷ 1 ∷ 1 ∷ 2 ∷ 64 ∷ 15 ∷ 2 ∷ 1 ∷ 37 ∷ 18 ∷ 1 ∷ 65 ∷ 37 ∷ 28 ∷ 1 ∷ []))
    -- an atom is no predicate
    ∷ asked bind "((x Int) (and x))" (refusal 8)
    -- a kvar is not seen through, has at least one argument, and stands in no expression
    ∷ asked bind "((x Int) ($ x))" (words (2 ∷ 1 ∷ 1 ∷ 1 ∷ 64 ∷ 10 ∷ 1 ∷ 1 ∷ 37 ∷ 12 ∷ 1 ∷ []))
    ∷ asked bind "((x Int) (($k x)))" (refusal 8)
    ∷ asked bind "((x Int) ($k))" (refusal 8)
    ∷ asked bind "((x Int) (not ($k x)))" (refusal 8)
    ∷ asked bind "((x Int) (or ($k x) true))" (refusal 8)
    -- arguments of a kvar and a bind's name are names always
    ∷ asked bind "((x Int) ($k bvadd x))" (words (2 ∷ 1 ∷ 1 ∷ 1 ∷ 64 ∷ 10 ∷ 2 ∷ 2 ∷ 37 ∷ 13 ∷ 5 ∷ 37 ∷ 19 ∷ 1 ∷ []))
    ∷ asked bind "((bvadd Int) (and))" (words (2 ∷ 5 ∷ 1 ∷ 0 ∷ []))
    -- a bind's name opens no scope
    ∷ asked bind "((x Int) (= x 1))" (words (2 ∷ 1 ∷ 1 ∷ 1 ∷ 65 ∷ 47 ∷ 0 ∷ 37 ∷ 12 ∷ 1 ∷ 32 ∷ 1 ∷ 0 ∷ 0 ∷ 0 ∷ []))
    -- a solution has three items, the first of any kind; a parameter has two, the first a symbol
    ∷ asked solution "(5 () x)" (words (0 ∷ 37 ∷ 6 ∷ 1 ∷ []))
    ∷ asked solution "((a) () x)" (words (0 ∷ 37 ∷ 8 ∷ 1 ∷ []))
    ∷ asked solution "(lambda ())" (refusal 8)
    ∷ asked solution "(lambda x x)" (refusal 8)
    ∷ asked solution "(lambda (x) x)" (refusal 8)
    ∷ asked solution "(lambda ((x)) x)" (refusal 8)
    ∷ asked solution "(lambda ((x Int Int)) x)" (refusal 8)
    ∷ asked solution "(lambda ((5 Int)) x)" (refusal 8)
    ∷ asked solution "(lambda ((\"x\" Int)) x)" (refusal 8)
    ∷ []

pub binds_and_solutions_hold : tells binds_and_solutions ≡ told binds_and_solutions
unfolding tells
binds_and_solutions_hold = refl

-- Flattening words.
abbrev pub flattening : List Flat
flattening =
    -- an unknown kind or the end of the words is 14; then 6; then the fields
    flat_into 129 (replicate 127 39 ++ (33 ∷ 1 ∷ [])) (words (replicate 127 39 ++ (33 ∷ 1 ∷ [])))
    ∷ flat_into 129 (replicate 128 39 ++ (33 ∷ 1 ∷ [])) (refusal 6)
    ∷ flat_into 129 (replicate 128 39 ++ (33 ∷ [])) (refusal 6)
    ∷ flat_into 129 (replicate 128 39 ++ (31 ∷ [])) (refusal 14)
    ∷ flat_into 129 (replicate 128 39 ++ (53 ∷ [])) (refusal 14)
    ∷ flat_into 129 (replicate 128 39) (refusal 14)
    -- a count is not compared with the words that are left
    ∷ flat ((42 ∷ 4294967295 ∷ []) ++ replicate 127 39 ++ (33 ∷ 1 ∷ [])) (refusal 6)
    ∷ flat (42 ∷ 4294967295 ∷ 33 ∷ 1 ∷ []) (refusal 14)
    -- sorts nest without limit
    ∷ flat_into 256 ((38 ∷ 1 ∷ 0 ∷ []) ++ replicate 200 5 ++ (1 ∷ 33 ∷ 1 ∷ [])) (words ((38 ∷ 1 ∷ 0 ∷ []) ++ replicate 200 5 ++ (1 ∷ 33 ∷ 1 ∷ [])))
    -- booleans, flags and codes are judged
    ∷ flat (33 ∷ 2 ∷ []) (refusal 14)
    ∷ flat (38 ∷ 2 ∷ 0 ∷ 33 ∷ 1 ∷ []) (refusal 14)
    ∷ flat (40 ∷ 5 ∷ 33 ∷ 0 ∷ 33 ∷ 1 ∷ []) (refusal 14)
    ∷ flat (47 ∷ 6 ∷ 33 ∷ 0 ∷ 33 ∷ 1 ∷ []) (refusal 14)
    ∷ flat (49 ∷ 41 ∷ []) (words (49 ∷ 41 ∷ []))
    ∷ flat (49 ∷ 42 ∷ []) (refusal 14)
    ∷ flat (38 ∷ 1 ∷ 0 ∷ 0 ∷ 33 ∷ 1 ∷ []) (refusal 14)
    ∷ flat (38 ∷ 1 ∷ 0 ∷ 11 ∷ 33 ∷ 1 ∷ []) (refusal 14)
    ∷ flat (38 ∷ 1 ∷ 0 ∷ 10 ∷ 3 ∷ 0 ∷ 33 ∷ 1 ∷ []) (refusal 14)
    -- spans, widths, indexes and fresh numbers are free
    ∷ flat (37 ∷ 4294967295 ∷ 4294967295 ∷ []) (words (37 ∷ 4294967295 ∷ 4294967295 ∷ []))
    ∷ flat (35 ∷ 1 ∷ 2 ∷ 3 ∷ 4 ∷ 4294967295 ∷ []) (words (35 ∷ 1 ∷ 2 ∷ 3 ∷ 4 ∷ 4294967295 ∷ []))
    ∷ flat (36 ∷ 4294967295 ∷ 4294967295 ∷ []) (words (36 ∷ 4294967295 ∷ 4294967295 ∷ []))
    ∷ flat (38 ∷ 1 ∷ 0 ∷ 9 ∷ 4294967295 ∷ 7 ∷ 4294967295 ∷ 4294967295 ∷ 33 ∷ 1 ∷ []) (words (38 ∷ 1 ∷ 0 ∷ 9 ∷ 4294967295 ∷ 7 ∷ 4294967295 ∷ 4294967295 ∷ 33 ∷ 1 ∷ []))
    -- trees and predicates are no expressions
    ∷ flat (16 ∷ 0 ∷ 1 ∷ []) (refusal 14)
    ∷ flat (20 ∷ 1 ∷ []) (refusal 14)
    ∷ flat (21 ∷ 0 ∷ 0 ∷ []) (refusal 14)
    ∷ flat (64 ∷ 0 ∷ 1 ∷ 0 ∷ []) (refusal 14)
    ∷ flat (65 ∷ 33 ∷ 1 ∷ []) (refusal 14)
    -- words left over are 14, behind 6; no words are 14
    ∷ flat (33 ∷ 1 ∷ 33 ∷ []) (refusal 14)
    ∷ flat (replicate 128 39 ++ (33 ∷ 1 ∷ 0 ∷ [])) (refusal 6)
    ∷ flat [] (refusal 14)
    -- the outermost flag and sort stay, the inner ones go, with arguments and without
    ∷ flat (38 ∷ 1 ∷ 0 ∷ 2 ∷ 38 ∷ 1 ∷ 1 ∷ 33 ∷ 1 ∷ 1 ∷ 37 ∷ 0 ∷ 1 ∷ []) (words (38 ∷ 1 ∷ 1 ∷ 33 ∷ 1 ∷ 2 ∷ 37 ∷ 0 ∷ 1 ∷ []))
    ∷ flat (38 ∷ 0 ∷ 0 ∷ 38 ∷ 1 ∷ 0 ∷ 1 ∷ 37 ∷ 0 ∷ 1 ∷ []) (words (38 ∷ 0 ∷ 0 ∷ 37 ∷ 0 ∷ 1 ∷ []))
    ∷ flat (38 ∷ 0 ∷ 1 ∷ 33 ∷ 0 ∷ 38 ∷ 1 ∷ 1 ∷ 33 ∷ 1 ∷ 1 ∷ 37 ∷ 0 ∷ 1 ∷ []) (words (38 ∷ 0 ∷ 2 ∷ 33 ∷ 1 ∷ 33 ∷ 0 ∷ 37 ∷ 0 ∷ 1 ∷ []))
    ∷ []

pub flattening-holds : flattens_to flattening ≡ flat_answers flattening
unfolding flattens_to
flattening-holds = refl
