-- The answers of document 01 that are easily read otherwise, each with the smallest input that shows it, and a claim about each group.
use Rattle.std.specs.Prelude.{ℕ, ◌-◌, ◌^◌, ◌≡◌, refl, List, [], ◌∷◌, ◌++◌, replicate}
use Rattle.reading.specs.Bytes.{ascii}
use Rattle.reading.specs.Answer.{accepted, refused}
use Rattle.session.specs.Session.{read_one, read_all, sort, expression, bind, solution}
use Rattle.vectors.specs.Shown.{refusal, words, call_on, Row, row, expected, Asked, asks, asked, asked_bytes, lending, tells, told, Reported, reported, reports, said_in, in_turn}

-- Where the paper differs from the source.
abbrev pub differences : List Asked
differences =
    -- the least integer
    asked expression "-170141183460469231731687303715884105728" (words (39 ∷ 32 ∷ 0 ∷ 0 ∷ 0 ∷ 2147483648 ∷ []))
    -- a `func` number outside 0 to 64, before the inputs
    ∷ asked sort "(func 65 () Int)" (refusal 12)
    ∷ asked sort "(func 18446744073709551616 () Int)" (refusal 12)
    ∷ asked sort "(func 18446744073709551617 () Int)" (refusal 12)
    ∷ asked sort "(func -1 () Int)" (refusal 12)
    ∷ asked sort "(func 65 (5) Int)" (refusal 12)
    -- no digit behind `#b`, and a character of two bytes
    ∷ asked expression "(lit \"#b\" (BitVec Size3))" (refusal 11)
    ∷ asked_bytes expression (ascii "(lit \"#b" ++ (195 ∷ 169 ∷ []) ++ ascii "\" (BitVec Size3))") (refusal 11)
    -- too many lists, too many bytes, no UTF-8
    ∷ asked_bytes read_one (replicate 65 40 ++ replicate 65 41) (refusal 6)
    ∷ asked_bytes read_one (replicate 32769 97) (refusal 1)
    ∷ asked_bytes read_one (255 ∷ []) (refusal 2)
    -- fresh numbers are handed out
    ∷ asked expression "(exists ((x Int)) x)" (words (51 ∷ 1 ∷ 0 ∷ 0 ∷ 1 ∷ 36 ∷ 0 ∷ 0 ∷ []))
    -- a decimal is a span
    ∷ asked read_one "1.5" (words (19 ∷ 0 ∷ 3 ∷ []))
    ∷ []

pub differences_hold : tells differences ≡ told differences
unfolding tells
differences_hold = refl

-- A refused body leaves no name for the next call, and uses up no number.
abbrev pub refused_first : List Row
refused_first =
    row solution "(lambda ((y Int)) (g y))" (refusal 8)
    ∷ row solution "(lambda () y)" (words (0 ∷ 37 ∷ 11 ∷ 1 ∷ []))
    ∷ row expression "(exists ((x Int)) x)" (words (51 ∷ 1 ∷ 0 ∷ 0 ∷ 1 ∷ 36 ∷ 0 ∷ 0 ∷ []))
    ∷ row expression "(exists ((x Int)) x)" (words (51 ∷ 1 ∷ 1 ∷ 0 ∷ 1 ∷ 36 ∷ 1 ∷ 0 ∷ []))
    ∷ []

pub refused-first-holds : in_turn refused_first 0 ≡ expected refused_first
unfolding in_turn
refused-first-holds = refl

-- Refusals as they are met.
abbrev pub refusals_as_met : List Asked
refusals_as_met =
    -- a missing item is met when it is reached
    asked expression "(if 1.5)" (refusal 9)
    ∷ asked expression "(+ 1.5)" (refusal 9)
    ∷ asked expression "(let (x 1.5))" (refusal 9)
    ∷ asked expression "(lit \"#b2\")" (refusal 11)
    ∷ asked expression "((as apply (func 65 () Int)))" (refusal 12)
    ∷ asked bind "((x (func 65 () Int)))" (refusal 12)
    -- only an exists, a solution, and their binders and parameters are counted first
    ∷ asked expression "(exists ((x (func 65 () Int))))" (refusal 8)
    ∷ asked expression "(exists ((x (func 65 () Int) y)) x)" (refusal 8)
    ∷ asked solution "(lambda ((x (func 65 () Int))))" (refusal 8)
    ∷ asked solution "(lambda ((x (func 65 () Int) y)) x)" (refusal 8)
    -- items that are never read refuse nothing
    ∷ asked expression "(not a 1.5)" (words (44 ∷ 37 ∷ 5 ∷ 1 ∷ []))
    ∷ asked expression "(cast a 1.5)" (words (37 ∷ 6 ∷ 1 ∷ []))
    ∷ asked expression "(- a b 1.5)" (words (40 ∷ 1 ∷ 37 ∷ 3 ∷ 1 ∷ 37 ∷ 5 ∷ 1 ∷ []))
    ∷ asked expression "((as apply Int) f 1.5 ())" (words (38 ∷ 1 ∷ 0 ∷ 1 ∷ 37 ∷ 16 ∷ 1 ∷ []))
    ∷ asked expression "(let (x 1 1.5) x 1.5)" (words (52 ∷ 0 ∷ 0 ∷ 32 ∷ 1 ∷ 0 ∷ 0 ∷ 0 ∷ 36 ∷ 0 ∷ 0 ∷ []))
    ∷ asked solution "(1.5 () x)" (words (0 ∷ 37 ∷ 8 ∷ 1 ∷ []))
    ∷ asked expression "(exists () x y)" (refusal 8)
    ∷ asked solution "(lambda () x y)" (refusal 8)
    -- a symbol as head refuses before the arguments, a list behind them, one without a second item before them
    ∷ asked expression "(f 1.5)" (refusal 8)
    ∷ asked expression "((f g) 1.5)" (refusal 9)
    ∷ asked expression "((f g) a)" (refusal 8)
    ∷ asked expression "((f) 1.5)" (refusal 8)
    ∷ asked expression "(() 1.5)" (refusal 8)
    -- 9 is for a decimal that is read as an expression
    ∷ asked expression "(1.5)" (refusal 8)
    ∷ asked expression "(1.5 x)" (refusal 8)
    ∷ asked expression "(not (1.5))" (refusal 9)
    ∷ asked bind "((x Int) ($k 1.5))" (refusal 8)
    ∷ asked bind "((x Int) 1.5)" (refusal 8)
    ∷ asked bind "((x Int) (1.5))" (refusal 9)
    ∷ asked sort "1.5" (refusal 8)
    ∷ asked expression "(exists ((1.5 Int)) x)" (refusal 8)
    ∷ asked expression "(let (1.5 1) x)" (refusal 8)
    -- 11 comes before the size and its absence, behind the 8 for what is no string with `#b`
    ∷ asked expression "(lit \"#b2\" 5)" (refusal 11)
    ∷ asked expression "(lit \"#x2\")" (refusal 8)
    ∷ asked expression "(lit #b11 (BitVec Size3))" (refusal 8)
    ∷ asked expression "(lit)" (refusal 8)
    -- 12 comes behind its shape, before the inputs, and in order with other sorts
    ∷ asked sort "(func 65 5 Int)" (refusal 8)
    ∷ asked sort "(func 65 ())" (refusal 8)
    ∷ asked sort "(func 65 (5) 5)" (refusal 12)
    ∷ asked sort "(List 5 (func 65 () Int))" (refusal 8)
    ∷ asked sort "(List (func 65 () Int) 5)" (refusal 12)
    ∷ asked sort "(BitVec (func 65 () Int))" (refusal 12)
    -- an exists reads binder by binder, a solution all shapes first; a name comes before its sort
    ∷ asked expression "(exists ((x (func 65 () Int)) y) x)" (refusal 12)
    ∷ asked solution "(lambda ((x (func 65 () Int)) y) x)" (refusal 8)
    ∷ asked expression "(exists ((5 (func 65 () Int))) x)" (refusal 8)
    -- 10 comes behind the body
    ∷ asked expression "(exists ((x Int) (x Int)) 1.5)" (refusal 9)
    ∷ asked expression "(and (exists ((x Int) (x Int)) x) 1.5)" (refusal 10)
    -- 13 comes behind 8 to 12, before 7
    ∷ asks (2 ^ 64 - 1) (call_on expression (ascii "(exists ((x Int)) ())")) (refusal 8)
    ∷ asks (2 ^ 64 - 1) (lending 64 0 0 expression (ascii "(exists ((x Int)) x)")) (refusal 13)
    ∷ asks (2 ^ 64 - 2) (call_on expression (ascii "(exists ((x Int)) x)")) (words (51 ∷ 1 ∷ 4294967294 ∷ 4294967295 ∷ 1 ∷ 36 ∷ 4294967294 ∷ 4294967295 ∷ []))
    -- 7 for the tree comes behind 1 to 6, before 8 to 12; 7 for draft and output come last
    ∷ asks 0 (lending 0 0 0 read_one (ascii "(a")) (refusal 3)
    ∷ asks 0 (lending 0 0 0 expression (ascii "(a")) (refusal 3)
    ∷ asks 0 (lending 0 64 64 expression (ascii "()")) (refusal 7)
    ∷ asks 0 (lending 3 0 0 expression (ascii "()")) (refusal 8)
    ∷ asks 0 (lending 64 0 0 solution (ascii "(lambda ((x Int) (x Int)) x)")) (refusal 10)
    ∷ asks 0 (lending 64 2 64 solution (ascii "(lambda () x)")) (refusal 7)
    ∷ asks 0 (lending 64 3 3 solution (ascii "(lambda () x)")) (refusal 7)
    ∷ asks 0 (lending 12 3 4 solution (ascii "(lambda () x)")) (words (0 ∷ 37 ∷ 11 ∷ 1 ∷ []))
    -- 3 to 6 by their place in the text; nothing nests inside quotes or behind `@`
    ∷ asked read_one "(a \"b" (refusal 5)
    ∷ asked read_all "(a \"b" (refusal 5)
    ∷ asked_bytes read_all (ascii ")" ++ replicate 65 40 ++ replicate 65 41) (refusal 4)
    ∷ asked_bytes read_one (ascii "x" ++ replicate 65 40 ++ replicate 65 41) (words (16 ∷ 0 ∷ 1 ∷ []))
    ∷ asked_bytes read_all (ascii "x" ++ replicate 65 40 ++ replicate 65 41) (refusal 6)
    ∷ asked_bytes read_one (ascii "\"" ++ replicate 65 40 ++ ascii "\"") (words (17 ∷ 1 ∷ 65 ∷ []))
    ∷ asked_bytes read_one (ascii "@" ++ replicate 65 40 ++ ascii ")") (words (16 ∷ 0 ∷ 67 ∷ []))
    -- UTF-8 is judged for the whole text, behind the number of bytes
    ∷ asked_bytes read_one (120 ∷ 32 ∷ 255 ∷ []) (refusal 2)
    ∷ asked_bytes read_one (replicate 32769 255) (refusal 1)
    ∷ []

pub refusals_as_met_hold : tells refusals_as_met ≡ told refusals_as_met
unfolding tells
refusals_as_met_hold = refl

-- At 2^64 - 2 one number is left; what needs none is read on.
abbrev pub one_left : List Row
one_left =
    row expression "(exists ((x Int)) 1)" (words (51 ∷ 1 ∷ 4294967294 ∷ 4294967295 ∷ 1 ∷ 32 ∷ 1 ∷ 0 ∷ 0 ∷ 0 ∷ []))
    ∷ row expression "(exists ((x Int)) 1)" (refusal 13)
    ∷ row expression "(exists () 1)" (words (51 ∷ 0 ∷ 32 ∷ 1 ∷ 0 ∷ 0 ∷ 0 ∷ []))
    ∷ []

pub one-left-holds : in_turn one_left (2 ^ 64 - 2) ≡ expected one_left
unfolding in_turn
one-left-holds = refl

-- Bytes in which there is no expression.
abbrev pub white : List ℕ → Asked
white bytes = asked_bytes read_all bytes (words [])

-- The text reader.
abbrev pub texts : List Asked
texts =
    -- `@` counts only where an expression starts, and takes all up to the next `)`
    asked read_all "a@(0)" (words (16 ∷ 0 ∷ 2 ∷ 21 ∷ 1 ∷ 5 ∷ 18 ∷ 0 ∷ 0 ∷ 0 ∷ 0 ∷ []))
    ∷ asked_bytes read_all (ascii "@ \"(" ++ (10 ∷ []) ++ ascii ")") (words (16 ∷ 0 ∷ 6 ∷ []))
    ∷ asked read_one "@)" (words (16 ∷ 0 ∷ 2 ∷ []))
    -- integers
    ∷ asked read_one "+5" (words (18 ∷ 5 ∷ 0 ∷ 0 ∷ 0 ∷ []))
    ∷ asked read_one "-5" (words (18 ∷ 4294967291 ∷ 4294967295 ∷ 4294967295 ∷ 4294967295 ∷ []))
    ∷ asked read_one "00" (words (18 ∷ 0 ∷ 0 ∷ 0 ∷ 0 ∷ []))
    ∷ asked read_one "-0" (words (18 ∷ 0 ∷ 0 ∷ 0 ∷ 0 ∷ []))
    ∷ asked read_one "170141183460469231731687303715884105727" (words (18 ∷ 4294967295 ∷ 4294967295 ∷ 4294967295 ∷ 2147483647 ∷ []))
    ∷ asked read_one "170141183460469231731687303715884105728" (words (19 ∷ 0 ∷ 39 ∷ []))
    ∷ asked read_one "-170141183460469231731687303715884105728" (words (18 ∷ 0 ∷ 0 ∷ 0 ∷ 2147483648 ∷ []))
    ∷ asked read_one "-170141183460469231731687303715884105729" (words (19 ∷ 0 ∷ 40 ∷ []))
    ∷ asked_bytes read_one (replicate 60 48 ++ ascii "7") (words (18 ∷ 7 ∷ 0 ∷ 0 ∷ 0 ∷ []))
    ∷ asked read_one "+" (words (16 ∷ 0 ∷ 1 ∷ []))
    ∷ asked read_one "-" (words (16 ∷ 0 ∷ 1 ∷ []))
    ∷ asked read_one "--5" (words (16 ∷ 0 ∷ 3 ∷ []))
    ∷ asked read_one "+-5" (words (16 ∷ 0 ∷ 3 ∷ []))
    ∷ asked read_one "1_0" (words (16 ∷ 0 ∷ 3 ∷ []))
    -- the Arabic digit five
    ∷ asked_bytes read_one (217 ∷ 165 ∷ []) (words (16 ∷ 0 ∷ 2 ∷ []))
    -- decimals
    ∷ asked read_one "5." (words (19 ∷ 0 ∷ 2 ∷ []))
    ∷ asked read_one ".5" (words (19 ∷ 0 ∷ 2 ∷ []))
    ∷ asked read_one "+.5e-3" (words (19 ∷ 0 ∷ 6 ∷ []))
    ∷ asked read_one "1E5" (words (19 ∷ 0 ∷ 3 ∷ []))
    ∷ asked_bytes read_one (ascii "1e" ++ replicate 60 57) (words (19 ∷ 0 ∷ 62 ∷ []))
    -- symbols
    ∷ asked read_one "." (words (16 ∷ 0 ∷ 1 ∷ []))
    ∷ asked read_one "e5" (words (16 ∷ 0 ∷ 2 ∷ []))
    ∷ asked read_one ".e5" (words (16 ∷ 0 ∷ 3 ∷ []))
    ∷ asked read_one "1e" (words (16 ∷ 0 ∷ 2 ∷ []))
    ∷ asked read_one "1e+" (words (16 ∷ 0 ∷ 3 ∷ []))
    ∷ asked read_one "1e5." (words (16 ∷ 0 ∷ 4 ∷ []))
    ∷ asked read_one "1.2.3" (words (16 ∷ 0 ∷ 5 ∷ []))
    ∷ asked read_one "iNf" (words (16 ∷ 0 ∷ 3 ∷ []))
    ∷ asked read_one "-NaN" (words (16 ∷ 0 ∷ 4 ∷ []))
    ∷ asked read_one "+Infinity" (words (16 ∷ 0 ∷ 9 ∷ []))
    ∷ asked read_one "infinityx" (words (16 ∷ 0 ∷ 9 ∷ []))
    ∷ asked read_one "infinit" (words (16 ∷ 0 ∷ 7 ∷ []))
    ∷ asked read_one "0x1" (words (16 ∷ 0 ∷ 3 ∷ []))
    -- white space: 9 to 13, 32, U+0085, U+00A0, U+1680, U+2000 to U+200A, U+2028, U+2029, U+202F, U+205F, U+3000
    ∷ white (9 ∷ [])
    ∷ white (10 ∷ [])
    ∷ white (11 ∷ [])
    ∷ white (12 ∷ [])
    ∷ white (13 ∷ [])
    ∷ white (32 ∷ [])
    ∷ white (194 ∷ 133 ∷ [])
    ∷ white (194 ∷ 160 ∷ [])
    ∷ white (225 ∷ 154 ∷ 128 ∷ [])
    ∷ white (226 ∷ 128 ∷ 128 ∷ [])
    ∷ white (226 ∷ 128 ∷ 129 ∷ [])
    ∷ white (226 ∷ 128 ∷ 130 ∷ [])
    ∷ white (226 ∷ 128 ∷ 131 ∷ [])
    ∷ white (226 ∷ 128 ∷ 132 ∷ [])
    ∷ white (226 ∷ 128 ∷ 133 ∷ [])
    ∷ white (226 ∷ 128 ∷ 134 ∷ [])
    ∷ white (226 ∷ 128 ∷ 135 ∷ [])
    ∷ white (226 ∷ 128 ∷ 136 ∷ [])
    ∷ white (226 ∷ 128 ∷ 137 ∷ [])
    ∷ white (226 ∷ 128 ∷ 138 ∷ [])
    ∷ white (226 ∷ 128 ∷ 168 ∷ [])
    ∷ white (226 ∷ 128 ∷ 169 ∷ [])
    ∷ white (226 ∷ 128 ∷ 175 ∷ [])
    ∷ white (226 ∷ 129 ∷ 159 ∷ [])
    ∷ white (227 ∷ 128 ∷ 128 ∷ [])
    -- no white space: U+001C to U+001F, U+180E, U+200B, U+2060, U+FEFF
    ∷ asked_bytes read_all (28 ∷ 29 ∷ 30 ∷ 31 ∷ []) (words (16 ∷ 0 ∷ 4 ∷ []))
    ∷ asked_bytes read_all (225 ∷ 160 ∷ 142 ∷ []) (words (16 ∷ 0 ∷ 3 ∷ []))
    ∷ asked_bytes read_all (226 ∷ 128 ∷ 139 ∷ []) (words (16 ∷ 0 ∷ 3 ∷ []))
    ∷ asked_bytes read_all (226 ∷ 129 ∷ 160 ∷ []) (words (16 ∷ 0 ∷ 3 ∷ []))
    ∷ asked_bytes read_all (239 ∷ 187 ∷ 191 ∷ []) (words (16 ∷ 0 ∷ 3 ∷ []))
    -- a byte order mark is a symbol, and so no solution
    ∷ asked_bytes solution ((239 ∷ 187 ∷ 191 ∷ []) ++ ascii "(lambda () x)") (refusal 8)
    -- booleans have small letters; an atom ends at `"` and at `(`
    ∷ asked read_one "true" (words (20 ∷ 1 ∷ []))
    ∷ asked read_one "false" (words (20 ∷ 0 ∷ []))
    ∷ asked read_one "True" (words (16 ∷ 0 ∷ 4 ∷ []))
    ∷ asked read_one "TRUE" (words (16 ∷ 0 ∷ 4 ∷ []))
    ∷ asked read_all "a\"b\"" (words (16 ∷ 0 ∷ 1 ∷ 17 ∷ 2 ∷ 1 ∷ []))
    ∷ asked read_all "-(a)" (words (16 ∷ 0 ∷ 1 ∷ 21 ∷ 1 ∷ 3 ∷ 16 ∷ 2 ∷ 1 ∷ []))
    ∷ []

pub texts_hold : tells texts ≡ told texts
unfolding tells
texts_hold = refl

-- Reported numbers: read one counts from the start of the text and stops before what follows; only read all accepts a text of white space.
abbrev pub numbers : List Reported
numbers =
    reported read_one "  (a) b" (accepted 6 5)
    ∷ reported read_all "  (a) b" (accepted 2 9)
    ∷ reported read_all "" (accepted 0 0)
    ∷ reported read_all "  " (accepted 0 0)
    ∷ reported read_one "  " (refused 3)
    ∷ reported sort "  " (refused 3)
    ∷ reported expression "  " (refused 3)
    ∷ reported bind "  " (refused 3)
    ∷ reported solution "  " (refused 3)
    -- 13 words of tree for four bytes
    ∷ reported read_all "1(1)1(1)" (accepted 4 26)
    ∷ []

pub numbers_hold : reports numbers ≡ said_in numbers
unfolding reports
numbers_hold = refl
