-- The answers of request C-11 that are easily read otherwise, each with the smallest words that show it, and a claim about each group.
use Rattle.std.specs.Prelude.{◌≡◌, refl, List, [], ◌∷◌}
use Rattle.smtrows.specs.Shown.{refusal, bytes, Row, on, onto, answers, expected}

-- The whole solution is judged first: 14 and 6 as met, then 14 for words left over; only then 15 and 16.
abbrev pub judged_first : List Row
judged_first =
    on (0 ∷ 37 ∷ 0 ∷ 1 ∷ 0 ∷ []) "|" (refusal 14)
    ∷ on (1 ∷ 0 ∷ 0 ∷ 6 ∷ 1 ∷ 31 ∷ []) "" (refusal 14)
    ∷ on (0 ∷ 42 ∷ 2 ∷ 49 ∷ 0 ∷ []) "" (refusal 14)
    ∷ []

pub judged_first_hold : answers judged_first ≡ expected judged_first
unfolding answers
judged_first_hold = refl

-- A span outside the text is 14 at its place, also in an output sort; one inside ends at most at the end of the text.
abbrev pub spans : List Row
spans =
    on (0 ∷ 42 ∷ 2 ∷ 37 ∷ 0 ∷ 1 ∷ 37 ∷ 1 ∷ 1 ∷ []) "|" (refusal 14)
    ∷ on (0 ∷ 38 ∷ 1 ∷ 0 ∷ 10 ∷ 2 ∷ 1 ∷ 0 ∷ 0 ∷ 33 ∷ 1 ∷ []) "" (refusal 14)
    ∷ on (0 ∷ 37 ∷ 1 ∷ 0 ∷ []) "x" (bytes "() |n |")
    ∷ on (0 ∷ 37 ∷ 2 ∷ 0 ∷ []) "x" (refusal 14)
    ∷ on (0 ∷ 37 ∷ 0 ∷ 0 ∷ []) "" (bytes "() |n |")
    ∷ on (0 ∷ 37 ∷ 1 ∷ 4294967295 ∷ []) "x" (refusal 14)
    ∷ []

pub spans_hold : answers spans ≡ expected spans
unfolding answers
spans_hold = refl

-- A count, for each parameter two words and a sort, then the body.
abbrev pub headers : List Row
headers =
    on [] "" (refusal 14)
    ∷ on (0 ∷ []) "" (refusal 14)
    ∷ on (33 ∷ 1 ∷ []) "" (refusal 14)
    ∷ on (1 ∷ 33 ∷ 1 ∷ []) "" (refusal 14)
    ∷ on (4294967295 ∷ 0 ∷ 0 ∷ 1 ∷ 33 ∷ 1 ∷ []) "" (refusal 14)
    ∷ []

pub headers_hold : answers headers ≡ expected headers
unfolding answers
headers_hold = refl

-- 15 and 16 by the place of the word that is at fault: parameters, then the body; arguments before the head; a name before what stands behind it.
abbrev pub in_order : List Row
in_order =
    on (0 ∷ 42 ∷ 2 ∷ 37 ∷ 0 ∷ 1 ∷ 49 ∷ 0 ∷ []) "|" (refusal 16)
    ∷ on (0 ∷ 42 ∷ 2 ∷ 49 ∷ 0 ∷ 37 ∷ 0 ∷ 1 ∷ []) "|" (refusal 15)
    ∷ on (1 ∷ 0 ∷ 0 ∷ 6 ∷ 1 ∷ 37 ∷ 0 ∷ 1 ∷ []) "|" (refusal 15)
    ∷ on (0 ∷ 48 ∷ 0 ∷ 1 ∷ 49 ∷ 0 ∷ 33 ∷ 1 ∷ []) "|" (refusal 16)
    ∷ on (0 ∷ 48 ∷ 0 ∷ 1 ∷ 49 ∷ 0 ∷ 37 ∷ 1 ∷ 1 ∷ []) "x|" (refusal 15)
    ∷ on (0 ∷ 50 ∷ 0 ∷ 1 ∷ 49 ∷ 0 ∷ []) "|" (refusal 16)
    ∷ []

pub in_order_hold : answers in_order ≡ expected in_order
unfolding answers
in_order_hold = refl

-- 7 is last.
abbrev pub no_room : List Row
no_room =
    onto 0 (0 ∷ 49 ∷ 0 ∷ []) "" (refusal 15)
    ∷ onto 3 (0 ∷ 42 ∷ 2 ∷ 33 ∷ 1 ∷ 37 ∷ 0 ∷ 1 ∷ []) "|" (refusal 16)
    ∷ onto 6 (0 ∷ 33 ∷ 1 ∷ []) "" (refusal 7)
    ∷ onto 7 (0 ∷ 33 ∷ 1 ∷ []) "" (bytes "() true")
    ∷ []

pub no_room_hold : answers no_room ≡ expected no_room
unfolding answers
no_room_hold = refl

-- The list, one space, the term. A numeral has 128 bits and no sign; a fresh number has 64 bits.
abbrev pub forms : List Row
forms =
    on (0 ∷ 33 ∷ 1 ∷ []) "" (bytes "() true")
    ∷ on (1 ∷ 0 ∷ 0 ∷ 1 ∷ 47 ∷ 4 ∷ 36 ∷ 0 ∷ 0 ∷ 32 ∷ 5 ∷ 0 ∷ 0 ∷ 0 ∷ []) "" (bytes "((|v 0| Int)) (< |v 0| 5)")
    ∷ on (0 ∷ 32 ∷ 0 ∷ 0 ∷ 0 ∷ 2147483648 ∷ []) "" (bytes "() 170141183460469231731687303715884105728")
    ∷ on (0 ∷ 32 ∷ 4294967295 ∷ 4294967295 ∷ 4294967295 ∷ 4294967295 ∷ []) "" (bytes "() 340282366920938463463374607431768211455")
    ∷ on (0 ∷ 32 ∷ 0 ∷ 0 ∷ 0 ∷ 0 ∷ []) "" (bytes "() 0")
    ∷ on (0 ∷ 39 ∷ 32 ∷ 5 ∷ 0 ∷ 0 ∷ 0 ∷ []) "" (bytes "() (- 5)")
    ∷ on (0 ∷ 36 ∷ 0 ∷ 1 ∷ []) "" (bytes "() |v 4294967296|")
    ∷ on (0 ∷ 36 ∷ 4294967295 ∷ 4294967295 ∷ []) "" (bytes "() |v 18446744073709551615|")
    ∷ on (0 ∷ 51 ∷ 2 ∷ 4 ∷ 0 ∷ 1 ∷ 4 ∷ 0 ∷ 2 ∷ 36 ∷ 4 ∷ 0 ∷ []) "" (bytes "() (exists ((|v 4| Int) (|v 4| Bool)) |v 4|)")
    ∷ []

pub forms_hold : answers forms ≡ expected forms
unfolding answers
forms_hold = refl

-- Every name stands in bars behind its letter, and so meets no other symbol.
abbrev pub names : List Row
names =
    on (0 ∷ 37 ∷ 0 ∷ 3 ∷ []) "v 3" (bytes "() |n v 3|")
    ∷ on (0 ∷ 37 ∷ 0 ∷ 4 ∷ []) "true" (bytes "() |n true|")
    ∷ on (0 ∷ 37 ∷ 0 ∷ 0 ∷ []) "" (bytes "() |n |")
    ∷ on (0 ∷ 37 ∷ 0 ∷ 3 ∷ []) "x y" (bytes "() |n x y|")
    ∷ []

pub names_hold : answers names ≡ expected names
unfolding answers
names_hold = refl

-- Every operator and every relation.
abbrev pub operators : List Row
operators =
    on (0 ∷ 40 ∷ 0 ∷ 32 ∷ 1 ∷ 0 ∷ 0 ∷ 0 ∷ 32 ∷ 2 ∷ 0 ∷ 0 ∷ 0 ∷ []) "" (bytes "() (+ 1 2)")
    ∷ on (0 ∷ 40 ∷ 1 ∷ 32 ∷ 1 ∷ 0 ∷ 0 ∷ 0 ∷ 32 ∷ 2 ∷ 0 ∷ 0 ∷ 0 ∷ []) "" (bytes "() (- 1 2)")
    ∷ on (0 ∷ 40 ∷ 2 ∷ 32 ∷ 1 ∷ 0 ∷ 0 ∷ 0 ∷ 32 ∷ 2 ∷ 0 ∷ 0 ∷ 0 ∷ []) "" (bytes "() (* 1 2)")
    ∷ on (0 ∷ 40 ∷ 3 ∷ 32 ∷ 1 ∷ 0 ∷ 0 ∷ 0 ∷ 32 ∷ 2 ∷ 0 ∷ 0 ∷ 0 ∷ []) "" (bytes "() (div 1 2)")
    ∷ on (0 ∷ 40 ∷ 4 ∷ 32 ∷ 1 ∷ 0 ∷ 0 ∷ 0 ∷ 32 ∷ 2 ∷ 0 ∷ 0 ∷ 0 ∷ []) "" (bytes "() (mod 1 2)")
    ∷ on (0 ∷ 47 ∷ 0 ∷ 33 ∷ 1 ∷ 33 ∷ 0 ∷ []) "" (bytes "() (= true false)")
    ∷ on (0 ∷ 47 ∷ 1 ∷ 33 ∷ 1 ∷ 33 ∷ 0 ∷ []) "" (bytes "() (distinct true false)")
    ∷ on (0 ∷ 47 ∷ 2 ∷ 33 ∷ 1 ∷ 33 ∷ 0 ∷ []) "" (bytes "() (> true false)")
    ∷ on (0 ∷ 47 ∷ 3 ∷ 33 ∷ 1 ∷ 33 ∷ 0 ∷ []) "" (bytes "() (>= true false)")
    ∷ on (0 ∷ 47 ∷ 4 ∷ 33 ∷ 1 ∷ 33 ∷ 0 ∷ []) "" (bytes "() (< true false)")
    ∷ on (0 ∷ 47 ∷ 5 ∷ 33 ∷ 1 ∷ 33 ∷ 0 ∷ []) "" (bytes "() (<= true false)")
    ∷ on (0 ∷ 46 ∷ 33 ∷ 1 ∷ 33 ∷ 0 ∷ []) "" (bytes "() (= true false)")
    ∷ on (0 ∷ 45 ∷ 33 ∷ 1 ∷ 33 ∷ 0 ∷ []) "" (bytes "() (=> true false)")
    ∷ on (0 ∷ 44 ∷ 33 ∷ 1 ∷ []) "" (bytes "() (not true)")
    ∷ on (0 ∷ 41 ∷ 33 ∷ 1 ∷ 32 ∷ 1 ∷ 0 ∷ 0 ∷ 0 ∷ 32 ∷ 2 ∷ 0 ∷ 0 ∷ 0 ∷ []) "" (bytes "() (ite true 1 2)")
    ∷ []

pub operators_hold : answers operators ≡ expected operators
unfolding answers
operators_hold = refl

-- And and Or of none, one and more, at every depth and never merged; an exists of none is its body.
abbrev pub folded : List Row
folded =
    on (0 ∷ 42 ∷ 0 ∷ []) "" (bytes "() true")
    ∷ on (0 ∷ 43 ∷ 0 ∷ []) "" (bytes "() false")
    ∷ on (0 ∷ 42 ∷ 1 ∷ 43 ∷ 0 ∷ []) "" (bytes "() false")
    ∷ on (0 ∷ 43 ∷ 1 ∷ 42 ∷ 1 ∷ 32 ∷ 7 ∷ 0 ∷ 0 ∷ 0 ∷ []) "" (bytes "() 7")
    ∷ on (0 ∷ 42 ∷ 2 ∷ 42 ∷ 0 ∷ 43 ∷ 1 ∷ 33 ∷ 1 ∷ []) "" (bytes "() (and true true)")
    ∷ on (0 ∷ 42 ∷ 2 ∷ 42 ∷ 2 ∷ 33 ∷ 1 ∷ 33 ∷ 1 ∷ 33 ∷ 0 ∷ []) "" (bytes "() (and (and true true) false)")
    ∷ on (0 ∷ 43 ∷ 3 ∷ 33 ∷ 1 ∷ 33 ∷ 0 ∷ 33 ∷ 1 ∷ []) "" (bytes "() (or true false true)")
    ∷ on (0 ∷ 44 ∷ 51 ∷ 0 ∷ 33 ∷ 1 ∷ []) "" (bytes "() (not true)")
    ∷ on (0 ∷ 51 ∷ 1 ∷ 1 ∷ 0 ∷ 1 ∷ 51 ∷ 1 ∷ 2 ∷ 0 ∷ 2 ∷ 33 ∷ 1 ∷ []) "" (bytes "() (exists ((|v 1| Int)) (exists ((|v 2| Bool)) true))")
    ∷ []

pub folded_hold : answers folded ≡ expected folded
unfolding answers
folded_hold = refl

-- A let of a name, a constructor test, strings.
abbrev pub others : List Row
others =
    on (0 ∷ 48 ∷ 0 ∷ 1 ∷ 32 ∷ 1 ∷ 0 ∷ 0 ∷ 0 ∷ 47 ∷ 4 ∷ 37 ∷ 0 ∷ 1 ∷ 32 ∷ 2 ∷ 0 ∷ 0 ∷ 0 ∷ []) "x" (bytes "() (let ((|n x| 1)) (< |n x| 2))")
    ∷ on (1 ∷ 0 ∷ 0 ∷ 1 ∷ 48 ∷ 0 ∷ 1 ∷ 32 ∷ 1 ∷ 0 ∷ 0 ∷ 0 ∷ 47 ∷ 4 ∷ 36 ∷ 0 ∷ 0 ∷ 32 ∷ 2 ∷ 0 ∷ 0 ∷ 0 ∷ []) "x" (bytes "((|v 0| Int)) (let ((|n x| 1)) (< |v 0| 2))")
    ∷ on (0 ∷ 50 ∷ 0 ∷ 4 ∷ 33 ∷ 1 ∷ []) "Cons" (bytes "() ((_ is |n Cons|) true)")
    ∷ on (0 ∷ 50 ∷ 0 ∷ 0 ∷ 37 ∷ 0 ∷ 1 ∷ []) "l" (bytes "() ((_ is |n |) |n l|)")
    ∷ on (0 ∷ 34 ∷ 0 ∷ 3 ∷ []) "a;b" (bytes "() \"a;b\"")
    ∷ on (0 ∷ 34 ∷ 0 ∷ 0 ∷ []) "" (bytes "() \"\"")
    ∷ []

pub others_hold : answers others ≡ expected others
unfolding answers
others_hold = refl

-- A let of a fresh number: the number may be any, also one that is bound already; binding and body are written where they stand.
abbrev pub fresh_lets : List Row
fresh_lets =
    on (1 ∷ 0 ∷ 0 ∷ 1 ∷ 52 ∷ 1 ∷ 0 ∷ 32 ∷ 1 ∷ 0 ∷ 0 ∷ 0 ∷ 47 ∷ 4 ∷ 36 ∷ 1 ∷ 0 ∷ 32 ∷ 2 ∷ 0 ∷ 0 ∷ 0 ∷ []) "" (bytes "((|v 0| Int)) (let ((|v 1| 1)) (< |v 1| 2))")
    ∷ on (0 ∷ 52 ∷ 0 ∷ 1 ∷ 33 ∷ 1 ∷ 36 ∷ 0 ∷ 1 ∷ []) "" (bytes "() (let ((|v 4294967296| true)) |v 4294967296|)")
    ∷ on (0 ∷ 52 ∷ 4294967295 ∷ 4294967295 ∷ 33 ∷ 1 ∷ 33 ∷ 0 ∷ []) "" (bytes "() (let ((|v 18446744073709551615| true)) false)")
    ∷ on (0 ∷ 52 ∷ 3 ∷ 0 ∷ 36 ∷ 3 ∷ 0 ∷ 36 ∷ 3 ∷ 0 ∷ []) "" (bytes "() (let ((|v 3| |v 3|)) |v 3|)")
    ∷ on (0 ∷ 52 ∷ 2 ∷ 0 ∷ 52 ∷ 1 ∷ 0 ∷ 33 ∷ 1 ∷ 36 ∷ 1 ∷ 0 ∷ 36 ∷ 2 ∷ 0 ∷ []) "" (bytes "() (let ((|v 2| (let ((|v 1| true)) |v 1|))) |v 2|)")
    ∷ on (0 ∷ 52 ∷ 1 ∷ 0 ∷ 33 ∷ 1 ∷ 52 ∷ 1 ∷ 0 ∷ 36 ∷ 1 ∷ 0 ∷ 36 ∷ 1 ∷ 0 ∷ []) "" (bytes "() (let ((|v 1| true)) (let ((|v 1| |v 1|)) |v 1|))")
    ∷ on (0 ∷ 48 ∷ 0 ∷ 1 ∷ 33 ∷ 1 ∷ 52 ∷ 1 ∷ 0 ∷ 37 ∷ 0 ∷ 1 ∷ 36 ∷ 1 ∷ 0 ∷ []) "x" (bytes "() (let ((|n x| true)) (let ((|v 1| |n x|)) |v 1|))")
    ∷ on (0 ∷ 51 ∷ 0 ∷ 42 ∷ 1 ∷ 52 ∷ 1 ∷ 0 ∷ 33 ∷ 1 ∷ 36 ∷ 1 ∷ 0 ∷ []) "" (bytes "() (let ((|v 1| true)) |v 1|)")
    ∷ on (0 ∷ 38 ∷ 0 ∷ 0 ∷ 52 ∷ 1 ∷ 0 ∷ 37 ∷ 0 ∷ 1 ∷ 36 ∷ 1 ∷ 0 ∷ []) "f" (bytes "() (let ((|v 1| |n f|)) |v 1|)")
    ∷ on (0 ∷ 52 ∷ 1 ∷ 0 ∷ 37 ∷ 0 ∷ 1 ∷ 38 ∷ 0 ∷ 1 ∷ 33 ∷ 1 ∷ 36 ∷ 1 ∷ 0 ∷ []) "f" (bytes "() (let ((|v 1| |n f|)) (|v 1| true))")
    ∷ on (0 ∷ 38 ∷ 0 ∷ 1 ∷ 33 ∷ 1 ∷ 52 ∷ 1 ∷ 0 ∷ 37 ∷ 0 ∷ 1 ∷ 36 ∷ 1 ∷ 0 ∷ []) "|" (refusal 15)
    ∷ on (0 ∷ 52 ∷ 1 ∷ 0 ∷ 37 ∷ 0 ∷ 1 ∷ 49 ∷ 0 ∷ []) "|" (refusal 16)
    ∷ on (0 ∷ 52 ∷ 1 ∷ 0 ∷ 49 ∷ 0 ∷ 37 ∷ 0 ∷ 1 ∷ []) "|" (refusal 15)
    ∷ on (0 ∷ 52 ∷ 3 ∷ []) "" (refusal 14)
    ∷ on (0 ∷ 52 ∷ 3 ∷ 0 ∷ 33 ∷ 1 ∷ []) "" (refusal 14)
    ∷ onto 28 (0 ∷ 52 ∷ 3 ∷ 0 ∷ 33 ∷ 1 ∷ 36 ∷ 3 ∷ 0 ∷ []) "" (refusal 7)
    ∷ onto 29 (0 ∷ 52 ∷ 3 ∷ 0 ∷ 33 ∷ 1 ∷ 36 ∷ 3 ∷ 0 ∷ []) "" (bytes "() (let ((|v 3| true)) |v 3|)")
    ∷ []

pub fresh_lets_hold : answers fresh_lets ≡ expected fresh_lets
unfolding answers
fresh_lets_hold = refl

-- 16 for these bytes in names and in strings; only the bytes of the span count.
abbrev pub unprintables : List Row
unprintables =
    on (0 ∷ 37 ∷ 0 ∷ 1 ∷ []) "|" (refusal 16)
    ∷ on (0 ∷ 37 ∷ 0 ∷ 1 ∷ []) "\"" (refusal 16)
    ∷ on (0 ∷ 37 ∷ 0 ∷ 1 ∷ []) "\\" (refusal 16)
    ∷ on (0 ∷ 34 ∷ 0 ∷ 1 ∷ []) "|" (refusal 16)
    ∷ on (0 ∷ 34 ∷ 0 ∷ 1 ∷ []) "\"" (refusal 16)
    ∷ on (0 ∷ 34 ∷ 0 ∷ 1 ∷ []) "\\" (refusal 16)
    ∷ on (0 ∷ 37 ∷ 1 ∷ 1 ∷ []) "|x\"" (bytes "() |n x|")
    ∷ on (0 ∷ 37 ∷ 0 ∷ 2 ∷ []) " ~" (bytes "() |n  ~|")
    ∷ []

pub unprintables_hold : answers unprintables ≡ expected unprintables
unfolding answers
unprintables_hold = refl

-- Neither sorts nor numbers of arguments are judged.
abbrev pub not_judged : List Row
not_judged =
    on (0 ∷ 44 ∷ 32 ∷ 5 ∷ 0 ∷ 0 ∷ 0 ∷ []) "" (bytes "() (not 5)")
    ∷ on (0 ∷ 38 ∷ 0 ∷ 1 ∷ 32 ∷ 1 ∷ 0 ∷ 0 ∷ 0 ∷ 49 ∷ 27 ∷ []) "" (bytes "() (bvadd 1)")
    ∷ []

pub not_judged_hold : answers not_judged ≡ expected not_judged
unfolding answers
not_judged_hold = refl

-- The head stands first, the output sort is skipped; without arguments it is its head, whatever that is.
abbrev pub applications : List Row
applications =
    on (0 ∷ 38 ∷ 0 ∷ 1 ∷ 32 ∷ 1 ∷ 0 ∷ 0 ∷ 0 ∷ 37 ∷ 0 ∷ 1 ∷ []) "f" (bytes "() (|n f| 1)")
    ∷ on (0 ∷ 38 ∷ 0 ∷ 1 ∷ 33 ∷ 1 ∷ 36 ∷ 9 ∷ 0 ∷ []) "" (bytes "() (|v 9| true)")
    ∷ on (0 ∷ 38 ∷ 1 ∷ 1 ∷ 33 ∷ 1 ∷ 6 ∷ 0 ∷ 37 ∷ 0 ∷ 1 ∷ []) "f" (bytes "() (|n f| true)")
    ∷ on (0 ∷ 38 ∷ 1 ∷ 1 ∷ 33 ∷ 1 ∷ 10 ∷ 2 ∷ 1 ∷ 1 ∷ 0 ∷ 37 ∷ 0 ∷ 1 ∷ []) "f|" (bytes "() (|n f| true)")
    ∷ on (0 ∷ 38 ∷ 0 ∷ 0 ∷ 32 ∷ 5 ∷ 0 ∷ 0 ∷ 0 ∷ []) "" (bytes "() 5")
    ∷ on (0 ∷ 38 ∷ 1 ∷ 0 ∷ 1 ∷ 38 ∷ 0 ∷ 0 ∷ 42 ∷ 0 ∷ []) "" (bytes "() true")
    ∷ on (0 ∷ 38 ∷ 1 ∷ 0 ∷ 1 ∷ 42 ∷ 2 ∷ 37 ∷ 0 ∷ 1 ∷ 37 ∷ 1 ∷ 1 ∷ []) "xy" (bytes "() (and |n x| |n y|)")
    ∷ []

pub applications_hold : answers applications ≡ expected applications
unfolding answers
applications_hold = refl

-- With arguments the head is a variable or a bit-vector function, by its own kind; its 15 stands behind the arguments and before what is inside it.
abbrev pub heads : List Row
heads =
    on (0 ∷ 38 ∷ 0 ∷ 1 ∷ 33 ∷ 1 ∷ 42 ∷ 1 ∷ 37 ∷ 0 ∷ 1 ∷ []) "f" (refusal 15)
    ∷ on (0 ∷ 38 ∷ 0 ∷ 1 ∷ 33 ∷ 1 ∷ 38 ∷ 0 ∷ 0 ∷ 37 ∷ 0 ∷ 1 ∷ []) "f" (refusal 15)
    ∷ on (0 ∷ 38 ∷ 0 ∷ 1 ∷ 33 ∷ 1 ∷ 51 ∷ 0 ∷ 37 ∷ 0 ∷ 1 ∷ []) "f" (refusal 15)
    ∷ on (0 ∷ 38 ∷ 0 ∷ 1 ∷ 37 ∷ 0 ∷ 1 ∷ 32 ∷ 5 ∷ 0 ∷ 0 ∷ 0 ∷ []) "x" (refusal 15)
    ∷ on (0 ∷ 38 ∷ 0 ∷ 1 ∷ 37 ∷ 0 ∷ 1 ∷ 32 ∷ 5 ∷ 0 ∷ 0 ∷ 0 ∷ []) "|" (refusal 16)
    ∷ on (0 ∷ 38 ∷ 0 ∷ 1 ∷ 33 ∷ 1 ∷ 34 ∷ 0 ∷ 1 ∷ []) "|" (refusal 15)
    ∷ on (0 ∷ 38 ∷ 0 ∷ 0 ∷ 34 ∷ 0 ∷ 1 ∷ []) "|" (refusal 16)
    ∷ []

pub heads_hold : answers heads ≡ expected heads
unfolding answers
heads_hold = refl

-- The theory functions 9 to 31 are written as heads only; all others are 15 everywhere.
abbrev pub functions : List Row
functions =
    on (0 ∷ 38 ∷ 0 ∷ 1 ∷ 33 ∷ 1 ∷ 49 ∷ 9 ∷ []) "" (bytes "() (bvule true)")
    ∷ on (0 ∷ 38 ∷ 0 ∷ 1 ∷ 33 ∷ 1 ∷ 49 ∷ 10 ∷ []) "" (bytes "() (bvsle true)")
    ∷ on (0 ∷ 38 ∷ 0 ∷ 1 ∷ 33 ∷ 1 ∷ 49 ∷ 11 ∷ []) "" (bytes "() (bvuge true)")
    ∷ on (0 ∷ 38 ∷ 0 ∷ 1 ∷ 33 ∷ 1 ∷ 49 ∷ 12 ∷ []) "" (bytes "() (bvsge true)")
    ∷ on (0 ∷ 38 ∷ 0 ∷ 1 ∷ 33 ∷ 1 ∷ 49 ∷ 13 ∷ []) "" (bytes "() (bvugt true)")
    ∷ on (0 ∷ 38 ∷ 0 ∷ 1 ∷ 33 ∷ 1 ∷ 49 ∷ 14 ∷ []) "" (bytes "() (bvsgt true)")
    ∷ on (0 ∷ 38 ∷ 0 ∷ 1 ∷ 33 ∷ 1 ∷ 49 ∷ 15 ∷ []) "" (bytes "() (bvult true)")
    ∷ on (0 ∷ 38 ∷ 0 ∷ 1 ∷ 33 ∷ 1 ∷ 49 ∷ 16 ∷ []) "" (bytes "() (bvslt true)")
    ∷ on (0 ∷ 38 ∷ 0 ∷ 1 ∷ 33 ∷ 1 ∷ 49 ∷ 17 ∷ []) "" (bytes "() (bvudiv true)")
    ∷ on (0 ∷ 38 ∷ 0 ∷ 1 ∷ 33 ∷ 1 ∷ 49 ∷ 18 ∷ []) "" (bytes "() (bvsdiv true)")
    ∷ on (0 ∷ 38 ∷ 0 ∷ 1 ∷ 33 ∷ 1 ∷ 49 ∷ 19 ∷ []) "" (bytes "() (bvurem true)")
    ∷ on (0 ∷ 38 ∷ 0 ∷ 1 ∷ 33 ∷ 1 ∷ 49 ∷ 20 ∷ []) "" (bytes "() (bvsrem true)")
    ∷ on (0 ∷ 38 ∷ 0 ∷ 1 ∷ 33 ∷ 1 ∷ 49 ∷ 21 ∷ []) "" (bytes "() (bvlshr true)")
    ∷ on (0 ∷ 38 ∷ 0 ∷ 1 ∷ 33 ∷ 1 ∷ 49 ∷ 22 ∷ []) "" (bytes "() (bvashr true)")
    ∷ on (0 ∷ 38 ∷ 0 ∷ 1 ∷ 33 ∷ 1 ∷ 49 ∷ 23 ∷ []) "" (bytes "() (bvand true)")
    ∷ on (0 ∷ 38 ∷ 0 ∷ 1 ∷ 33 ∷ 1 ∷ 49 ∷ 24 ∷ []) "" (bytes "() (bvor true)")
    ∷ on (0 ∷ 38 ∷ 0 ∷ 1 ∷ 33 ∷ 1 ∷ 49 ∷ 25 ∷ []) "" (bytes "() (bvxor true)")
    ∷ on (0 ∷ 38 ∷ 0 ∷ 1 ∷ 33 ∷ 1 ∷ 49 ∷ 26 ∷ []) "" (bytes "() (bvnot true)")
    ∷ on (0 ∷ 38 ∷ 0 ∷ 1 ∷ 33 ∷ 1 ∷ 49 ∷ 27 ∷ []) "" (bytes "() (bvadd true)")
    ∷ on (0 ∷ 38 ∷ 0 ∷ 1 ∷ 33 ∷ 1 ∷ 49 ∷ 28 ∷ []) "" (bytes "() (bvneg true)")
    ∷ on (0 ∷ 38 ∷ 0 ∷ 1 ∷ 33 ∷ 1 ∷ 49 ∷ 29 ∷ []) "" (bytes "() (bvsub true)")
    ∷ on (0 ∷ 38 ∷ 0 ∷ 1 ∷ 33 ∷ 1 ∷ 49 ∷ 30 ∷ []) "" (bytes "() (bvmul true)")
    ∷ on (0 ∷ 38 ∷ 0 ∷ 1 ∷ 33 ∷ 1 ∷ 49 ∷ 31 ∷ []) "" (bytes "() (bvshl true)")
    ∷ on (0 ∷ 49 ∷ 27 ∷ []) "" (refusal 15)
    ∷ on (0 ∷ 38 ∷ 0 ∷ 0 ∷ 49 ∷ 27 ∷ []) "" (refusal 15)
    ∷ on (0 ∷ 38 ∷ 0 ∷ 1 ∷ 49 ∷ 27 ∷ 37 ∷ 0 ∷ 1 ∷ []) "f" (refusal 15)
    ∷ on (0 ∷ 38 ∷ 0 ∷ 1 ∷ 33 ∷ 1 ∷ 49 ∷ 0 ∷ []) "" (refusal 15)
    ∷ on (0 ∷ 38 ∷ 0 ∷ 1 ∷ 33 ∷ 1 ∷ 49 ∷ 1 ∷ []) "" (refusal 15)
    ∷ on (0 ∷ 38 ∷ 0 ∷ 1 ∷ 33 ∷ 1 ∷ 49 ∷ 8 ∷ []) "" (refusal 15)
    ∷ on (0 ∷ 38 ∷ 0 ∷ 1 ∷ 33 ∷ 1 ∷ 49 ∷ 32 ∷ []) "" (refusal 15)
    ∷ on (0 ∷ 38 ∷ 0 ∷ 1 ∷ 33 ∷ 1 ∷ 49 ∷ 38 ∷ []) "" (refusal 15)
    ∷ on (0 ∷ 38 ∷ 0 ∷ 1 ∷ 33 ∷ 1 ∷ 49 ∷ 39 ∷ []) "" (refusal 15)
    ∷ on (0 ∷ 38 ∷ 0 ∷ 1 ∷ 33 ∷ 1 ∷ 49 ∷ 41 ∷ []) "" (refusal 15)
    ∷ on (0 ∷ 49 ∷ 0 ∷ []) "" (refusal 15)
    ∷ on (0 ∷ 49 ∷ 41 ∷ []) "" (refusal 15)
    ∷ on (0 ∷ 49 ∷ 42 ∷ []) "" (refusal 14)
    ∷ []

pub functions_hold : answers functions ≡ expected functions
unfolding answers
functions_hold = refl

-- Sorts.
abbrev pub sorts : List Row
sorts =
    on (1 ∷ 0 ∷ 0 ∷ 1 ∷ 33 ∷ 1 ∷ []) "" (bytes "((|v 0| Int)) true")
    ∷ on (1 ∷ 0 ∷ 0 ∷ 2 ∷ 33 ∷ 1 ∷ []) "" (bytes "((|v 0| Bool)) true")
    ∷ on (1 ∷ 0 ∷ 0 ∷ 4 ∷ 33 ∷ 1 ∷ []) "" (bytes "((|v 0| String)) true")
    ∷ on (1 ∷ 0 ∷ 0 ∷ 3 ∷ 33 ∷ 1 ∷ []) "" (bytes "((|v 0| Real)) true")
    ∷ on (1 ∷ 0 ∷ 0 ∷ 5 ∷ 6 ∷ 3 ∷ 33 ∷ 1 ∷ []) "" (bytes "((|v 0| (_ BitVec 3))) true")
    ∷ on (1 ∷ 0 ∷ 0 ∷ 10 ∷ 1 ∷ 2 ∷ 1 ∷ 2 ∷ 33 ∷ 1 ∷ []) "" (bytes "((|v 0| (Array Int Bool))) true")
    ∷ on (1 ∷ 0 ∷ 0 ∷ 10 ∷ 2 ∷ 0 ∷ 1 ∷ 0 ∷ 33 ∷ 1 ∷ []) "T" (bytes "((|v 0| |s T|)) true")
    ∷ on (1 ∷ 0 ∷ 0 ∷ 10 ∷ 2 ∷ 0 ∷ 1 ∷ 1 ∷ 1 ∷ 33 ∷ 1 ∷ []) "T" (bytes "((|v 0| (|s T| Int))) true")
    ∷ on (2 ∷ 0 ∷ 0 ∷ 1 ∷ 1 ∷ 0 ∷ 10 ∷ 1 ∷ 2 ∷ 10 ∷ 2 ∷ 0 ∷ 1 ∷ 1 ∷ 10 ∷ 2 ∷ 0 ∷ 1 ∷ 0 ∷ 5 ∷ 6 ∷ 8 ∷ 33 ∷ 1 ∷ []) "T" (bytes "((|v 0| Int) (|v 1| (Array (|s T| |s T|) (_ BitVec 8)))) true")
    ∷ []

pub sorts_hold : answers sorts ≡ expected sorts
unfolding answers
sorts_hold = refl

-- 15 at the own kind word of a sort, before what is inside; the name of a Data sort before its sorts.
abbrev pub unwritables : List Row
unwritables =
    on (1 ∷ 0 ∷ 0 ∷ 10 ∷ 0 ∷ 1 ∷ 1 ∷ 33 ∷ 1 ∷ []) "" (refusal 15)
    ∷ on (1 ∷ 0 ∷ 0 ∷ 10 ∷ 1 ∷ 1 ∷ 1 ∷ 33 ∷ 1 ∷ []) "" (refusal 15)
    ∷ on (1 ∷ 0 ∷ 0 ∷ 10 ∷ 1 ∷ 3 ∷ 1 ∷ 1 ∷ 1 ∷ 33 ∷ 1 ∷ []) "" (refusal 15)
    ∷ on (1 ∷ 0 ∷ 0 ∷ 8 ∷ 1 ∷ 2 ∷ 33 ∷ 1 ∷ []) "" (refusal 15)
    ∷ on (1 ∷ 0 ∷ 0 ∷ 9 ∷ 0 ∷ 1 ∷ 33 ∷ 1 ∷ []) "" (refusal 15)
    ∷ on (1 ∷ 0 ∷ 0 ∷ 7 ∷ 0 ∷ 0 ∷ 33 ∷ 1 ∷ []) "" (refusal 15)
    ∷ on (1 ∷ 0 ∷ 0 ∷ 5 ∷ 1 ∷ 33 ∷ 1 ∷ []) "" (refusal 15)
    ∷ on (1 ∷ 0 ∷ 0 ∷ 10 ∷ 1 ∷ 1 ∷ 10 ∷ 2 ∷ 0 ∷ 1 ∷ 0 ∷ 33 ∷ 1 ∷ []) "|" (refusal 15)
    ∷ on (1 ∷ 0 ∷ 0 ∷ 5 ∷ 10 ∷ 2 ∷ 0 ∷ 1 ∷ 0 ∷ 33 ∷ 1 ∷ []) "|" (refusal 15)
    ∷ on (1 ∷ 0 ∷ 0 ∷ 10 ∷ 2 ∷ 0 ∷ 1 ∷ 1 ∷ 6 ∷ 3 ∷ 33 ∷ 1 ∷ []) "|" (refusal 16)
    ∷ on (0 ∷ 51 ∷ 1 ∷ 0 ∷ 0 ∷ 6 ∷ 3 ∷ 33 ∷ 1 ∷ []) "" (refusal 15)
    ∷ []

pub unwritables_hold : answers unwritables ≡ expected unwritables
unfolding answers
unwritables_hold = refl

-- BvSize is written in BitVec only; a width of 0 and a value of 2^width or more are 15.
abbrev pub widths : List Row
widths =
    on (1 ∷ 0 ∷ 0 ∷ 6 ∷ 8 ∷ 33 ∷ 1 ∷ []) "" (refusal 15)
    ∷ on (1 ∷ 0 ∷ 0 ∷ 5 ∷ 5 ∷ 6 ∷ 8 ∷ 33 ∷ 1 ∷ []) "" (refusal 15)
    ∷ on (1 ∷ 0 ∷ 0 ∷ 5 ∷ 6 ∷ 0 ∷ 33 ∷ 1 ∷ []) "" (refusal 15)
    ∷ on (0 ∷ 35 ∷ 0 ∷ 0 ∷ 0 ∷ 0 ∷ 0 ∷ []) "" (refusal 15)
    ∷ on (0 ∷ 35 ∷ 7 ∷ 0 ∷ 0 ∷ 0 ∷ 3 ∷ []) "" (bytes "() (_ bv7 3)")
    ∷ on (0 ∷ 35 ∷ 8 ∷ 0 ∷ 0 ∷ 0 ∷ 3 ∷ []) "" (refusal 15)
    ∷ on (0 ∷ 35 ∷ 0 ∷ 1 ∷ 0 ∷ 0 ∷ 32 ∷ []) "" (refusal 15)
    ∷ on (0 ∷ 35 ∷ 4294967295 ∷ 4294967295 ∷ 4294967295 ∷ 4294967295 ∷ 128 ∷ []) "" (bytes "() (_ bv340282366920938463463374607431768211455 128)")
    ∷ []

pub widths_hold : answers widths ≡ expected widths
unfolding answers
widths_hold = refl
