-- The answers of request C-17 about a let that binds that are easily read otherwise, each with the smallest input that shows it, and a claim
-- about each table.
use Rattle.std.specs.Prelude.{ℕ, zero, suc, ◌-◌, ◌^◌, ◌≡◌, refl, List, [], ◌∷◌, ◌++◌, replicate}
use Rattle.reading.specs.Bytes.{ascii}
use Rattle.session.specs.Session.{expression, bind, solution}
use Rattle.vectors.specs.Shown.{refusal, words, Row, row, in_turn, call_on, Asked, asks, asked, lending, tells, told, expected, Flat, flat, flattens_to, flat_answers}
use Rattle.vectors.specs.Bounds.{again}

abbrev pub lets : List Asked
lets =
    -- the numbers: the binding's, the let's own, the body's; the let's own is written first
    asked expression "(let (x (let (y 1) y)) x)" (words (52 ∷ 1 ∷ 0 ∷ 52 ∷ 0 ∷ 0 ∷ 32 ∷ 1 ∷ 0 ∷ 0 ∷ 0 ∷ 36 ∷ 0 ∷ 0 ∷ 36 ∷ 1 ∷ 0 ∷ []))
    ∷ asked expression "(let (x (exists ((a Int)) a)) (exists ((b Int)) x))" (words (52 ∷ 1 ∷ 0 ∷ 51 ∷ 1 ∷ 0 ∷ 0 ∷ 1 ∷ 36 ∷ 0 ∷ 0 ∷ 51 ∷ 1 ∷ 2 ∷ 0 ∷ 1 ∷ 36 ∷ 1 ∷ 0 ∷ []))
    ∷ asked expression "(let (v (exists ((x Int)) x)) (exists ((y Int)) y))" (words (52 ∷ 1 ∷ 0 ∷ 51 ∷ 1 ∷ 0 ∷ 0 ∷ 1 ∷ 36 ∷ 0 ∷ 0 ∷ 51 ∷ 1 ∷ 2 ∷ 0 ∷ 1 ∷ 36 ∷ 2 ∷ 0 ∷ []))
    ∷ asked expression "(let (x 1) x)" (words (52 ∷ 0 ∷ 0 ∷ 32 ∷ 1 ∷ 0 ∷ 0 ∷ 0 ∷ 36 ∷ 0 ∷ 0 ∷ []))
    -- the name is not bound in its own binding, nor behind the let; nor is the binding's own name in the body
    ∷ asked expression "(let (x x) x)" (words (52 ∷ 0 ∷ 0 ∷ 37 ∷ 8 ∷ 1 ∷ 36 ∷ 0 ∷ 0 ∷ []))
    ∷ asked solution "(lambda ((x Int)) (let (x x) x))" (words (1 ∷ 0 ∷ 0 ∷ 1 ∷ 52 ∷ 1 ∷ 0 ∷ 36 ∷ 0 ∷ 0 ∷ 36 ∷ 1 ∷ 0 ∷ []))
    ∷ asked expression "(and (let (x 1) x) x)" (words (42 ∷ 2 ∷ 52 ∷ 0 ∷ 0 ∷ 32 ∷ 1 ∷ 0 ∷ 0 ∷ 0 ∷ 36 ∷ 0 ∷ 0 ∷ 37 ∷ 19 ∷ 1 ∷ []))
    ∷ asked expression "(let (x (let (y 1) y)) y)" (words (52 ∷ 1 ∷ 0 ∷ 52 ∷ 0 ∷ 0 ∷ 32 ∷ 1 ∷ 0 ∷ 0 ∷ 0 ∷ 36 ∷ 0 ∷ 0 ∷ 37 ∷ 23 ∷ 1 ∷ []))
    -- theory names win over lets, keywords as heads over both, and the number is taken all the same; a test's name is a span
    ∷ asked expression "(let (bvadd 1) bvadd)" (words (52 ∷ 0 ∷ 0 ∷ 32 ∷ 1 ∷ 0 ∷ 0 ∷ 0 ∷ 49 ∷ 27 ∷ []))
    ∷ asked expression "(let (and 1) (not (and)))" (words (52 ∷ 0 ∷ 0 ∷ 32 ∷ 1 ∷ 0 ∷ 0 ∷ 0 ∷ 44 ∷ 36 ∷ 0 ∷ 0 ∷ []))
    ∷ asked expression "(let (x 1) (is$x x))" (words (52 ∷ 0 ∷ 0 ∷ 32 ∷ 1 ∷ 0 ∷ 0 ∷ 0 ∷ 50 ∷ 15 ∷ 1 ∷ 36 ∷ 0 ∷ 0 ∷ []))
    -- the innermost wins, whatever opened its scope
    ∷ asked expression "(let (x 1) (let (x x) x))" (words (52 ∷ 0 ∷ 0 ∷ 32 ∷ 1 ∷ 0 ∷ 0 ∷ 0 ∷ 52 ∷ 1 ∷ 0 ∷ 36 ∷ 0 ∷ 0 ∷ 36 ∷ 1 ∷ 0 ∷ []))
    ∷ asked expression "(let (x 1) (exists ((x Int)) x))" (words (52 ∷ 0 ∷ 0 ∷ 32 ∷ 1 ∷ 0 ∷ 0 ∷ 0 ∷ 51 ∷ 1 ∷ 1 ∷ 0 ∷ 1 ∷ 36 ∷ 1 ∷ 0 ∷ []))
    ∷ asked expression "(exists ((x Int)) (let (x x) x))" (words (51 ∷ 1 ∷ 0 ∷ 0 ∷ 1 ∷ 52 ∷ 1 ∷ 0 ∷ 36 ∷ 0 ∷ 0 ∷ 36 ∷ 1 ∷ 0 ∷ []))
    ∷ asked expression "(exists ((x Int)) (let (x 1) x))" (words (51 ∷ 1 ∷ 0 ∷ 0 ∷ 1 ∷ 52 ∷ 1 ∷ 0 ∷ 32 ∷ 1 ∷ 0 ∷ 0 ∷ 0 ∷ 36 ∷ 1 ∷ 0 ∷ []))
    -- 10 never comes from a let
    ∷ asked expression "(exists ((x Int) (x Int)) (let (x 1) x))" (refusal 10)
    -- arguments before the head, lets, too
    ∷ asked expression "((let (f g) f) (let (a 1) a))" (words (38 ∷ 0 ∷ 1 ∷ 52 ∷ 0 ∷ 0 ∷ 32 ∷ 1 ∷ 0 ∷ 0 ∷ 0 ∷ 36 ∷ 0 ∷ 0 ∷ 52 ∷ 1 ∷ 0 ∷ 37 ∷ 9 ∷ 1 ∷ 36 ∷ 1 ∷ 0 ∷ []))
    -- missing items, when they are reached; the pair, the binding and the body are seen through
    ∷ asked expression "(let (x 1.5))" (refusal 9)
    ∷ asked expression "(let (x 1))" (refusal 8)
    ∷ asked expression "(let (x) x)" (refusal 8)
    ∷ asked expression "(let x x)" (refusal 8)
    ∷ asked expression "(let ((x) 1) x)" (refusal 8)
    ∷ asked expression "(let (((x 1))) ((x)))" (words (52 ∷ 0 ∷ 0 ∷ 32 ∷ 1 ∷ 0 ∷ 0 ∷ 0 ∷ 36 ∷ 0 ∷ 0 ∷ []))
    -- in a bind a let in a predicate binds; a kvar is no expression, and its arguments stay names
    ∷ asked bind "((x Int) (let (x 1) (= x 2)))" (words (2 ∷ 1 ∷ 1 ∷ 1 ∷ 65 ∷ 52 ∷ 0 ∷ 0 ∷ 32 ∷ 1 ∷ 0 ∷ 0 ∷ 0 ∷ 47 ∷ 0 ∷ 36 ∷ 0 ∷ 0 ∷ 32 ∷ 2 ∷ 0 ∷ 0 ∷ 0 ∷ []))
    ∷ asked bind "((x Int) (let (x 1) ($k x)))" (refusal 8)
    ∷ asked bind "((x Int) (and (let (x 1) x) ($k x)))" (words (2 ∷ 1 ∷ 1 ∷ 2 ∷ 65 ∷ 52 ∷ 0 ∷ 0 ∷ 32 ∷ 1 ∷ 0 ∷ 0 ∷ 0 ∷ 36 ∷ 0 ∷ 0 ∷ 64 ∷ 29 ∷ 2 ∷ 1 ∷ 37 ∷ 32 ∷ 1 ∷ []))
    ∷ []

pub lets_hold : tells lets ≡ told lets
unfolding tells
lets_hold = refl

-- So many lets of 1 inside one another, numbered from k on.
abbrev pub lets_from : ℕ → ℕ → List ℕ
lets_from k zero = []
lets_from k (suc n) = 52 ∷ k ∷ 0 ∷ 32 ∷ 1 ∷ 0 ∷ 0 ∷ 0 ∷ lets_from (suc k) n

-- A let's number among the limits.
abbrev pub let_bounds : List Asked
let_bounds =
    -- every let takes one number, used or not; 8 to 12 come before 13, 7 behind it
    asks (2 ^ 64 - 2) (call_on expression (ascii "(let (x 1) 2)")) (words (52 ∷ 4294967294 ∷ 4294967295 ∷ 32 ∷ 1 ∷ 0 ∷ 0 ∷ 0 ∷ 32 ∷ 2 ∷ 0 ∷ 0 ∷ 0 ∷ []))
    ∷ asks (2 ^ 64 - 1) (call_on expression (ascii "(let (x 1) x)")) (refusal 13)
    ∷ asks (2 ^ 64 - 1) (lending 64 0 0 expression (ascii "(let (x 1) x)")) (refusal 13)
    ∷ asks (2 ^ 64 - 1) (call_on expression (ascii "(let (x 1) ())")) (refusal 8)
    ∷ asks (2 ^ 64 - 2) (lending 64 0 10 expression (ascii "(let (x 1) x)")) (refusal 7)
    ∷ asks (2 ^ 64 - 2) (call_on solution (ascii "(lambda ((x Int)) (let (x 1) x))")) (refusal 13)
    -- a pair is a list inside its own list: 63 lets stand inside one another in an expression, 62 in a solution
    ∷ asks 0 (lending 2048 0 1024 expression (again 63 (ascii "(let (x 1)") ++ ascii "x" ++ replicate 63 41)) (words (lets_from 0 63 ++ (36 ∷ 62 ∷ 0 ∷ [])))
    ∷ asks 0 (lending 2048 0 1024 expression (again 64 (ascii "(let (x 1)") ++ ascii "x" ++ replicate 64 41)) (refusal 6)
    ∷ asks 0 (lending 2048 1024 1024 solution (ascii "(f ((x Int))" ++ (again 62 (ascii "(let (x 1)") ++ ascii "x" ++ replicate 63 41))) (words (1 ∷ 0 ∷ 0 ∷ 1 ∷ (lets_from 1 62 ++ (36 ∷ 62 ∷ 0 ∷ []))))
    ∷ asks 0 (lending 2048 1024 1024 solution (ascii "(f ((x Int))" ++ (again 63 (ascii "(let (x 1)") ++ ascii "x" ++ replicate 64 41))) (refusal 6)
    ∷ []

pub let_bounds_hold : tells let_bounds ≡ told let_bounds
unfolding tells
let_bounds_hold = refl

-- One after the other on one reader: what an answer binds is counted, lets among it, and a refused let leaves nothing behind.
abbrev pub lets_in_turn : List Row
lets_in_turn =
    row expression "(let (x 1) x)" (words (52 ∷ 0 ∷ 0 ∷ 32 ∷ 1 ∷ 0 ∷ 0 ∷ 0 ∷ 36 ∷ 0 ∷ 0 ∷ []))
    ∷ row expression "(let (y 1) ())" (refusal 8)
    ∷ row expression "y" (words (37 ∷ 0 ∷ 1 ∷ []))
    ∷ row bind "((x Int) (let (x 1) x))" (words (2 ∷ 1 ∷ 1 ∷ 1 ∷ 65 ∷ 52 ∷ 1 ∷ 0 ∷ 32 ∷ 1 ∷ 0 ∷ 0 ∷ 0 ∷ 36 ∷ 1 ∷ 0 ∷ []))
    ∷ row solution "(lambda ((x Int)) (let (x x) x))" (words (1 ∷ 2 ∷ 0 ∷ 1 ∷ 52 ∷ 3 ∷ 0 ∷ 36 ∷ 2 ∷ 0 ∷ 36 ∷ 3 ∷ 0 ∷ []))
    ∷ row expression "(exists ((x Int)) x)" (words (51 ∷ 1 ∷ 4 ∷ 0 ∷ 1 ∷ 36 ∷ 4 ∷ 0 ∷ []))
    ∷ []

pub lets_in_turn_hold : in_turn lets_in_turn 0 ≡ expected lets_in_turn
unfolding in_turn
lets_in_turn_hold = refl

-- Flattening: two free words and two children; a let as head stops a chain; 48 is taken as before, and 53 is no kind.
abbrev pub lets_flattened : List Flat
lets_flattened =
    flat (38 ∷ 0 ∷ 1 ∷ 37 ∷ 1 ∷ 1 ∷ 52 ∷ 0 ∷ 0 ∷ 37 ∷ 2 ∷ 1 ∷ 38 ∷ 0 ∷ 1 ∷ 37 ∷ 3 ∷ 1 ∷ 37 ∷ 4 ∷ 1 ∷ [])
    (words (38 ∷ 0 ∷ 1 ∷ 37 ∷ 1 ∷ 1 ∷ 52 ∷ 0 ∷ 0 ∷ 37 ∷ 2 ∷ 1 ∷ 38 ∷ 0 ∷ 1 ∷ 37 ∷ 3 ∷ 1 ∷ 37 ∷ 4 ∷ 1 ∷ []))
    ∷ flat (52 ∷ 4294967295 ∷ 4294967295 ∷ 38 ∷ 0 ∷ 0 ∷ 38 ∷ 0 ∷ 0 ∷ 33 ∷ 0 ∷ 33 ∷ 1 ∷ []) (words (52 ∷ 4294967295 ∷ 4294967295 ∷ 38 ∷ 0 ∷ 0 ∷ 33 ∷ 0 ∷ 33 ∷ 1 ∷ []))
    ∷ flat (48 ∷ 6 ∷ 1 ∷ 33 ∷ 0 ∷ 33 ∷ 1 ∷ []) (words (48 ∷ 6 ∷ 1 ∷ 33 ∷ 0 ∷ 33 ∷ 1 ∷ []))
    ∷ flat (52 ∷ 0 ∷ 0 ∷ 33 ∷ 0 ∷ []) (refusal 14)
    ∷ flat (52 ∷ 0 ∷ []) (refusal 14)
    ∷ flat (53 ∷ 0 ∷ 0 ∷ 0 ∷ 33 ∷ 1 ∷ []) (refusal 14)
    ∷ []

pub lets_flattened_hold : flattens_to lets_flattened ≡ flat_answers lets_flattened
unfolding flattens_to
lets_flattened_hold = refl
