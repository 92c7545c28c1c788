-- The limits of document 01 and what stands at each of them, and a claim about each table.
use Rattle.std.specs.Prelude.{ℕ, zero, suc, ◌-◌, ◌*◌, ◌^◌, ◌≡◌, refl, List, [], ◌∷◌, ◌++◌, replicate}
use Rattle.reading.specs.Bytes.{ascii}
use Rattle.session.specs.Session.{read_one, read_all, sort, expression, bind, solution}
use Rattle.vectors.specs.Shown.{refusal, words, call_on, Asked, asks, asked_bytes, lending, tells, told, Flat, flat, flat_into, flattens_to, flat_answers}

-- A list, so many times.
abbrev pub again : ℕ → List ℕ → List ℕ
again zero l = []
again (suc n) l = l ++ again n l

-- The words of an empty list inside so many lists.
abbrev pub nested : ℕ → List ℕ
nested zero = 21 ∷ 0 ∷ 0 ∷ []
nested (suc k) = 21 ∷ 1 ∷ 3 * suc k ∷ nested k

-- The words of so many Abs, from an index on.
abbrev pub abs_from : ℕ → ℕ → List ℕ
abs_from i zero = []
abs_from i (suc k) = 9 ∷ i ∷ abs_from (suc i) k

-- 32,768 bytes of text.
abbrev pub long_texts : List Asked
long_texts =
    asked_bytes read_one (ascii "a " ++ replicate 32766 97) (words (16 ∷ 0 ∷ 1 ∷ []))
    ∷ asked_bytes read_one (ascii "a " ++ replicate 32767 97) (refusal 1)
    ∷ asked_bytes read_all (replicate 32769 32) (refusal 1)
    ∷ []

pub long_texts_hold : tells long_texts ≡ told long_texts
unfolding tells
long_texts_hold = refl

-- The other limits of a text, and the largest count.
abbrev pub bounds : List Asked
bounds =
    -- 64 nested lists; the 65th is refused where it opens
    asks 0 (lending 0 0 192 read_one (replicate 64 40 ++ replicate 64 41)) (words (nested 63))
    ∷ asks 0 (lending 0 0 191 read_one (replicate 64 40 ++ replicate 64 41)) (refusal 7)
    ∷ asks 0 (lending 0 0 192 read_all (replicate 64 40 ++ replicate 64 41)) (words (nested 63))
    ∷ asked_bytes read_one (replicate 65 40 ++ replicate 65 41) (refusal 6)
    ∷ asked_bytes read_all (replicate 65 40 ++ replicate 65 41) (refusal 6)
    ∷ asked_bytes read_one (replicate 65 40) (refusal 6)
    ∷ asked_bytes read_one (replicate 64 40) (refusal 3)
    -- `func` numbers to 64
    ∷ asks 0 (lending 64 0 133 sort (ascii "(func 64()a)")) (words (abs_from 0 64 ++ (10 ∷ 2 ∷ 10 ∷ 1 ∷ 0 ∷ [])))
    ∷ asks 0 (lending 64 0 132 sort (ascii "(func 64()a)")) (refusal 7)
    ∷ asks 0 (lending 64 0 133 sort (ascii "(func 65()a)")) (refusal 12)
    -- 66 expressions inside one another, and 63 scopes
    ∷ asks 0 (lending 512 0 128 expression (again 64 (ascii "(not ") ++ ascii "-5" ++ replicate 64 41)) (words (replicate 64 44 ++ (39 ∷ 32 ∷ 5 ∷ 0 ∷ 0 ∷ 0 ∷ [])))
    ∷ asks 0 (lending 1024 0 256 expression (again 63 (ascii "(exists ()") ++ ascii "x" ++ replicate 63 41)) (words (again 63 (51 ∷ 0 ∷ []) ++ (37 ∷ 630 ∷ 1 ∷ [])))
    ∷ asks 0 (lending 1024 0 256 expression (again 64 (ascii "(exists ()") ++ ascii "x" ++ replicate 64 41)) (refusal 6)
    -- the example of `solread`
    ∷ asks 0 (lending 4096 4096 4096 solution (ascii "(lambda ((x Int)) (< x 5))")) (words (1 ∷ 0 ∷ 0 ∷ 1 ∷ 47 ∷ 4 ∷ 36 ∷ 0 ∷ 0 ∷ 32 ∷ 5 ∷ 0 ∷ 0 ∷ 0 ∷ []))
    -- one number is left at 2^64 - 2
    ∷ asks (2 ^ 64 - 2) (call_on expression (ascii "(exists ((x Int)) x)")) (words (51 ∷ 1 ∷ 4294967294 ∷ 4294967295 ∷ 1 ∷ 36 ∷ 4294967294 ∷ 4294967295 ∷ []))
    ∷ asks (2 ^ 64 - 2) (call_on solution (ascii "(lambda ((x Int)) x)")) (words (1 ∷ 4294967294 ∷ 4294967295 ∷ 1 ∷ 36 ∷ 4294967294 ∷ 4294967295 ∷ []))
    ∷ asks (2 ^ 64 - 2) (call_on solution (ascii "(lambda ((x Int)) (exists ((y Int)) y))")) (refusal 13)
    ∷ asks (2 ^ 64 - 2) (call_on bind (ascii "((x Int) (exists ((y Int) (z Int)) y))")) (refusal 13)
    -- none at 2^64 - 1
    ∷ asks (2 ^ 64 - 1) (call_on expression (ascii "(exists ((x Int)) x)")) (refusal 13)
    ∷ asks (2 ^ 64 - 1) (call_on solution (ascii "(lambda ((x Int)) x)")) (refusal 13)
    ∷ asks (2 ^ 64 - 1) (call_on bind (ascii "((x Int) (exists ((y Int)) y))")) (refusal 13)
    ∷ asks (2 ^ 64 - 1) (call_on solution (ascii "(lambda () x)")) (words (0 ∷ 37 ∷ 11 ∷ 1 ∷ []))
    ∷ asks (2 ^ 64 - 1) (call_on read_one (ascii "a")) (words (16 ∷ 0 ∷ 1 ∷ []))
    ∷ asks (2 ^ 64 - 1) (call_on read_all (ascii "a")) (words (16 ∷ 0 ∷ 1 ∷ []))
    ∷ asks (2 ^ 64 - 1) (call_on sort (ascii "Int")) (words (1 ∷ []))
    -- 8 to 12 and 7 for the tree come before 13, 7 for draft and output behind it
    ∷ asks (2 ^ 64 - 1) (call_on expression (ascii "(exists ((x Int)) ())")) (refusal 8)
    ∷ asks (2 ^ 64 - 1) (call_on expression (ascii "(exists ((x Int)) 1.5)")) (refusal 9)
    ∷ asks (2 ^ 64 - 1) (call_on expression (ascii "(exists ((x Int) (x Int)) x)")) (refusal 10)
    ∷ asks (2 ^ 64 - 1) (call_on solution (ascii "(lambda ((x Int) (x Int)) x)")) (refusal 10)
    ∷ asks (2 ^ 64 - 1) (call_on expression (ascii "(exists ((x Int)) (lit \"#b2\"))")) (refusal 11)
    ∷ asks (2 ^ 64 - 1) (call_on expression (ascii "(exists ((x (func 65 () Int))) x)")) (refusal 12)
    ∷ asks (2 ^ 64 - 1) (lending 20 64 64 expression (ascii "(exists ((x Int)) x)")) (refusal 7)
    ∷ asks (2 ^ 64 - 1) (lending 21 0 0 expression (ascii "(exists ((x Int)) x)")) (refusal 13)
    ∷ asks (2 ^ 64 - 1) (lending 64 0 64 solution (ascii "(lambda ((x Int)) x)")) (refusal 13)
    ∷ asks (2 ^ 64 - 1) (lending 64 64 0 solution (ascii "(lambda ((x Int)) x)")) (refusal 13)
    ∷ asks (2 ^ 64 - 2) (lending 21 0 7 expression (ascii "(exists ((x Int)) x)")) (refusal 7)
    ∷ []

pub bounds_hold : tells bounds ≡ told bounds
unfolding tells
bounds_hold = refl

-- 128 expressions inside one another in words.
abbrev pub flat_bounds : List Flat
flat_bounds =
    flat_into 129 (replicate 127 44 ++ (33 ∷ 1 ∷ [])) (words (replicate 127 44 ++ (33 ∷ 1 ∷ [])))
    ∷ flat_into 128 (replicate 127 44 ++ (33 ∷ 1 ∷ [])) (refusal 7)
    ∷ flat_into 129 (replicate 128 44 ++ (33 ∷ 1 ∷ [])) (refusal 6)
    ∷ flat_into 129 (replicate 128 44 ++ (32 ∷ [])) (refusal 6)
    ∷ flat_into 129 (replicate 128 44 ++ (52 ∷ [])) (refusal 6)
    ∷ flat_into 129 (replicate 128 44 ++ (31 ∷ [])) (refusal 14)
    ∷ flat_into 129 (replicate 128 44 ++ (53 ∷ [])) (refusal 14)
    ∷ flat_into 129 (replicate 128 44) (refusal 14)
    -- heads of applications, which are joined
    ∷ flat (again 127 (38 ∷ 0 ∷ 0 ∷ []) ++ (33 ∷ 1 ∷ [])) (words (38 ∷ 0 ∷ 0 ∷ 33 ∷ 1 ∷ []))
    ∷ flat (again 128 (38 ∷ 0 ∷ 0 ∷ []) ++ (33 ∷ 1 ∷ [])) (refusal 6)
    -- what the parser makes is not too deep
    ∷ flat_into 128 (replicate 64 44 ++ (39 ∷ 32 ∷ 5 ∷ 0 ∷ 0 ∷ 0 ∷ [])) (words (replicate 64 44 ++ (39 ∷ 32 ∷ 5 ∷ 0 ∷ 0 ∷ 0 ∷ [])))
    ∷ []

pub flat_bounds_hold : flattens_to flat_bounds ≡ flat_answers flat_bounds
unfolding flattens_to
flat_bounds_hold = refl
