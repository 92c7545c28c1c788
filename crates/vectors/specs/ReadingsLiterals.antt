-- The answers of request C-13 about literals that are easily read otherwise, each with the smallest input that shows it, and a claim about all.
use Rattle.std.specs.Prelude.{◌-◌, ◌^◌, ◌≡◌, refl, List, [], ◌∷◌, ◌++◌, replicate}
use Rattle.reading.specs.Bytes.{ascii}
use Rattle.session.specs.Session.{expression, bind, solution}
use Rattle.vectors.specs.Shown.{refusal, words, call_on, Asked, asks, asked, asked_bytes, tells, told}

abbrev pub literals : List Asked
literals =
    -- the order: 8 for the string, 11, 8 for the size, 17
    asked expression "(lit \"#x1\" 5)" (refusal 8)
    ∷ asked expression "(lit \"#b2\")" (refusal 11)
    ∷ asked expression "(lit \"#b2\" 5)" (refusal 11)
    ∷ asked expression "(lit \"#b1\")" (refusal 8)
    ∷ asked expression "(lit \"#b1\" 5)" (refusal 8)
    ∷ asked expression "(lit \"#b1\" (BitVec Size))" (refusal 8)
    ∷ asked expression "(lit \"#b1\" (BitVec Size2))" (refusal 17)
    ∷ asked expression "(lit \"#b2\" (BitVec Size2))" (refusal 11)
    -- no digits are 11, whatever the size; so a width of 0 is never accepted
    ∷ asked expression "(lit \"#b\" (BitVec Size0))" (refusal 11)
    ∷ asked expression "(lit \"#b0\" (BitVec Size0))" (refusal 17)
    -- one digit is a literal, and no byte is dropped
    ∷ asked expression "(lit \"#b1\" (BitVec Size1))" (words (35 ∷ 1 ∷ 0 ∷ 0 ∷ 0 ∷ 1 ∷ []))
    ∷ asked expression "(lit \"#b101\" (BitVec Size3))" (words (35 ∷ 5 ∷ 0 ∷ 0 ∷ 0 ∷ 3 ∷ []))
    ∷ asked expression "(lit \"#b0\" (BitVec Size1))" (words (35 ∷ 0 ∷ 0 ∷ 0 ∷ 0 ∷ 1 ∷ []))
    -- `+` and every other byte are 11, first or later
    ∷ asked expression "(lit \"#b+1\" (BitVec Size2))" (refusal 11)
    ∷ asked expression "(lit \"#b1+1\" (BitVec Size3))" (refusal 11)
    ∷ asked expression "(lit \"#b 1\" (BitVec Size2))" (refusal 11)
    ∷ asked expression "(lit \"#b1-0\" (BitVec Size3))" (refusal 11)
    ∷ asked_bytes expression (ascii "(lit \"#b1" ++ (195 ∷ 169 ∷ []) ++ ascii "\" (BitVec Size3))") (refusal 11)
    -- leading zeros are digits
    ∷ asked expression "(lit \"#b001\" (BitVec Size3))" (words (35 ∷ 1 ∷ 0 ∷ 0 ∷ 0 ∷ 3 ∷ []))
    ∷ asked expression "(lit \"#b01\" (BitVec Size1))" (refusal 17)
    -- 128 digits and 129: the value is to be below 2^128, and leading zeros do not count against that
    ∷ asked_bytes expression (ascii "(lit \"#b" ++ replicate 128 49 ++ ascii "\" (BitVec Size128))") (words (35 ∷ 4294967295 ∷ 4294967295 ∷ 4294967295 ∷ 4294967295 ∷ 128 ∷ []))
    ∷ asked_bytes expression (ascii "(lit \"#b" ++ replicate 128 49 ++ ascii "\" (BitVec Size129))") (refusal 17)
    ∷ asked_bytes expression (ascii "(lit \"#b1" ++ replicate 128 48 ++ ascii "\" (BitVec Size129))") (refusal 11)
    ∷ asked_bytes expression (ascii "(lit \"#b1" ++ replicate 128 48 ++ ascii "\" (BitVec Size128))") (refusal 11)
    ∷ asked_bytes expression (ascii "(lit \"#b1" ++ replicate 128 48 ++ ascii "\")") (refusal 11)
    ∷ asked_bytes expression (ascii "(lit \"#b0" ++ replicate 128 49 ++ ascii "\" (BitVec Size129))") (words (35 ∷ 4294967295 ∷ 4294967295 ∷ 4294967295 ∷ 4294967295 ∷ 129 ∷ []))
    ∷ asked_bytes expression (ascii "(lit \"#b0" ++ replicate 128 49 ++ ascii "\" (BitVec Size128))") (refusal 17)
    ∷ asked_bytes expression (ascii "(lit \"#b" ++ replicate 300 48 ++ ascii "\" (BitVec Size300))") (words (35 ∷ 0 ∷ 0 ∷ 0 ∷ 0 ∷ 300 ∷ []))
    -- each of the four words
    ∷ asked_bytes expression (ascii "(lit \"#b1" ++ replicate 32 48 ++ ascii "\" (BitVec Size33))") (words (35 ∷ 0 ∷ 1 ∷ 0 ∷ 0 ∷ 33 ∷ []))
    ∷ asked_bytes expression (ascii "(lit \"#b1" ++ replicate 64 48 ++ ascii "\" (BitVec Size65))") (words (35 ∷ 0 ∷ 0 ∷ 1 ∷ 0 ∷ 65 ∷ []))
    ∷ asked_bytes expression (ascii "(lit \"#b1" ++ replicate 96 48 ++ ascii "\" (BitVec Size97))") (words (35 ∷ 0 ∷ 0 ∷ 0 ∷ 1 ∷ 97 ∷ []))
    -- the size is a number, not its spelling; its list has two items, and the first is not looked at
    ∷ asked expression "(lit \"#b1\" (5 Size+01))" (words (35 ∷ 1 ∷ 0 ∷ 0 ∷ 0 ∷ 1 ∷ []))
    ∷ asked expression "(lit \"#b1\" (BitVec Size4294967297))" (refusal 8)
    ∷ asked expression "(lit \"#b1\" (BitVec Size4294967295))" (refusal 17)
    ∷ asked expression "(lit \"#b1\" (BitVec Size1 x))" (refusal 8)
    -- in a bind and in a solution
    ∷ asked bind "((x Int) (= x (lit \"#b10\" (BitVec Size2))))" (words (2 ∷ 1 ∷ 1 ∷ 1 ∷ 65 ∷ 47 ∷ 0 ∷ 37 ∷ 12 ∷ 1 ∷ 35 ∷ 2 ∷ 0 ∷ 0 ∷ 0 ∷ 2 ∷ []))
    ∷ asked bind "((x Int) (= x (lit \"#b10\" (BitVec Size3))))" (refusal 17)
    ∷ asked solution "(lambda () (lit \"#b11\" (BitVec Size2)))" (words (0 ∷ 35 ∷ 3 ∷ 0 ∷ 0 ∷ 0 ∷ 2 ∷ []))
    ∷ asked solution "(lambda () (lit \"#b11\" (BitVec Size1)))" (refusal 17)
    -- 17 comes before 13, and before the 10 of the exists around it
    ∷ asks (2 ^ 64 - 1) (call_on expression (ascii "(exists ((x Int)) (lit \"#b0\" (BitVec Size2)))")) (refusal 17)
    ∷ asked expression "(exists ((x Int) (x Int)) (lit \"#b0\" (BitVec Size2)))" (refusal 17)
    ∷ []

pub literals_hold : tells literals ≡ told literals
unfolding tells
literals_hold = refl
