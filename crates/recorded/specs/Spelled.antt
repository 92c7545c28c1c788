-- What INPUT and WORDS spell: parts joined by `.` or `,`, each perhaps followed by `*N`, this part N times; `-` spells nothing.
use Rattle.std.specs.Prelude.{ℕ, zero, suc, ◌+◌, ◌*◌, List, [], ◌∷◌, ◌++◌, eqb, ltb, get_or, drop}
use Rattle.reading.specs.Pick.{pick}
use Rattle.recorded.specs.Numbers.{digit, decimal, hexadecimal}
use Rattle.recorded.specs.Fields.{ends, up_to}

-- The text from each part of a field on, but for its first part: a part begins behind `.` or `,`.
unfoldable pub parts_behind : List ℕ → List (List ℕ)
parts_behind [] = []
parts_behind (b ∷ s) = pick (eqb (ends b) 3) [] (pick (eqb (ends b) 2) (s ∷ parts_behind s) (parts_behind s))

-- How often a part is meant: the number behind `*`, where that stands behind the digits, else once.
unfoldable pub times : List ℕ → ℕ
times s = pick (eqb (get_or s (up_to 1 s) 0) 42) (decimal (drop (up_to 1 s + 1) s)) 1

-- The bytes that a part spells once: two digits each.
unfoldable pub bytes_once : List ℕ → List ℕ
bytes_once [] = []
bytes_once (a ∷ []) = []
bytes_once (a ∷ b ∷ s) = pick (ltb (digit a) 16) (pick (ltb (digit b) 16) ((16 * digit a + digit b) ∷ bytes_once s) []) []

-- The word that a part spells once: its number, if it has a digit.
unfoldable pub word_once : List ℕ → List ℕ
word_once s = pick (ltb (digit (get_or s 0 0)) 16) (hexadecimal s ∷ []) []

-- A list, so many times.
unfoldable pub again : ℕ → List ℕ → List ℕ
again zero l = []
again (suc n) l = l ++ again n l

-- What parts spell, one behind the other.
unfoldable pub spelled : (List ℕ → List ℕ) → List (List ℕ) → List ℕ
spelled once [] = []
spelled once (p ∷ ps) = again (times p) (once p) ++ spelled once ps

-- The bytes that the field in front of a text spells, and the words.
unfoldable pub bytes_in : List ℕ → List ℕ
bytes_in s = spelled bytes_once (s ∷ parts_behind s)

unfoldable pub words_in : List ℕ → List ℕ
words_in s = spelled word_once (s ∷ parts_behind s)
