-- Numbers in hexadecimal and in decimal digits, as bytes.
use Rattle.std.specs.Prelude.{ℕ, zero, suc, ◌+◌, ◌/◌, ◌%◌, ◌^◌, true, false, List, [], ◌∷◌, ◌++◌, ltb}
use Rattle.reading.specs.Pick.{pick}

-- A hexadecimal digit, with small letters from ten on.
unfoldable pub digit : ℕ → ℕ
digit d = pick (ltb d 10) (48 + d) (87 + d)

-- The last two hexadecimal digits of a number.
abbrev pub two_digits : ℕ → List ℕ
two_digits n = digit (n / 16 % 16) ∷ digit (n % 16) ∷ []

-- The eight hexadecimal digits of a word.
abbrev pub eight_digits : ℕ → List ℕ
eight_digits w =
    digit (w / 16 ^ 7 % 16)
    ∷ digit (w / 16 ^ 6 % 16)
    ∷ digit (w / 16 ^ 5 % 16)
    ∷ digit (w / 16 ^ 4 % 16)
    ∷ digit (w / 16 ^ 3 % 16)
    ∷ digit (w / 16 ^ 2 % 16)
    ∷ digit (w / 16 % 16)
    ∷ digit (w % 16)
    ∷ []

-- The decimal digits of a number, at most f of them: of its tenth, and then the last one.
unfoldable pub figures : ℕ → ℕ → List ℕ
figures zero n = []
figures (suc f) n = elim (ltb n 10) [ true ↦ (48 + n) ∷ [] | false ↦ figures f (n / 10) ++ ((48 + n % 10) ∷ []) ]

-- The decimal digits of a number, without leading zeros. A number has no more digits than it has units, and 0 has one.
unfoldable pub decimal : ℕ → List ℕ
unfolding figures
decimal n = figures (suc n) n
