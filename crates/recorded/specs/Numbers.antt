-- Numbers in the text of the recorded answers.
use Rattle.std.specs.Prelude.{ℕ, ◌+◌, ◌-◌, ◌*◌, ◌^◌, ◌<◌, ◌≡◌, min, List, [], ◌∷◌, ltb, Option, Some, None}
use Rattle.reading.specs.Pick.{pick}

-- The value of a digit, with small letters from ten on, and 16 for any other byte.
unfoldable pub digit : ℕ → ℕ
digit b = pick (ltb b 48) 16 (pick (ltb b 58) (b - 48) (pick (ltb b 97) 16 (pick (ltb b 103) (b - 87) 16)))

-- The value of a digit, as the code has it: none of any other byte.
abbrev pub DigitIs : ℕ → Option ℕ → Type 0
DigitIs d (Some n) = (n ≡ d) × (d < 16)
DigitIs d None = d ≡ 16

-- The number that the digits in front of a text give, behind the number v. It ends before a byte that is no digit of the base.
unfoldable pub number_from : ℕ → ℕ → List ℕ → ℕ
number_from base v [] = v
number_from base v (b ∷ s) = pick (ltb (digit b) base) (number_from base (base * v + digit b) s) v

-- The largest number of 64 bits.
abbrev pub most : ℕ
most = 2 ^ 64 - 1

-- The decimal number in front of a text. One that has more than 64 bits counts as the largest that has 64.
unfoldable pub decimal : List ℕ → ℕ
decimal s = min most (number_from 10 0 s)

-- The hexadecimal number in front of a text. One that has more than 32 bits counts as the largest that has 32.
unfoldable pub hexadecimal : List ℕ → ℕ
hexadecimal s = min (2 ^ 32 - 1) (number_from 16 0 s)
