-- Numbers as the code has them.
use Rattle.std.specs.Prelude.{ℕ, ◌+◌, ◌*◌, ◌^◌, ◌<◌, ◌≡◌, Option, Some, None}
use Rattle.reading.specs.Bytes.{Maybe, nothing, just}
use Rattle.reading.specs.Number.{Wide, wide_of, value_of}
use Rattle.words.specs.declared.quad.Quad.{Quad}
use Rattle.words.specs.Quads.{as_quad, as_wide}
use Rattle.lexing.specs.declared.number.Quick.{Quick}
use Rattle.lexing.specs.declared.number.Quick.TheVariants as quick

-- A number below 2^128, an integer in two's complement, and a number of 32 or 64 bits.
abbrev pub as_mag : Maybe ℕ → Option Quad
as_mag nothing = None
as_mag (just n) = Some (as_quad (wide_of n))

abbrev pub as_integer : Maybe Wide → Option Quad
as_integer nothing = None
as_integer (just w) = Some (as_quad w)

abbrev pub as_word : Maybe ℕ → Option ℕ
as_word nothing = None
as_word (just n) = Some n

-- The number that four words stand for, if they are there.
abbrev pub number_of : Option Quad → Maybe ℕ
number_of None = nothing
number_of (Some q) = just (value_of (as_wide q))

-- What a quick answer says of the number that digits give: of a long one nothing.
abbrev pub QuickOf : Quick → Maybe ℕ → Type 0
QuickOf (quick.Is n) m = m ≡ just n
QuickOf quick.No m = m ≡ nothing
QuickOf quick.Long m = Unit {0}

-- Four words are in range.
pub record Fit (w : Wide) : Type 0 where
  pub a : w.a < 2 ^ 32
  pub b : w.b < 2 ^ 32
  pub c : w.c < 2 ^ 32
  pub d : w.d < 2 ^ 32

-- m times the words w, and a digit more, are the words r and what goes over them.
pub record Grows (w : Wide) (m digit : ℕ) (r : Wide) (over : ℕ) : Type 0 where
  pub sum : r.a + 2 ^ 32 * (r.b + 2 ^ 32 * (r.c + 2 ^ 32 * (r.d + 2 ^ 32 * over))) ≡ m * value_of w + digit
  pub fit : Fit r
