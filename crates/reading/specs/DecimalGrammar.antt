-- What is promised of decimals: an atom is one exactly if it is written by the grammar here and is no integer. So it has a digit, and no letter
-- but one `e` or `E`; and no word of letters is one, `inf`, `infinity` and `nan` among them.
use Rattle.std.specs.Prelude.{ℕ, ◌+◌, ◌≤◌, Bool, true, false, ◌≡◌, List, [], ◌∷◌, ◌++◌, ltb, length}
use Rattle.reading.specs.Pick.{pick}
use Rattle.reading.specs.Bytes.{ascii, same_bytes, Span, nothing}
use Rattle.reading.specs.Number.{is_digit, all_digits, integer_of}
use Rattle.reading.specs.Tree.{symbol, decimal}
use Rattle.reading.specs.Token.{atom_of}

-- Digits only, perhaps none.
abbrev pub Digits : List ℕ → Type 0
Digits s = all_digits 10 s ≡ true

-- A sign, or none.
pub data Sign : List ℕ → Type 0 where
  no_sign : Sign []
  plus : Sign (ascii "+")
  minus : Sign (ascii "-")

-- Digits, at least one; or a point with digits before it, behind it or both.
pub data Figures : List ℕ → Type 0 where
  whole : (d : List ℕ) → Digits d → 1 ≤ length d → Figures d
  pointed : (d f : List ℕ) → Digits d → Digits f → 1 ≤ length d + length f → Figures (d ++ (ascii "." ++ f))

-- The letter of an exponent.
pub data Mark : List ℕ → Type 0 where
  small : Mark (ascii "e")
  large : Mark (ascii "E")

-- That letter, a sign or none, and digits, at least one; or no exponent.
pub data Exponent : List ℕ → Type 0 where
  no_exponent : Exponent []
  exponent : {e g : List ℕ} (d : List ℕ) → Mark e → Sign g → Digits d → 1 ≤ length d → Exponent (e ++ (g ++ d))

-- A decimal, and an integer too: a sign or none, figures, an exponent or none.
pub data Figured : List ℕ → Type 0 where
  figured : {g f x : List ℕ} → Sign g → Figures f → Exponent x → Figured (g ++ (f ++ x))

-- The atom of some bytes is a decimal exactly if they are written so and are no integer, which a number from -2^127 to 2^127 - 1 is.
pub record DecimalExactly (bytes : List ℕ) (s : Span) : Type 0 where
  pub written : atom_of bytes s ≡ decimal s → Figured bytes
  pub beyond : atom_of bytes s ≡ decimal s → integer_of bytes ≡ nothing
  pub taken : Figured bytes → integer_of bytes ≡ nothing → atom_of bytes s ≡ decimal s

-- A byte is a letter, `A` to `Z` or `a` to `z`.
unfoldable pub is_letter : ℕ → Bool
is_letter b = pick (ltb b 65) false (pick (ltb b 91) true (pick (ltb b 97) false (ltb b 123)))

-- The letters among bytes.
unfoldable pub letters_of : List ℕ → List ℕ
letters_of [] = []
letters_of (b ∷ s) = pick (is_letter b) (b ∷ letters_of s) (letters_of s)

-- A digit is among them.
unfoldable pub has_digit : List ℕ → Bool
has_digit [] = false
has_digit (b ∷ s) = pick (is_digit 10 b) true (has_digit s)

-- No letter, or one that is an exponent's.
pub data AtMostOneMark : List ℕ → Type 0 where
  no_mark : AtMostOneMark []
  one_mark : {e : List ℕ} → Mark e → AtMostOneMark e

-- A digit, and at most that letter.
pub record DecimalHas (bytes : List ℕ) : Type 0 where
  pub digit : has_digit bytes ≡ true
  pub letters : AtMostOneMark (letters_of bytes)

-- Every atom that is a decimal has these.
abbrev pub DecimalsHave : Type 0
DecimalsHave = (bytes : List ℕ) (s : Span) → atom_of bytes s ≡ decimal s → DecimalHas bytes

-- A sign or none, and bytes that are all letters, are a symbol, but for `true` and `false`.
abbrev pub WordsAreSymbols : Type 0
WordsAreSymbols =
    (g w : List ℕ) (s : Span) → Sign g → letters_of w ≡ w → same_bytes (g ++ w) (ascii "true") ≡ false → same_bytes (g ++ w) (ascii "false") ≡ false
    → atom_of (g ++ w) s ≡ symbol s
