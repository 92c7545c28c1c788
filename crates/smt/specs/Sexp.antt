-- S-expressions of SMT-LIB 2.6: its lexical rules (section 3.1) as far as symbols, numerals, strings and reserved words go, and how one is printed
-- with its items one space apart.
use Rattle.std.specs.Prelude.{ℕ, Bool, true, false, not, ◌&&◌, ◌||◌, List, [], ◌∷◌, ◌++◌, eqb, leb}
use Prim.Native.String.{String}
use Rattle.reading.specs.Pick.{pick}
use Rattle.reading.specs.Bytes.{ascii, same_bytes}
use Rattle.reading.specs.Number.{is_digit}
use Rattle.writing.specs.Digits.{decimal}

-- A symbol is its bytes, without the bars that may stand round it; so is a string without its quotes.
mutual
  pub data Sx : Type 0 where
    symbol string reserved : List ℕ → Sx
    numeral : ℕ → Sx
    list : Sxs → Sx

  pub data Sxs : Type 0 where
    xnil : Sxs
    xcons : Sx → Sxs → Sxs

-- A byte from one to another.
abbrev pub between : ℕ → ℕ → ℕ → Bool
between low high b = leb low b && leb b high

-- One of these bytes.
abbrev pub one_among : List ℕ → ℕ → Bool
one_among [] b = false
one_among (x ∷ xs) b = eqb b x || one_among xs b

-- Each byte passes.
abbrev pub every : (ℕ → Bool) → List ℕ → Bool
every p [] = true
every p (b ∷ bs) = p b && every p bs

-- A decimal digit.
abbrev pub digit : ℕ → Bool
digit b = is_digit 10 b

-- A byte of a symbol that needs no bars.
unfoldable pub symbol_byte : ℕ → Bool
symbol_byte b = between 65 90 b || between 97 122 b || digit b || one_among (ascii "~!@$%^&*_-+=<>.?/") b

-- Space, tab, line feed, carriage return.
unfoldable pub white : ℕ → Bool
white b = eqb b 32 || eqb b 9 || eqb b 10 || eqb b 13

-- A byte that SMT-LIB calls printable; of those above 127 every one.
unfoldable pub printable : ℕ → Bool
printable b = between 32 126 b || between 128 255 b

-- A byte between bars.
unfoldable pub quotable : ℕ → Bool
quotable b = (white b || printable b) && not (eqb b 124) && not (eqb b 92)

-- One of these words.
abbrev pub listed : List String → List ℕ → Bool
listed [] w = false
listed (s ∷ ss) w = same_bytes w (ascii s) || listed ss w

-- The reserved words: the general ones and the names of commands.
unfoldable pub reserved_words : List String
reserved_words =
    "!" ∷ "_" ∷ "as" ∷ "BINARY" ∷ "DECIMAL" ∷ "exists" ∷ "HEXADECIMAL" ∷ "forall" ∷ "let" ∷ "match" ∷ "NUMERAL" ∷ "par" ∷ "STRING"
    ∷ "assert" ∷ "check-sat" ∷ "check-sat-assuming" ∷ "declare-const" ∷ "declare-datatype" ∷ "declare-datatypes" ∷ "declare-fun"
    ∷ "declare-sort" ∷ "define-fun" ∷ "define-fun-rec" ∷ "define-funs-rec" ∷ "define-sort" ∷ "echo" ∷ "exit" ∷ "get-assertions"
    ∷ "get-assignment" ∷ "get-info" ∷ "get-model" ∷ "get-option" ∷ "get-proof" ∷ "get-unsat-assumptions" ∷ "get-unsat-core"
    ∷ "get-value" ∷ "pop" ∷ "push" ∷ "reset" ∷ "reset-assertions" ∷ "set-info" ∷ "set-logic" ∷ "set-option" ∷ []

-- A word that is no symbol.
unfoldable pub is_reserved : List ℕ → Bool
is_reserved w = listed reserved_words w

-- A symbol that needs no bars.
unfoldable pub simple : List ℕ → Bool
simple [] = false
simple (b ∷ bs) = every symbol_byte (b ∷ bs) && not (digit b) && not (is_reserved (b ∷ bs))

-- A symbol, in bars where it needs them.
unfoldable pub symbol_text : List ℕ → List ℕ
symbol_text s = pick (simple s) s (124 ∷ s ++ (124 ∷ []))

-- The bytes of an S-expression.
unfoldable mutual
  pub print : Sx → List ℕ
  print (symbol s) = symbol_text s
  print (string s) = 34 ∷ s ++ (34 ∷ [])
  print (reserved w) = w
  print (numeral n) = decimal n
  print (list xs) = 40 ∷ inside xs ++ (41 ∷ [])

  -- Items one space apart.
  pub inside : Sxs → List ℕ
  inside xnil = []
  inside (xcons x xs) = print x ++ spaced xs

  -- A space before each item.
  pub spaced : Sxs → List ℕ
  spaced xnil = []
  spaced (xcons x xs) = 32 ∷ print x ++ spaced xs
