-- S-expressions read from bytes by the rules of SMT-LIB 2.6: tokens, one byte at a time, then lists.
use Rattle.std.specs.Prelude.{ℕ, Bool, true, false, ◌||◌, List, [], ◌∷◌, ◌++◌, eqb}
use Rattle.reading.specs.Pick.{pick}
use Rattle.reading.specs.Bytes.{Maybe, nothing, just}
use Rattle.reading.specs.Number.{all_digits, value_from}
use Rattle.smt.specs.Sexp.{Sx, symbol, string, reserved, numeral, list, Sxs, xnil, xcons, digit, symbol_byte, white, printable, quotable, is_reserved}

-- One after the other; where there is no value it ends.
abbrev pub then : {A B : Type 0} → Maybe A → (A → Maybe B) → Maybe B
then nothing f = nothing
then (just a) f = f a

-- A numeral: 0, or digits of which the first is not 0.
unfoldable pub canonical : List ℕ → Bool
canonical [] = false
canonical (b ∷ []) = digit b
canonical (b ∷ c ∷ bs) = pick (eqb b 48) false (all_digits 10 (b ∷ c ∷ bs))

-- The number of a numeral.
unfoldable pub natural : List ℕ → Maybe ℕ
natural w = pick (canonical w) (just (value_from 10 0 w)) nothing

-- Its first byte is a digit.
abbrev pub led_by_digit : List ℕ → Bool
led_by_digit [] = false
led_by_digit (b ∷ bs) = digit b

-- What a run of symbol bytes is. One that begins with a digit and is no numeral is refused.
unfoldable pub run_sx : List ℕ → Maybe Sx
run_sx w = pick (led_by_digit w) (then (natural w) λ n. just (numeral n)) (pick (is_reserved w) (just (reserved w)) (just (symbol w)))

-- Parentheses, and what is no list.
pub data Token : Type 0 where
  opens closes : Token
  item : Sx → Token

-- What the bytes before stand in: nothing, a comment, a run of symbol bytes, a symbol in bars, a string, or behind a quote that ends a string
-- unless another one follows.
pub data Mode : Type 0 where
  idle comment : Mode
  run bars quotes closing : List ℕ → Mode

-- What a byte leads to: the tokens that end with it, and the next mode.
pub data Step : Type 0 where
  to : List Token → Mode → Step
  stuck : Step

-- What a byte begins where no item has begun.
pub data Class : Type 0 where
  c_symbol c_white c_open c_close c_bar c_quote c_semicolon c_other : Class

-- Symbol bytes first.
unfoldable pub class_of : ℕ → Class
class_of b =
    pick (symbol_byte b) c_symbol
    (pick (white b) c_white
    (pick (eqb b 40) c_open
    (pick (eqb b 41) c_close
    (pick (eqb b 124) c_bar
    (pick (eqb b 34) c_quote
    (pick (eqb b 59) c_semicolon c_other))))))

-- A byte outside every item.
abbrev pub begin : Class → ℕ → Step
begin c_symbol b = to [] (run (b ∷ []))
begin c_white b = to [] idle
begin c_open b = to (opens ∷ []) idle
begin c_close b = to (closes ∷ []) idle
begin c_bar b = to [] (bars [])
begin c_quote b = to [] (quotes [])
begin c_semicolon b = to [] comment
begin c_other b = stuck

-- The same where an item has ended just before.
abbrev pub after : Maybe Sx → Step → Step
after nothing s = stuck
after (just x) stuck = stuck
after (just x) (to ts m) = to (item x ∷ ts) m

-- A byte in a run of symbol bytes, by whether it is one.
abbrev pub in_run : Bool → List ℕ → ℕ → Step
in_run true w b = to [] (run (w ++ (b ∷ [])))
in_run false w b = after (run_sx w) (begin (class_of b) b)

-- A byte between bars, by whether it is a bar and whether it may stand there.
abbrev pub in_bars : Bool → Bool → List ℕ → ℕ → Step
in_bars true q w b = to (item (symbol w) ∷ []) idle
in_bars false true w b = to [] (bars (w ++ (b ∷ [])))
in_bars false false w b = stuck

-- A byte of a string, by whether it is a quote and whether it may stand there.
abbrev pub in_quotes : Bool → Bool → List ℕ → ℕ → Step
in_quotes true q w b = to [] (closing w)
in_quotes false true w b = to [] (quotes (w ++ (b ∷ [])))
in_quotes false false w b = stuck

-- A byte behind a quote in a string, by whether it is another one.
abbrev pub behind_quote : Bool → List ℕ → ℕ → Step
behind_quote true w b = to [] (quotes (w ++ (34 ∷ [])))
behind_quote false w b = after (just (string w)) (begin (class_of b) b)

-- A byte, by what the bytes before stand in.
unfoldable pub step : Mode → ℕ → Step
step idle b = begin (class_of b) b
step comment b = pick (eqb b 10 || eqb b 13) (to [] idle) (to [] comment)
step (run w) b = in_run (symbol_byte b) w b
step (bars w) b = in_bars (eqb b 124) (quotable b) w b
step (quotes w) b = in_quotes (eqb b 34) (white b || printable b) w b
step (closing w) b = behind_quote (eqb b 34) w b

-- Behind the last byte.
unfoldable pub ended : Mode → Maybe (List Token)
ended idle = just []
ended comment = just []
ended (run w) = then (run_sx w) λ x. just (item x ∷ [])
ended (bars w) = nothing
ended (quotes w) = nothing
ended (closing w) = just (item (string w) ∷ [])

-- Tokens in front of others.
unfoldable pub more : List Token → Maybe (List Token) → Maybe (List Token)
more ts nothing = nothing
more ts (just us) = just (ts ++ us)

-- The tokens of a step, and those behind it.
abbrev pub stepped : Step → (Mode → Maybe (List Token)) → Maybe (List Token)
stepped (to ts m) k = more ts (k m)
stepped stuck k = nothing

-- The tokens of bytes.
unfoldable pub tokens_in : List ℕ → Mode → Maybe (List Token)
tokens_in [] m = ended m
tokens_in (b ∷ bs) m = stepped (step m b) (tokens_in bs)

-- One S-expression more.
unfoldable pub snoc : Sxs → Sx → Sxs
snoc xnil x = xcons x xnil
snoc (xcons y ys) x = xcons y (snoc ys x)

-- S-expressions from tokens: the list that is open, and the lists round it, innermost first.
unfoldable pub build : List Token → Sxs → List Sxs → Maybe Sxs
build [] now [] = just now
build [] now (o ∷ os) = nothing
build (opens ∷ ts) now os = build ts xnil (now ∷ os)
build (closes ∷ ts) now [] = nothing
build (closes ∷ ts) now (o ∷ os) = build ts (snoc o (list now)) os
build (item x ∷ ts) now os = build ts (snoc now x) os

-- The S-expressions that stand one behind the other in bytes.
unfoldable pub read_sxs : List ℕ → Maybe Sxs
read_sxs bytes = then (tokens_in bytes idle) λ ts. build ts xnil []
