-- What is printed is read as the tokens that it was printed for.
use Prim.Native.Nat.{ℕ}
use mathlib.Core.Path.{◌≡◌, refl, sym, ap, ◌∙◌}
use mathlib.Core.List.{List, [], ◌∷◌, ◌++◌, append_assoc, append-nil}
use mathlib.Core.Bool.{Bool, true, false, not, ◌&&◌, ◌||◌, false≢true}
use lib.Dec.{eqb}
use borrow.Author.Tests.{not-true}
use Rattle.reading.specs.Pick.{pick}
use Rattle.reading.specs.Bytes.{Maybe, nothing, just}
use Rattle.reading.specs.Number.{is_digit}
use Rattle.writing.specs.Digits.{decimal}
use Rattle.smt.specs.Sexp.{Sx, symbol, string, reserved, numeral, list, Sxs, xnil, xcons, every, digit, symbol_byte, white, printable, quotable, is_reserved, simple, symbol_text, print, inside, spaced}
use Rattle.smt.specs.SexpBack.{led_by_digit, run_sx, Token, opens, closes, item, Mode, idle, run, bars, quotes, closing, Step, to, stuck, c_symbol, class_of, begin, after, step, ended, more, stepped, tokens_in}
use Rattle.smt.proofs.Tests.{and_left, and_right}
use Rattle.smt.proofs.Figures.{decimal-first, decimal-symbol, natural-decimal}

-- A byte of a string that is no quote.
unfoldable pub string_byte : ℕ → Bool
string_byte b = (white b || printable b) && not (eqb b 34)

-- A run of symbol bytes that is read as this item.
pub record IsRun (w : List ℕ) (x : Sx) : Type 0 where
  pub bytes : every symbol_byte w ≡ true
  pub item : run_sx w ≡ just x
  pub first : (b : ℕ) × (bs : List ℕ) × (w ≡ b ∷ bs)

-- S-expressions that can be printed.
abbrev mutual
  pub Clean : Sx → Type 0
  Clean (symbol s) = every quotable s ≡ true
  Clean (string s) = every string_byte s ≡ true
  Clean (reserved w) = IsRun w (reserved w)
  Clean (numeral n) = Unit {0}
  Clean (list xs) = CleanAll xs

  pub CleanAll : Sxs → Type 0
  CleanAll xnil = Unit {0}
  CleanAll (xcons x xs) = Clean x × CleanAll xs

-- The tokens of an S-expression.
unfoldable mutual
  pub tokens : Sx → List Token
  tokens (symbol s) = item (symbol s) ∷ []
  tokens (string s) = item (string s) ∷ []
  tokens (reserved w) = item (reserved w) ∷ []
  tokens (numeral n) = item (numeral n) ∷ []
  tokens (list xs) = opens ∷ tokens_all xs ++ (closes ∷ [])

  pub tokens_all : Sxs → List Token
  tokens_all xnil = []
  tokens_all (xcons x xs) = tokens x ++ tokens_all xs

-- Tokens in front.
more_nil : (m : Maybe (List Token)) → more [] m ≡ m
unfolding more
more_nil nothing = refl
more_nil (just ts) = refl

more-more : (ts us : List Token) (m : Maybe (List Token)) → more (ts ++ us) m ≡ more ts (more us m)
unfolding more
more-more ts us nothing = refl
more-more ts us (just vs) = ap just (append_assoc ts us vs)

none_more : (ts : List Token) → more ts nothing ≡ nothing
unfolding more
none_more ts = refl

after_more : (x : Sx) (s : Step) (k : Mode → Maybe (List Token)) → stepped (after (just x) s) k ≡ more (item x ∷ []) (stepped s k)
after_more x (to ts m) k = more-more (item x ∷ []) ts (k m)
after_more x stuck k = sym (none_more (item x ∷ []))

-- What follows an item: nothing, or a byte that no item goes on with.
abbrev pub Delimits : List ℕ → Type 0
Delimits [] = Unit {0}
Delimits (b ∷ bs) = (symbol_byte b ≡ false) × (eqb b 34 ≡ false)

lex_step : (b : ℕ) (bs : List ℕ) (m : Mode) (s : Step) → step m b ≡ s → tokens_in (b ∷ bs) m ≡ stepped s (tokens_in bs)
unfolding tokens_in
lex_step b bs m s e = ap (λ (s : Step). stepped s (tokens_in bs)) e

-- One byte more of an item.
lex_on : (b : ℕ) (bs : List ℕ) (m n : Mode) → step m b ≡ to [] n → tokens_in (b ∷ bs) m ≡ tokens_in bs n
lex_on b bs m n e = lex_step b bs m (to [] n) e ∙ more_nil (tokens_in bs n)

step_run : (w : List ℕ) (b : ℕ) → symbol_byte b ≡ true → step (run w) b ≡ to [] (run (w ++ (b ∷ [])))
unfolding step
step_run w b e = rw e refl

step-run-end : (w : List ℕ) (b : ℕ) (x : Sx) → symbol_byte b ≡ false → run_sx w ≡ just x → step (run w) b ≡ after (just x) (begin (class_of b) b)
unfolding step
step-run-end w b x e h = rw (e, h) refl

step-bars : (w : List ℕ) (b : ℕ) → eqb b 124 ≡ false → quotable b ≡ true → step (bars w) b ≡ to [] (bars (w ++ (b ∷ [])))
unfolding step
step-bars w b e h = rw (e, h) refl

step-quotes : (w : List ℕ) (b : ℕ) → eqb b 34 ≡ false → (white b || printable b) ≡ true → step (quotes w) b ≡ to [] (quotes (w ++ (b ∷ [])))
unfolding step
step-quotes w b e h = rw (e, h) refl

step-closing : (w : List ℕ) (b : ℕ) → eqb b 34 ≡ false → step (closing w) b ≡ after (just (string w)) (begin (class_of b) b)
unfolding step
step-closing w b e = rw e refl

step-idle : (b : ℕ) → step idle b ≡ begin (class_of b) b
unfolding step
step-idle b = refl

class_symbol : (b : ℕ) → symbol_byte b ≡ true → class_of b ≡ c_symbol
unfolding class_of pick
class_symbol b e = rw e refl

-- Runs of symbol bytes.
run_on : (xs w r : List ℕ) → every symbol_byte xs ≡ true → tokens_in (xs ++ r) (run w) ≡ tokens_in r (run (w ++ xs))
run_on [] w r h = ap (λ (l : List ℕ). tokens_in r (run l)) (sym (append-nil w))
run_on (b ∷ bs) w r h =
    lex_on b (bs ++ r) (run w) (run (w ++ (b ∷ []))) (step_run w b (and_left (symbol_byte b) (every symbol_byte bs) h))
    ∙ run_on bs (w ++ (b ∷ [])) r (and_right (symbol_byte b) (every symbol_byte bs) h)
    ∙ ap (λ (l : List ℕ). tokens_in r (run l)) (append_assoc w (b ∷ []) bs)

run_end : (w : List ℕ) (x : Sx) (r : List ℕ) → run_sx w ≡ just x → Delimits r → tokens_in r (run w) ≡ more (item x ∷ []) (tokens_in r idle)
unfolding tokens_in ended more
run_end w x [] e d = rw e refl
run_end w x (b ∷ bs) e d =
    lex_step b bs (run w) (after (just x) (begin (class_of b) b)) (step-run-end w b x d.0 e)
    ∙ after_more x (begin (class_of b) b) (tokens_in bs)
    ∙ ap (λ (s : Step). more (item x ∷ []) (stepped s (tokens_in bs))) (sym (step-idle b))

lex_run : (w : List ℕ) (x : Sx) (r : List ℕ) → IsRun w x → Delimits r → tokens_in (w ++ r) idle ≡ more (item x ∷ []) (tokens_in r idle)
lex_run w x r h d =
    let b = h.first.0 in
    let bs = h.first.1 in
    let e : w ≡ b ∷ bs = h.first.2 in
    let k : every symbol_byte (b ∷ bs) ≡ true = ap (every symbol_byte) (sym e) ∙ h.bytes in
    ap (λ (l : List ℕ). tokens_in (l ++ r) idle) e
    ∙ lex_on b (bs ++ r) idle (run (b ∷ [])) (step-idle b ∙ ap (λ c. begin c b) (class_symbol b (and_left (symbol_byte b) (every symbol_byte bs) k)))
    ∙ run_on bs (b ∷ []) r (and_right (symbol_byte b) (every symbol_byte bs) k)
    ∙ run_end (b ∷ bs) x r (ap run_sx (sym e) ∙ h.item) d

-- Symbols in bars.
not-bar : (b : ℕ) → quotable b ≡ true → eqb b 124 ≡ false
unfolding quotable
not-bar b h =
    not-true (eqb b 124) (and_right (white b || printable b) (not (eqb b 124)) (and_left ((white b || printable b) && not (eqb b 124)) (not (eqb b 92)) h))

step-bar : (w : List ℕ) → step (bars w) 124 ≡ to (item (symbol w) ∷ []) idle
unfolding step
step-bar w = refl

bars-on : (xs w r : List ℕ) → every quotable xs ≡ true → tokens_in (xs ++ (124 ∷ r)) (bars w) ≡ more (item (symbol (w ++ xs)) ∷ []) (tokens_in r idle)
bars-on [] w r h =
    lex_step 124 r (bars w) (to (item (symbol w) ∷ []) idle) (step-bar w)
    ∙ ap (λ (l : List ℕ). more (item (symbol l) ∷ []) (tokens_in r idle)) (sym (append-nil w))
bars-on (b ∷ bs) w r h =
    let q : quotable b ≡ true = and_left (quotable b) (every quotable bs) h in
    lex_on b (bs ++ (124 ∷ r)) (bars w) (bars (w ++ (b ∷ []))) (step-bars w b (not-bar b q) q)
    ∙ bars-on bs (w ++ (b ∷ [])) r (and_right (quotable b) (every quotable bs) h)
    ∙ ap (λ (l : List ℕ). more (item (symbol l) ∷ []) (tokens_in r idle)) (append_assoc w (b ∷ []) bs)

-- Strings.
step-quote : (w : List ℕ) → step (quotes w) 34 ≡ to [] (closing w)
unfolding step
step-quote w = refl

string-quote : (b : ℕ) → string_byte b ≡ true → eqb b 34 ≡ false
unfolding string_byte
string-quote b h = not-true (eqb b 34) (and_right (white b || printable b) (not (eqb b 34)) h)

string-byte : (b : ℕ) → string_byte b ≡ true → (white b || printable b) ≡ true
unfolding string_byte
string-byte b h = and_left (white b || printable b) (not (eqb b 34)) h

quotes-on : (xs w r : List ℕ) → every string_byte xs ≡ true → tokens_in (xs ++ (34 ∷ r)) (quotes w) ≡ tokens_in r (closing (w ++ xs))
quotes-on [] w r h =
    lex_on 34 r (quotes w) (closing w) (step-quote w) ∙ ap (λ (l : List ℕ). tokens_in r (closing l)) (sym (append-nil w))
quotes-on (b ∷ bs) w r h =
    let q : string_byte b ≡ true = and_left (string_byte b) (every string_byte bs) h in
    lex_on b (bs ++ (34 ∷ r)) (quotes w) (quotes (w ++ (b ∷ []))) (step-quotes w b (string-quote b q) (string-byte b q))
    ∙ quotes-on bs (w ++ (b ∷ [])) r (and_right (string_byte b) (every string_byte bs) h)
    ∙ ap (λ (l : List ℕ). tokens_in r (closing l)) (append_assoc w (b ∷ []) bs)

closing_end : (w r : List ℕ) → Delimits r → tokens_in r (closing w) ≡ more (item (string w) ∷ []) (tokens_in r idle)
unfolding tokens_in ended more
closing_end w [] d = refl
closing_end w (b ∷ bs) d =
    lex_step b bs (closing w) (after (just (string w)) (begin (class_of b) b)) (step-closing w b d.1)
    ∙ after_more (string w) (begin (class_of b) b) (tokens_in bs)
    ∙ ap (λ (s : Step). more (item (string w) ∷ []) (stepped s (tokens_in bs))) (sym (step-idle b))

-- Symbols, as they are printed.
simple-run : (s : List ℕ) → simple s ≡ true → IsRun s (symbol s)
unfolding simple run_sx pick
simple-run [] h = absurd (false≢true h)
simple-run (b ∷ bs) h =
    let p = every symbol_byte (b ∷ bs) in
    let u : (p && not (digit b)) ≡ true = and_left (p && not (digit b)) (not (is_reserved (b ∷ bs))) h in
    let r : is_reserved (b ∷ bs) ≡ false = not-true (is_reserved (b ∷ bs)) (and_right (p && not (digit b)) (not (is_reserved (b ∷ bs))) h) in
    let d : digit b ≡ false = not-true (digit b) (and_right p (not (digit b)) u) in
    record { bytes = and_left p (not (digit b)) u; item = rw (d, r) refl; first = (b, bs, refl) }

step-idle-bar : step idle 124 ≡ to [] (bars [])
unfolding step class_of symbol_byte is_digit white pick
step-idle-bar = refl

step-idle-quote : step idle 34 ≡ to [] (quotes [])
unfolding step class_of symbol_byte is_digit white pick
step-idle-quote = refl

lex_symbol : (s r : List ℕ) → every quotable s ≡ true → Delimits r → tokens_in (symbol_text s ++ r) idle ≡ more (item (symbol s) ∷ []) (tokens_in r idle)
unfolding symbol_text pick
lex_symbol s r q d = go (simple s) refl
  where
    go : (t : Bool) → simple s ≡ t → tokens_in (pick t s (124 ∷ s ++ (124 ∷ [])) ++ r) idle ≡ more (item (symbol s) ∷ []) (tokens_in r idle)
    go true e = lex_run s (symbol s) r (simple-run s e) d
    go false e =
        lex_on 124 ((s ++ (124 ∷ [])) ++ r) idle (bars []) step-idle-bar
        ∙ ap (λ (l : List ℕ). tokens_in l (bars [])) (append_assoc s (124 ∷ []) r)
        ∙ bars-on s [] r q

-- Numerals.
numeral-run : (n : ℕ) → IsRun (decimal n) (numeral n)
unfolding run_sx pick
numeral-run n = record { bytes = decimal-symbol n; item = rw (decimal-first n, natural-decimal n) refl; first = go (decimal n) (decimal-first n) }
  where
    go : (w : List ℕ) → led_by_digit w ≡ true → (b : ℕ) × (bs : List ℕ) × (w ≡ b ∷ bs)
    go [] h = absurd (false≢true h)
    go (b ∷ bs) h = (b, bs, refl)

-- Lists.
step_open : step idle 40 ≡ to (opens ∷ []) idle
unfolding step class_of symbol_byte is_digit white pick
step_open = refl

step_close : step idle 41 ≡ to (closes ∷ []) idle
unfolding step class_of symbol_byte is_digit white pick
step_close = refl

step-space : step idle 32 ≡ to [] idle
unfolding step class_of symbol_byte is_digit white pick
step-space = refl

close_delimits : (r : List ℕ) → Delimits (41 ∷ r)
unfolding symbol_byte is_digit pick
close_delimits r = (refl, refl)

space_delimits : (r : List ℕ) → Delimits (32 ∷ r)
unfolding symbol_byte is_digit pick
space_delimits r = (refl, refl)

spaced_delimits : (xs : Sxs) (r : List ℕ) → Delimits r → Delimits (spaced xs ++ r)
unfolding print
spaced_delimits xnil r d = d
spaced_delimits (xcons x xs) r d = space_delimits ((print x ++ spaced xs) ++ r)

mutual
  unfolding print tokens

  lex_sx : (x : Sx) (r : List ℕ) → Clean x → Delimits r → tokens_in (print x ++ r) idle ≡ more (tokens x) (tokens_in r idle)
  lex_sx (symbol s) r c d = lex_symbol s r c d
  lex_sx (string s) r c d =
      lex_on 34 ((s ++ (34 ∷ [])) ++ r) idle (quotes []) step-idle-quote
      ∙ ap (λ (l : List ℕ). tokens_in l (quotes [])) (append_assoc s (34 ∷ []) r)
      ∙ quotes-on s [] r c
      ∙ closing_end s r d
  lex_sx (reserved w) r c d = lex_run w (reserved w) r c d
  lex_sx (numeral n) r c d = lex_run (decimal n) (numeral n) r (numeral-run n) d
  lex_sx (list xs) r c d =
      lex_step 40 ((inside xs ++ (41 ∷ [])) ++ r) idle (to (opens ∷ []) idle) step_open
      ∙ ap (more (opens ∷ [])) (
      ap (λ (l : List ℕ). tokens_in l idle) (append_assoc (inside xs) (41 ∷ []) r)
      ∙ lex_inside xs (41 ∷ r) c (close_delimits r)
      ∙ ap (more (tokens_all xs)) (lex_step 41 r idle (to (closes ∷ []) idle) step_close)
      ∙ sym (more-more (tokens_all xs) (closes ∷ []) (tokens_in r idle)))
      ∙ sym (more-more (opens ∷ []) (tokens_all xs ++ (closes ∷ [])) (tokens_in r idle))

  lex_inside : (xs : Sxs) (r : List ℕ) → CleanAll xs → Delimits r → tokens_in (inside xs ++ r) idle ≡ more (tokens_all xs) (tokens_in r idle)
  lex_inside xnil r c d = sym (more_nil (tokens_in r idle))
  lex_inside (xcons x xs) r c d =
      ap (λ (l : List ℕ). tokens_in l idle) (append_assoc (print x) (spaced xs) r)
      ∙ lex_sx x (spaced xs ++ r) c.0 (spaced_delimits xs r d)
      ∙ ap (more (tokens x)) (lex_spaced xs r c.1 d)
      ∙ sym (more-more (tokens x) (tokens_all xs) (tokens_in r idle))

  lex_spaced : (xs : Sxs) (r : List ℕ) → CleanAll xs → Delimits r → tokens_in (spaced xs ++ r) idle ≡ more (tokens_all xs) (tokens_in r idle)
  lex_spaced xnil r c d = sym (more_nil (tokens_in r idle))
  lex_spaced (xcons x xs) r c d =
      lex_on 32 ((print x ++ spaced xs) ++ r) idle idle step-space
      ∙ ap (λ (l : List ℕ). tokens_in l idle) (append_assoc (print x) (spaced xs) r)
      ∙ lex_sx x (spaced xs ++ r) c.0 (spaced_delimits xs r d)
      ∙ ap (more (tokens x)) (lex_spaced xs r c.1 d)
      ∙ sym (more-more (tokens x) (tokens_all xs) (tokens_in r idle))

last : (ts : List Token) → more ts (tokens_in [] idle) ≡ just ts
unfolding tokens_in ended more
last ts = ap just (append-nil ts)

whole : (ts us : List Token) → more ts (just us) ≡ just (ts ++ us)
unfolding more
whole ts us = refl

-- Two, a space between them.
pub lex_two : (x y : Sx) → Clean x → Clean y → tokens_in (print x ++ (32 ∷ print y)) idle ≡ just (tokens x ++ tokens y)
lex_two x y c d =
    lex_sx x (32 ∷ print y) c (space_delimits (print y))
    ∙ ap (more (tokens x)) (
    lex_on 32 (print y) idle idle step-space
    ∙ ap (λ (l : List ℕ). tokens_in l idle) (sym (append-nil (print y)))
    ∙ lex_sx y [] d tt
    ∙ last (tokens y))
    ∙ whole (tokens x) (tokens y)
