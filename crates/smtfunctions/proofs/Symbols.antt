-- Symbols that are written as they are, and the names of theory functions.
use Prim.Native.Nat.{ℕ, ◌-◌, ◌≤◌, ◌<◌}
use mathlib.Core.Path.{◌≡◌, refl, ap}
use mathlib.Core.List.{List}
use native.Mathlib.Omega.{arith}
use borrow.Author.Tests.{lt-ltb, le-ltb}
use Rattle.reading.specs.Number.{is_digit}
use Rattle.reading.specs.Pick.{pick}
use Rattle.reading.specs.Bytes.{ascii, same_bytes}
use Rattle.reading.specs.Answer.{got, bad, unwritable}
use Rattle.smt.specs.Sexp.{symbol_byte, reserved_words, is_reserved, simple, symbol_text, print}
use Rattle.smt.specs.Vocabulary.{bit_vectors}
use Rattle.smt.specs.Writer.{spelled_at, function_of}
use Rattle.smt.proofs.Text.{function-text}
use Rattle.smtnames.specs.Pieces.{ident_text}
use Rattle.smtfunctions.specs.Functions.{function_text}

-- Written as it is.
abbrev pub Bare : List ℕ → Type 0
Bare s = symbol_text s ≡ s

-- Symbols of SMT-LIB's own that stand in no table.
pub record OwnBare : Type 0 where
  pub yes : Bare (ascii "true")
  pub no : Bare (ascii "false")
  pub minus : Bare (ascii "-")
  pub choice : Bare (ascii "ite")
  pub both : Bare (ascii "and")
  pub either : Bare (ascii "or")
  pub negated : Bare (ascii "not")
  pub implied : Bare (ascii "=>")
  pub same : Bare (ascii "=")
  pub tester : Bare (ascii "is")

pub own_bare : OwnBare
unfolding symbol_text simple symbol_byte is_digit is_reserved reserved_words same_bytes pick
own_bare =
    record { yes = refl; no = refl; minus = refl; choice = refl; both = refl; either = refl; negated = refl; implied = refl; same = refl; tester = refl }

-- A theory function by its number.
pub function-named : (k : ℕ) → 9 ≤ k → k < 32 → function_text k ≡ got (spelled_at bit_vectors (k - 9))
unfolding function_text ident_text function_of print pick
function-named k h l = rw (le-ltb k 9 h, lt-ltb k 32 l) (ap got (function-text (k - 9) (omega (arith, h, l))))

pub function-low : (k : ℕ) → k < 9 → function_text k ≡ bad unwritable
unfolding function_text ident_text function_of pick
function-low k h = rw (lt-ltb k 9 h) refl

pub function-high : (k : ℕ) → 32 ≤ k → function_text k ≡ bad unwritable
unfolding function_text ident_text function_of pick
function-high k h = rw (le-ltb k 9 (omega (arith, h)), le-ltb k 32 h) refl
