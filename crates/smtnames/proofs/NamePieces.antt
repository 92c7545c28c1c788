-- Names, strings and fresh variables, piece by piece.
use Prim.Native.Nat.{ℕ, suc, ◌+◌, ◌-◌, ◌/◌, ◌%◌, ◌^◌, ◌≤◌, ◌<◌, min}
use mathlib.Core.Bool.{Bool, true, false, ◌&&◌}
use Rattle.std.specs.List.{list_all}
use mathlib.Core.Path.{◌≡◌, refl, sym, ap, ◌∙◌}
use mathlib.Core.List.{List, [], ◌∷◌, ◌++◌}
use native.Mathlib.Omega.{arith}
use lib.ListN.{length, get_or, take, drop, length-drop, drop_of_length-le}
use lib.Seq.{drop-cons, take_all, take-nil}
use Rattle.reading.specs.Pick.{pick}
use Rattle.reading.specs.Bytes.{ascii, Span, bytes_at}
use Rattle.reading.specs.Number.{value_of}
use Rattle.reading.proofs.Values.{value-back}
use Rattle.words.specs.declared.quad.Quad.{Quad}
use Rattle.words.specs.Quads.{as_wide, InFour}
use borrow.Author.Tests.{leb-true}
use native.Mathlib.Nat.{lt_of_lt_of_le}
use Rattle.reading.specs.Answer.{Ans, got, bad, and_then, unprintable}
use Rattle.writing.specs.Digits.{decimal}
use Rattle.writing.proofs.Wrote.{either}
use Rattle.smt.specs.Writer.{writable, all_writable, bytes_of}
use Rattle.smtnames.specs.Pieces.{joined, name_text, fresh_text, string_text}

-- The bytes of a span, or the refusal.
pub bytes_good : (text : List ℕ) (s : Span) {part : List ℕ} → part ≡ bytes_at text s → all_writable part ≡ true → bytes_of text s ≡ got part
unfolding bytes_of pick
bytes_good text s e h = rw (← e, h)

pub bytes-bad : (text : List ℕ) (s : Span) {part : List ℕ} → part ≡ bytes_at text s → all_writable part ≡ false → bytes_of text s ≡ bad unprintable
unfolding bytes_of pick
bytes-bad text s e h = rw (← e, h)

-- All bytes can be written, by the library's word.
both : (w : Bool) {x y : Bool} → x ≡ y → (w && x) ≡ pick w y false
unfolding pick
both true e = e
both false e = refl

pub writable-all : (bs : List ℕ) → list_all writable bs ≡ all_writable bs
unfolding all_writable
writable-all [] = refl
writable-all (b ∷ bs) = both (writable b) (writable-all bs)

-- A name and a string, by the bytes of the span.
pub name-text : (text : List ℕ) (kind : ℕ) (s : Span) → name_text text kind s ≡ joined (got (124 ∷ [])) (joined (got (kind ∷ [])) (joined (got (32 ∷ [])) (joined (bytes_of text s) (got (124 ∷ [])))))
unfolding name_text joined
name-text text kind s = go (bytes_of text s)
  where
    go : (x : Ans (List ℕ)) → and_then x (λ name. got (124 ∷ kind ∷ 32 ∷ name ++ (124 ∷ []))) ≡ joined (got (124 ∷ [])) (joined (got (kind ∷ [])) (joined (got (32 ∷ [])) (joined x (got (124 ∷ [])))))
    go (got name) = refl
    go (bad r) = refl

pub string-text : (text : List ℕ) (s : Span) → string_text text s ≡ joined (got (34 ∷ [])) (joined (bytes_of text s) (got (34 ∷ [])))
unfolding string_text joined
string-text text s = go (bytes_of text s)
  where
    go : (x : Ans (List ℕ)) → and_then x (λ bytes. got (34 ∷ bytes ++ (34 ∷ []))) ≡ joined (got (34 ∷ [])) (joined x (got (34 ∷ [])))
    go (got bytes) = refl
    go (bad r) = refl

-- A fresh variable.
pub fresh-text : (k : ℕ) → ascii "|v " ++ (decimal k ++ (124 ∷ [])) ≡ fresh_text k
unfolding fresh_text
fresh-text k = refl

-- A number of 64 bits in words.
pub quad_value : (n : ℕ) → value_of (record { a = n % 4294967296; b = n / 4294967296; c = 0; d = 0 }) ≡ n
unfolding value_of
quad_value n = omega arith

pub four-value : (n : ℕ) (q : Quad) → n < 2 ^ 64 → InFour n q → value_of (as_wide q) ≡ n
four-value n q h e = ap (λ (x : Quad). value_of (as_wide x)) e ∙ value-back n (lt_of_lt_of_le h (leb-true (2 ^ 64) (2 ^ 128) refl))
