-- What the readers of single fields read where the words of a field stand.
use Prim.Native.Nat.{ℕ, ◌+◌, ◌*◌, ◌/◌, ◌%◌, ◌^◌, ◌<◌}
use mathlib.Core.Path.{◌≡◌, refl, ap}
use mathlib.Core.List.{List, ◌∷◌, ◌++◌}
use native.Mathlib.Omega.{arith}
use lib.ListN.{length}
use borrow.Author.Tests.{lt-ltb, le-leb}
use Rattle.reading.specs.Pick.{pick}
use Rattle.reading.specs.Bytes.{Span, SpanWithin}
use Rattle.reading.specs.Number.{Wide}
use Rattle.reading.specs.Tree.{span_words, wide_words}
use Rattle.reading.specs.At.{At}
use Rattle.reading.proofs.Placed.{at_tail, at-below, at-word}
use Rattle.grammar.specs.Sort.{two}
use Rattle.judging.specs.Judge.{reads, word, word_below, two_words, four_words, span_within}

-- The same value, and the same position written otherwise.
pub moved : {A : Type 0} {a : A} {m n : ℕ} → m ≡ n → reads a m ≡ reads a n
moved {a = a} e = ap (reads a) e

-- A word.
pub word_back : {ws : List ℕ} {at x : ℕ} {xs : List ℕ} → At ws at (x ∷ xs) → word ws at ≡ reads x (at + 1)
unfolding word pick
word_back {ws} {at} h = rw (lt-ltb at (length ws) (at-below h), at-word h) refl

-- A word below a bound.
pub below-back : {ws : List ℕ} {at x : ℕ} {xs : List ℕ} (m : ℕ) → x < m → At ws at (x ∷ xs) → word_below m ws at ≡ reads x (at + 1)
unfolding word_below pick
below-back {x = x} m u h = rw (word_back h, lt-ltb x m u) refl

-- A number below 2^64 from its low word and its high word.
low-high : (v : ℕ) → v < 2 ^ 64 → v % 2 ^ 32 + v / 2 ^ 32 % 2 ^ 32 * 2 ^ 32 ≡ v
low-high v h = omega arith

-- A number of 64 bits.
pub two_back : {ws : List ℕ} {at : ℕ} {xs : List ℕ} (v : ℕ) → v < 2 ^ 64 → At ws at (two v ++ xs) → two_words ws at ≡ reads v (at + 2)
unfolding two_words
two_back v u h = rw (word_back h, word_back (at_tail h), low-high v u) (moved (omega arith))

-- A number of 128 bits.
pub four-back : {ws : List ℕ} {at : ℕ} {xs : List ℕ} (v : Wide) → At ws at (wide_words v ++ xs) → four_words ws at ≡ reads v (at + 4)
unfolding four_words
four-back v h =
    rw (word_back h, word_back (at_tail h), word_back (at_tail (at_tail h)), word_back (at_tail (at_tail (at_tail h)))) (moved (omega arith))

-- A span.
pub span-back : {ws : List ℕ} {at : ℕ} {xs : List ℕ} (limit : ℕ) (s : Span) → SpanWithin s limit → At ws at (span_words s ++ xs) → span_within limit ws at ≡ reads s (at + 2)
unfolding span_within pick
span-back limit s u h = rw (word_back h, word_back (at_tail h), le-leb (s.start + s.len) limit u) (moved (omega arith))
