-- Laws of lines, and of the loop that writes one.
use Prim.Native.Nat.{ℕ, suc, ◌+◌, ◌-◌, ◌*◌, ◌≤◌, ◌<◌}
use mathlib.Core.Path.{◌≡◌, refl, sym, ap, ◌∙◌}
use mathlib.Core.List.{List, [], ◌∷◌, ◌++◌}
use native.Mathlib.Numerals.{add-one}
use native.Mathlib.Omega.{arith}
use borrow.Author.Tests.{eq-eqb, ne_eqb}
use lib.Dec.{eqb}
use lib.ListN.{length, take, drop, get_or, length-drop}
use lib.Seq.{sets, length-sets, length-take-le, drop-cons}
use Rattle.reading.specs.Pick.{pick}
use Rattle.writing.specs.Digits.{eight_digits}
use Rattle.show.specs.Lines.{separator, line}
use Rattle.show.proofs.Stores.{sets_append}

-- Nine bytes a word.
pub line-length : (ws : List ℕ) → length (line ws) ≡ 9 * length ws
unfolding line
line-length [] = refl
line-length (w ∷ ws) = omega (arith, line-length ws)

-- The words of a list between two places.
abbrev pub between : List ℕ → ℕ → ℕ → List ℕ
between words from to = take (to - from) (drop from words)

-- How many they are.
between-length : (words : List ℕ) (from to : ℕ) → to ≤ length words → length (between words from to) ≡ to - from
between-length words from to h = length-take-le (to - from) (drop from words) (rw length-drop (omega arith))

-- The separator by whether a place is the last.
separator-at : (ws : List ℕ) (next to : ℕ) → next ≤ to → length ws ≡ to - next → separator ws ≡ pick (eqb next to) 10 32
unfolding pick
separator-at [] next to h e = rw (eq-eqb next to (omega arith)) refl
separator-at (w ∷ ws) next to h e = rw (ne_eqb next to (λ q. absurd (omega arith))) refl

-- A word and its separator, as `word` writes them.
abbrev printed : ℕ → ℕ → List ℕ
printed w sep = eight_digits w ++ (sep ∷ [])

-- The first word of a line, and the line behind it.
line-next : (words : List ℕ) (i to : ℕ) → i < to → to ≤ length words
    → line (between words i to) ≡ printed (get_or words i 0) (pick (eqb (i + 1) to) 10 32) ++ line (between words (i + 1) to)
unfolding line
line-next words i to h l =
    let more : to - i ≡ suc (to - (i + 1)) = omega arith in
    let first : drop i words ≡ get_or words i 0 ∷ drop (i + 1) words = rw (add-one i) (drop-cons words i 0 (omega arith)) in
    let sep : separator (between words (i + 1) to) ≡ pick (eqb (i + 1) to) 10 32 = separator-at (between words (i + 1) to) (i + 1) to (omega arith) (between-length words (i + 1) to l) in
    rw (more, first, sep) refl

-- What is left of the line turns this output into the whole one.
pub record Lining (words : List ℕ) (from to at : ℕ) (out₀ out : List ℕ) (i a : ℕ) : Type 0 where
  pub low : from ≤ i
  pub high : i ≤ to
  pub place : a ≡ at + 9 * (i - from)
  pub kept : length out ≡ length out₀
  pub text : sets out a (line (between words i to)) ≡ sets out₀ at (line (between words from to))

-- Nothing is written yet.
pub lining_starts : (words : List ℕ) (from to at : ℕ) (out : List ℕ) → from ≤ to → Lining words from to at out out from at
lining_starts words from to at out h = record { low = omega arith; high = h; place = omega arith; kept = refl; text = refl }

-- One word more.
pub lining_more : {words : List ℕ} {from to at : ℕ} {out₀ out out' : List ℕ} {i a sep : ℕ} → Lining words from to at out₀ out i a → to ≤ length words → i < to
    → sep ≡ pick (eqb (i + 1) to) 10 32 → out' ≡ sets out a (printed (get_or words i 0) sep) → Lining words from to at out₀ out' (i + 1) (a + 9)
lining_more {words} {from} {to} {at} {out₀} {out} {out'} {i} {a} {sep} v l h q e =
    let w : List ℕ = printed (get_or words i 0) sep in
    let n : line (between words i to) ≡ w ++ line (between words (i + 1) to) = rw q (line-next words i to h l) in
    record {
      low = omega (arith, v.low);
      high = omega arith;
      place = omega (arith, v.place, v.low);
      kept = ap length e ∙ length-sets out a w ∙ v.kept;
      text = rw e (sets_append w (line (between words (i + 1) to)) out a) ∙ ap (sets out a) (sym n) ∙ v.text;
    }

-- All is written.
pub lining_ends : {words : List ℕ} {from to at : ℕ} {out₀ out : List ℕ} {i a : ℕ} → Lining words from to at out₀ out i a → to ≤ i
    → (a ≡ at + 9 * (to - from)) × (out ≡ sets out₀ at (line (between words from to)))
unfolding line
lining_ends {words} {from} {to} {at} {out₀} {out} {i} {a} v h =
    let none : to - i ≡ 0 = omega arith in
    let last : line (between words i to) ≡ [] = rw none refl in
    (omega (arith, v.place, v.high), ap (sets out a) (sym last) ∙ v.text)
