-- Laws of what is shown: a text in an output with room for it, and nothing in any other.
use Prim.Native.Nat.{ℕ, ◌≤◌, ◌<◌}
use mathlib.Core.Bool.{false}
use mathlib.Core.Path.{◌≡◌, refl, sym, ap, ◌∙◌}
use mathlib.Core.List.{List}
use lib.ListN.{length}
use borrow.Author.Tests.{le-leb, lt-leb}
use Rattle.reading.specs.Pick.{pick}
use Rattle.reading.specs.Bytes.{Maybe, nothing, just}
use Rattle.reading.specs.Answer.{zeros, over}
use Rattle.show.specs.Lines.{refusal_text}
use Rattle.show.specs.Shown.{has_room, Shown, shown}

-- What is answered, and the output.
abbrev pub answering : ℕ → List ℕ → Shown
answering r out = record { count = r; out = out }

module _ (out₀ : List ℕ) where
  -- A text for which there is room.
  fitting : (text : List ℕ) → length text ≤ length out₀ → shown (just text) out₀ ≡ answering (length text) (over text out₀)
  unfolding shown pick
  fitting text h = rw (le-leb (length text) (length out₀) h) refl

  pub shows : (text : List ℕ) {t : Maybe (List ℕ)} {out : List ℕ} {r : ℕ} → t ≡ just text → length text ≤ length out₀ → r ≡ length text → out ≡ over text out₀ → answering r out ≡ shown t out₀
  shows text e h n o = rw (n, o, e) (sym (fitting text h))

  pub reveals : (text : List ℕ) {t : Maybe (List ℕ)} {out : List ℕ} {r : ℕ} → t ≡ just text → length text ≤ length out₀ → answering r out ≡ shown t out₀ → (r ≡ length text) × (out ≡ over text out₀)
  reveals text e h a =
      let q = a ∙ ap (λ (t : Maybe (List ℕ)). shown t out₀) e ∙ fitting text h in
      (ap (λ (s : Shown). s.count) q, ap (λ (s : Shown). s.out) q)

  -- No text, or one for which there is no room.
  pub hides : (t : Maybe (List ℕ)) {out : List ℕ} → has_room t (length out₀) ≡ false → out ≡ zeros out₀ → answering 0 out ≡ shown t out₀
  unfolding shown pick
  hides nothing h o = ap (answering 0) o
  hides (just text) h o = rw h (ap (answering 0) o)

  -- The text of a refusal has three bytes.
  pub refusal-hides : (n : ℕ) {out : List ℕ} → length out₀ < 3 → out ≡ zeros out₀ → answering 0 out ≡ shown (just (refusal_text n)) out₀
  unfolding refusal_text
  refusal-hides n h o = hides (just (refusal_text n)) (lt-leb 3 (length out₀) h) o

  pub refusal-shows : (n : ℕ) {out : List ℕ} {r : ℕ} → 3 ≤ length out₀ → answering r out ≡ shown (just (refusal_text n)) out₀ → (r ≡ 3) × (out ≡ over (refusal_text n) out₀)
  unfolding refusal_text
  refusal-shows n h a = reveals (refusal_text n) refl h a
