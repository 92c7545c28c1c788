-- What the readers of single fields answer, by what the code has tested.
use Prim.Native.Nat.{ℕ, zero, suc, ◌+◌, ◌-◌, ◌≤◌, ◌<◌}
use mathlib.Core.Path.{◌≡◌, refl, sym, ap, ◌∙◌}
use mathlib.Core.List.{List, [], ◌∷◌}
use native.Mathlib.Omega.{arith}
use lib.ListN.{length, get_or}
use borrow.Author.Tests.{lt-ltb, le-ltb}
use Rattle.reading.specs.Pick.{pick}
use Rattle.words.specs.Answered.{told, refused}
use Rattle.judging.specs.Judge.{Judged, reads, fails, FromWords, go_on, ret, word, word_below, several}
use Rattle.judging.specs.Ends.{end_of}

-- So many words of any value.
abbrev pub any_words : ℕ → FromWords (List ℕ)
any_words n = several word [] (λ a rest. a ∷ rest) n

-- What is made of what was read does not matter to the place behind it.
pub ends-ret : {A B : Type 0} (x : Judged A) (g : A → B) (ws : List ℕ) → end_of (go_on x (λ a. ret (g a)) ws) ≡ end_of x
ends-ret (reads a m) g ws = refl
ends-ret (fails r) g ws = refl

module _ (ws : List ℕ) (at : ℕ) where
  -- A word, and none behind the last one.
  pub word_in : at < length ws → word ws at ≡ reads (get_or ws at 0) (at + 1)
  unfolding word pick
  word_in h = rw (lt-ltb at (length ws) h) refl

  pub word_out : length ws ≤ at → word ws at ≡ fails 14
  unfolding word pick
  word_out h = rw (le-ltb at (length ws) h) refl

  -- A word that `get` finds at a place.
  abbrev pub There : ℕ → Type 0
  There k = (at < length ws) × ((d : ℕ) → k ≡ get_or ws at d)

  pub there-reads : {k : ℕ} → There k → word ws at ≡ reads k (at + 1)
  there-reads t = rw (t.1 0) (word_in t.0)

  -- A word below a bound.
  pub below_in : (m : ℕ) {k : ℕ} → There k → k < m → told (at + 1) ≡ end_of (word_below m ws at)
  unfolding word_below pick
  below_in m {k} t l = rw (there-reads t, lt-ltb k m l) refl

  pub below-no : (m : ℕ) {k : ℕ} → There k → m ≤ k → refused 14 ≡ end_of (word_below m ws at)
  unfolding word_below pick
  below-no m {k} t l = rw (there-reads t, le-ltb k m l) refl

  pub below_out : (m : ℕ) → length ws ≤ at → refused 14 ≡ end_of (word_below m ws at)
  unfolding word_below
  below_out m h = rw (word_out h) refl

module _ (ws : List ℕ) where
  -- So many words are there, or they are not.
  pub any_in : (n at : ℕ) → at ≤ length ws → n ≤ length ws - at → told (at + n) ≡ end_of (any_words n ws at)
  unfolding several
  any_in zero at h l = ap told (omega arith)
  any_in (suc n) at h l =
      let e : at + suc n ≡ at + 1 + n = omega arith in
      rw (word_in ws at (omega arith), e) (any_in n (at + 1) (omega arith) (omega arith) ∙ sym (ends-ret (any_words n ws (at + 1)) (λ rest. get_or ws at 0 ∷ rest) ws))

  out_step : (n at left : ℕ) → length ws - at ≡ left → (at < length ws → refused 14 ≡ end_of (any_words n ws (at + 1))) → refused 14 ≡ end_of (any_words (suc n) ws at)
  unfolding several
  out_step n at zero e h = rw (word_out ws at (omega arith)) refl
  out_step n at (suc left) e h =
      let l : at < length ws = omega arith in
      rw (word_in ws at l) (h l ∙ sym (ends-ret (any_words n ws (at + 1)) (λ rest. get_or ws at 0 ∷ rest) ws))

  pub any_out : (n at : ℕ) → at ≤ length ws → length ws - at < n → refused 14 ≡ end_of (any_words n ws at)
  any_out zero at h l = absurd (omega arith)
  any_out (suc n) at h l = out_step n at (length ws - at) refl λ k. any_out n (at + 1) (omega arith) (omega arith)
