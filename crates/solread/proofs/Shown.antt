-- What `answer` leaves, by the way it took.
use Prim.Native.Nat.{ℕ, ◌≤◌, ◌<◌}
use mathlib.Core.Path.{◌≡◌, refl, sym, ap, ◌∙◌}
use mathlib.Core.List.{List}
use native.Mathlib.Omega.{arith}
use borrow.Author.Tests.{lt-ltb, le-ltb}
use lib.ListN.{length, take, drop, length-replicate}
use lib.Seq.{take_at}
use Rattle.reading.specs.Pick.{pick}
use Rattle.reading.specs.Bytes.{Maybe, just}
use Rattle.reading.proofs.Over.{over-length, over-fits}
use Rattle.grammar.specs.Expr.{Solution}
use Rattle.judging.specs.Judge.{judge_solution}
use Rattle.flattening.specs.Uncurry.{flattened}
use Rattle.flattening.specs.Operations.{no_text}
use Rattle.session.specs.Session.{final}
use Rattle.show.specs.Lines.{refusal_text, solution_text}
use Rattle.show.specs.Shown.{text_of, words_text, shown}
use Rattle.show.proofs.Params.{text-length}
use Rattle.show.proofs.Showing.{answering, reveals}
use Rattle.reading.specs.Answer.{Said}
use Rattle.reading.specs.Answer.{accepted, refused}
use Rattle.replies.specs.Calls.{solution_call}
use Rattle.solread.specs.Printed.{final_text, slice, printed}
use Rattle.replies.proofs.Solved.{ToldSolution, solved, not-solved}

-- So many bytes of the output are what is printed for the text.
abbrev pub Shown : List ℕ → List ℕ → ℕ → Type 0
Shown text out r = (r ≤ length out) × (take r out ≡ printed text)

-- A text that is shown in an output that has room for it.
laid : (text out₀ : List ℕ) {t : Maybe (List ℕ)} {out : List ℕ} {r : ℕ} → t ≡ just text → length text ≤ length out₀ → answering r out ≡ shown t out₀ → (r ≤ length out) × (take r out ≡ text)
laid text out₀ e h a =
    let x = reveals out₀ text e h a in
    (omega (arith, x.0, ap length x.1, over-length text out₀), rw (x.1, x.0, over-fits text out₀ h) (take_at text (drop (length text) out₀) (length text) refl))

-- How many words a slice has.
slice-long : length slice ≡ 4096
unfolding slice
slice-long = length-replicate {A = ℕ} 4096 0

-- A text that is not too long is printed by what its call decides.
by_call : (text : List ℕ) → length text ≤ 8192 → printed text ≡ final_text (final (solution_call text slice slice slice) 0)
unfolding printed pick
by_call text h = rw (le-ltb 8192 (length text) h) refl

module _ (text out₀ : List ℕ) {out : List ℕ} {r : ℕ} (room : 36864 ≤ length out₀) where
  -- A refusal is printed.
  refusing : {n m : ℕ} → m ≡ n → answering r out ≡ shown (just (refusal_text m)) out₀ → printed text ≡ refusal_text n → Shown text out r
  unfolding refusal_text
  refusing {n} k d e = let l = laid (refusal_text n) out₀ refl (omega arith) (rw k at d) in (l.0, l.1 ∙ sym e)

  -- A text that is too long.
  pub shown-long : {m : ℕ} → 8192 < length text → m ≡ 1 → answering r out ≡ shown (just (refusal_text m)) out₀ → Shown text out r
  unfolding printed pick
  shown-long h k d = refusing k d (rw (lt-ltb 8192 (length text) h) refl)

  module _ {c : ℕ} {said : Said} {words : List ℕ} (t : ToldSolution text slice slice slice c said words) (h : length text ≤ 8192) where
    -- A text that is refused.
    pub shown-refused : {n m : ℕ} → said ≡ refused n → m ≡ n → answering r out ≡ shown (just (refusal_text m)) out₀ → Shown text out r
    unfolding final_text
    shown-refused e k d = refusing k d (by_call text h ∙ ap final_text (not-solved t e))

    -- A text that is accepted.
    pub shown-accepted : {k j : ℕ} → said ≡ accepted k j → answering r out ≡ shown (words_text (take k words)) out₀ → Shown text out r
    unfolding final_text words_text
    shown-accepted {k} e d =
        let a = solved t e in
        let s : Solution = flattened a.before in
        let l = laid (solution_text s) out₀ (ap (λ (l : List ℕ). text_of (judge_solution no_text l)) a.first ∙ ap text_of (a.back no_text (omega (arith, h)))) (omega (arith, text-length s, a.size, a.inside, slice-long, room)) d in
        (l.0, l.1 ∙ sym (by_call text h ∙ ap final_text a.is))

-- The words that are counted lie in the output.
pub words_inside : {text : List ℕ} {c : ℕ} {said : Said} {words : List ℕ} → ToldSolution text slice slice slice c said words → {k j : ℕ} → said ≡ accepted k j → k ≤ length words
words_inside t e = let a = solved t e in omega (arith, a.long, a.inside)
