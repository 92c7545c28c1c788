-- Words that are judged to be a solution, taken apart.
use Prim.Native.Nat.{ℕ, ◌≤◌}
use mathlib.Core.Bool.{Bool, true, false}
use mathlib.Core.Path.{◌≡◌, refl, sym, ap, ◌∙◌}
use mathlib.Core.List.{List, [], ◌∷◌}
use native.Mathlib.Omega.{arith}
use lib.Dec.{eqb}
use lib.ListN.{length, get_or}
use borrow.Author.Tests.{eqb-true}
use Rattle.reading.specs.Limits.{max_nodes}
use Rattle.reading.specs.Pick.{pick}
use Rattle.reading.specs.Answer.{not_words}
use Rattle.grammar.specs.Expr.{Solution}
use Rattle.judging.specs.Judge.{reads, fails, FromWords, ◌>>=◌, binders_at, expr_deep, expr_at, at_end, judge_solution}
use Rattle.judging.proofs.ReadFields.{word_in, word_out}
use Rattle.judging.proofs.Taken.{never-reads, first_read, same-value}

module _ (limit : ℕ) where
  -- The number of parameters, these, and the expression behind them, which ends where the words end.
  pub record Parts (words : List ℕ) (s : Solution) : Type 0 where
    pub some : 1 ≤ length words
    pub behind : ℕ
    pub binders : binders_at limit (get_or words 0 0) words 1 ≡ reads s.params behind
    pub body : expr_deep limit max_nodes words behind ≡ reads s.body (length words)

  -- Nothing is left behind what was read.
  none_left : {A : Type 0} (a : A) (ws : List ℕ) (m : ℕ) {b : A} {n : ℕ} → at_end limit a ws m ≡ reads b n → (a ≡ b) × (m ≡ length ws)
  unfolding at_end pick
  none_left {A} a ws m {b} {n} e = go (eqb m (length ws)) refl e
    where
      go : (t : Bool) → eqb m (length ws) ≡ t → pick t (reads a m) (fails not_words) ≡ reads b n → (a ≡ b) × (m ≡ length ws)
      go true h q = (same-value q, eqb-true m (length ws) h)
      go false h q = never-reads q

  -- What is read behind the number of parameters.
  pub behind_count : ℕ → FromWords Solution
  behind_count n = binders_at limit n >>= λ bs. expr_at limit >>= λ e. at_end limit (record { params = bs; body = e })

  -- Where there is a word, and where there is none.
  pub judged-some : (words : List ℕ) → 1 ≤ length words → judge_solution limit words ≡ behind_count (get_or words 0 0) words 1
  unfolding judge_solution behind_count
  judged-some words h = rw (word_in words 0 h) refl

  pub judged-none : (words : List ℕ) → length words ≡ 0 → judge_solution limit words ≡ fails not_words
  unfolding judge_solution
  judged-none words h = rw (word_out words 0 (omega (arith, h))) refl

  -- Words that are judged to be a solution have these parts.
  pub parts_of : (words : List ℕ) {s : Solution} {n : ℕ} → judge_solution limit words ≡ reads s n → Parts words s
  unfolding behind_count expr_at
  parts_of [] e = never-reads (sym (judged-none [] refl) ∙ e)
  parts_of (w ∷ ws) {s} e =
      first_read (binders_at limit w (w ∷ ws) 1) _ (w ∷ ws) (sym (judged-some (w ∷ ws) (omega arith)) ∙ e) λ bs b x y.
      first_read (expr_deep limit max_nodes (w ∷ ws) b) _ (w ∷ ws) y λ f m u v.
      let q = none_left (record { params = bs; body = f }) (w ∷ ws) m v in
      record {
        some = omega arith;
        behind = b;
        binders = x ∙ ap (λ (t : Solution). reads t.params b) q.0;
        body = u ∙ ap (λ (t : Solution). reads t.body m) q.0 ∙ ap (reads s.body) q.1;
      }
