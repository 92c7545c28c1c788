-- Expressions that are read are spelled by the words that were read; and judged words are the words of what was read.
use Prim.Native.Nat.{ℕ, zero, suc, ◌≤◌}
use mathlib.Core.Bool.{Bool, true, false}
use mathlib.Core.Path.{◌≡◌, refl, ap, ◌∙◌}
use mathlib.Core.List.{List, [], ◌∷◌, ◌++◌, append_assoc, append-nil}
use native.Mathlib.Omega.{arith}
use lib.Dec.{eqb}
use lib.ListN.{length, length-append}
use borrow.Author.Tests.{eqb-true}
use Rattle.reading.specs.Limits.{max_nodes}
use Rattle.reading.specs.Pick.{pick}
use Rattle.reading.specs.Bytes.{Maybe, nothing, just}
use Rattle.reading.specs.Answer.{not_words}
use Rattle.reading.specs.Tree.{bit}
use Rattle.reading.proofs.Placed.{at_drop}
use Rattle.grammar.specs.Sort.{Sort, sort_words}
use Rattle.grammar.specs.Item.{words_of}
use Rattle.grammar.specs.Expr.{Expr, Exprs, node, app, enil, econs, exprs, kind_items, flag, out_sort, expr_items, exprs_items}
use Rattle.grammar.proofs.Items.{words_append, words-plains}
use Rattle.judging.specs.Spelled.{Spelled}
use Rattle.judging.specs.Judge.{reads, fails, several, Plan, operands_of, arguments_of, word, sort_at, header, sort_if, planned, expr_deep, expr_at, at_end, judge_expr}
use Rattle.judging.proofs.Spell.{Low, Post, Behind, chain_post, post_any, post_reads, spelled_none, anywhere, done, step, step_with, in_turn_lem, counted}
use Rattle.judging.proofs.SpellSort.{a-sort}
use Rattle.judging.proofs.SpellKind.{plan_words, header_post}

-- Whether there is an output sort.
out-flag : (limit : ℕ) (ws : List ℕ) (f : Bool) (at : ℕ) → Post (sort_if limit f ws at) (λ o n. flag o ≡ bit f)
unfolding sort_if
out-flag limit ws false at = refl
out-flag limit ws true at =
    chain_post (sort_at limit ws at) _ ws (λ s n. Unit {0}) _ (post_any (sort_at limit ws at) _ λ s n. tt) λ s n _. refl

-- How many expressions there are.
exprs-count : (limit room : ℕ) (ws : List ℕ) (k at : ℕ) → Post (several (expr_deep limit room) enil econs k ws at) (λ es n. exprs es ≡ k)
unfolding exprs
exprs-count limit room ws k at = counted ws (expr_deep limit room) enil econs exprs refl (λ e es. refl) k at

module _ (limit : ℕ) (ws : List ℕ) (low : Low ws) where
  -- An output sort, where there is one.
  an_out : (f : Bool) → Behind ws [] (sort_if limit f) (λ o. words_of (out_sort o))
  unfolding sort_if words_of
  an_out false = done nothing refl
  an_out true = step (sort_at limit) (a-sort limit low) λ s. done (just s) (words-plains (sort_words s))

  -- So many expressions, if each is spelled.
  several-behind : (room : ℕ) → Behind ws [] (expr_deep limit room) (λ e. words_of (expr_items e)) → (k : ℕ) → Behind ws [] (several (expr_deep limit room) enil econs k) (λ es. words_of (exprs_items es))
  unfolding expr_items words_of
  several-behind room D k =
      in_turn_lem (expr_deep limit room) enil econs (λ es. words_of (exprs_items es)) D refl (λ e es. words_append (expr_items e) (exprs_items es)) k

  -- What follows a header, if the expressions inside are spelled.
  planned-behind : (room : ℕ) → Behind ws [] (expr_deep limit room) (λ e. words_of (expr_items e)) → (p : Plan) → Behind ws (plan_words p) (planned limit (expr_deep limit room) p) (λ e. words_of (expr_items e))
  unfolding planned expr_items words_of
  planned-behind room D (operands_of k n) =
      step_with (several (expr_deep limit room) enil econs n) (λ es. exprs es ≡ n) (several-behind room D n) (exprs-count limit room ws n) λ es e.
      done (node k es) (words_append (kind_items k (exprs es)) (exprs_items es) ∙ ap (λ i. words_of (kind_items k i) ++ words_of (exprs_items es)) e)
  planned-behind room D (arguments_of f n) =
      step_with (several (expr_deep limit room) enil econs n) (λ es. exprs es ≡ n) (several-behind room D n) (exprs-count limit room ws n) λ es e.
      step_with (sort_if limit f) (λ o. flag o ≡ bit f) (an_out f) (out-flag limit ws f) λ o q.
      step (expr_deep limit room) D λ h.
      done (app o es h) (rw (e, q, words_append (exprs_items es) (out_sort o ++ expr_items h), words_append (out_sort o) (expr_items h), append_assoc (words_of (exprs_items es)) (words_of (out_sort o)) (words_of (expr_items h))) refl)

  -- An expression, anywhere.
  expr_post : (room at : ℕ) → Post (expr_deep limit room ws at) (λ e n. Spelled ws at n (words_of (expr_items e)))
  unfolding expr_deep
  expr_post zero at =
      chain_post (word ws at) _ ws (λ k n. Unit {0}) _ (post_any (word ws at) _ λ k n. tt) λ k n _. tt
  expr_post (suc room) at =
      chain_post (header limit ws at) (planned limit (expr_deep limit room)) ws (λ p n. Spelled ws at n (plan_words p)) (λ e n. Spelled ws at n (words_of (expr_items e))) (header_post limit ws low at) λ p n s.
      (planned-behind room (anywhere (expr_deep limit room) (expr_post room)) p).reach at n s

-- An output sort, and whether there is one.
pub out-spelled : (limit : ℕ) (ws : List ℕ) → Low ws → (at : ℕ) (f : Bool) {o : Maybe Sort} {n : ℕ} → at ≤ length ws → sort_if limit f ws at ≡ reads o n → (Spelled ws at n (words_of (out_sort o))) × (flag o ≡ bit f)
out-spelled limit ws low at f h e = (
  post_reads (sort_if limit f ws at) (λ o n. Spelled ws at n (words_of (out_sort o))) ((an_out limit ws low f).reach at at (spelled_none h)) e,
  post_reads (sort_if limit f ws at) (λ o n. flag o ≡ bit f) (out-flag limit ws f at) e,
)

-- So many expressions: how many.
pub several-count : (limit room k : ℕ) (ws : List ℕ) (at : ℕ) {es : Exprs} {n : ℕ} → several (expr_deep limit room) enil econs k ws at ≡ reads es n → exprs es ≡ k
several-count limit room k ws at e =
    post_reads (several (expr_deep limit room) enil econs k ws at) (λ es n. exprs es ≡ k) (exprs-count limit room ws k at) e

-- So many expressions: their words.
pub exprs-spelled : (limit room k : ℕ) (ws : List ℕ) → Low ws → (at : ℕ) {es : Exprs} {n : ℕ} → at ≤ length ws → several (expr_deep limit room) enil econs k ws at ≡ reads es n → Spelled ws at n (words_of (exprs_items es))
exprs-spelled limit room k ws low at h e =
    post_reads (several (expr_deep limit room) enil econs k ws at) (λ es n. Spelled ws at n (words_of (exprs_items es))) ((several-behind limit ws low room (anywhere (expr_deep limit room) (expr_post limit ws low room)) k).reach at at (spelled_none h)) e

-- An expression.
pub expr-spelled : (limit room : ℕ) (ws : List ℕ) → Low ws → (at : ℕ) {e : Expr} {n : ℕ} → expr_deep limit room ws at ≡ reads e n → Spelled ws at n (words_of (expr_items e))
expr-spelled limit room ws low at e =
    post_reads (expr_deep limit room ws at) (λ e n. Spelled ws at n (words_of (expr_items e))) (expr_post limit ws low room at) e

-- Words that are spelled from the start to the end are all the words.
spelled-whole : {ws xs : List ℕ} → Spelled ws 0 (length ws) xs → ws ≡ xs
spelled-whole {ws} {xs} s = go s.stands.rest (at_drop s.stands)
  where
    go : (rest : List ℕ) → ws ≡ xs ++ rest → ws ≡ xs
    go [] e = e ∙ append-nil xs
    go (r ∷ rest) e = absurd (omega (arith, ap length e, length-append xs (r ∷ rest), s.ends))

-- Judged words are the words of the expression that was read.
pub judged-spelled : (limit : ℕ) (ws : List ℕ) → Low ws → {e : Expr} {n : ℕ} → judge_expr limit ws ≡ reads e n → ws ≡ words_of (expr_items e)
unfolding judge_expr expr_at at_end pick
judged-spelled limit ws low q =
    post_reads (judge_expr limit ws) Whole (chain_post (expr_deep limit max_nodes ws 0) (at_end limit) ws (λ e n. Spelled ws 0 n (words_of (expr_items e))) Whole (expr_post limit ws low max_nodes 0) λ e n s. go e n s (eqb n (length ws)) refl) q
  where
    Whole : Expr → ℕ → Type 0
    Whole e n = ws ≡ words_of (expr_items e)

    go : (e : Expr) (n : ℕ) → Spelled ws 0 n (words_of (expr_items e)) → (t : Bool) → eqb n (length ws) ≡ t → Post (pick t (reads e n) (fails not_words)) Whole
    go e n s true h = spelled-whole (rw (eqb-true n (length ws) h) at s)
    go e n s false h = tt
