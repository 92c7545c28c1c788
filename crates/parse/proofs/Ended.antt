-- From the words that were parsed to what an operation that takes numbers decides, answers and leaves.
use Prim.Native.Nat.{ℕ, ◌+◌, ◌-◌, ◌≤◌}
use mathlib.Core.Path.{◌≡◌, refl, sym, ap, ◌∙◌}
use mathlib.Core.Bool.{Bool, true, false}
use mathlib.Core.List.{List, [], append-nil}
use native.Mathlib.Omega.{arith}
use native.Mathlib.Nat.{zero-add}
use lib.Dec.{ltb}
use lib.ListN.{length, take, replicate, length-take}
use borrow.Author.Tests.{ltb-true, ltb-false, le-leb, lt-leb}
use Rattle.reading.specs.Limits.{max_number}
use Rattle.reading.specs.Pick.{pick}
use Rattle.reading.specs.Tree.{Tree, tree_words}
use Rattle.reading.specs.Answer.{got, Res, ok, no, Final, accepts, refuses, finish, fits_in, output_of}
use Rattle.reading.proofs.Finish.{finish-spent, finish-short, finish-long}
use Rattle.grammar.specs.Item.{Item, raise, words_of}
use Rattle.grammar.specs.Expr.{expr_items, bind_items}
use Rattle.grammar.specs.ParseExpr
use Rattle.grammar.specs.ParseBind.{parse_bind}
use Rattle.grammar.specs.Written.{told_of}
use Rattle.grammar.specs.Operations.{the_tree, make_expr, expr_final, make_bind, bind_final}
use Rattle.scopes.specs.Scopes.{slots}
use Rattle.plans.specs.Plans.{Parsed, wrote, refused, Here}
use Rattle.plans.specs.Whole.{Whole}
use Rattle.grammar.specs.Item.{raised_words}
use Rattle.parse.specs.Answers.{Laid, AttemptedAt, counted_by, with_count, finished_by, ValueOr, Finished, closed_by}
use Rattle.parse.specs.declared.Counted.{Counted}
use Rattle.std.specs.Prelude.{Result, Ok, Err}
use Rattle.words.specs.declared.refusal.Refusal.{Refusal}
use Rattle.words.specs.declared.refusal.Refusal.TheVariants as refusal
use Rattle.words.specs.Answered.{answered, told, refused as answer_refused}
use Rattle.words.proofs.Numbered.{number_told}
use Rattle.plans.specs.declared.progress.Progress.{Progress}
use Rattle.grammar.proofs.Raise.{words-raise}
use Rattle.writing.proofs.Laid.{over-start}
use Rattle.parse.specs.TreeOf.{TreeIn, NoTree}

-- Where errors are refusals by name, a refusal of its own is that error.
pub finished-named : {gives : Refusal → Refusal → Type 0} → ((x e : Refusal) → gives x e → e ≡ x) → (p : Result Progress Refusal) (c room : ℕ) (r : Result Counted Refusal) → Finished gives p c room r → r ≡ finished_by p c room
finished-named same (Err e) c room r f = f
finished-named {gives} same (Ok p) c room r f = go (finished_by (Ok p) c room) f
  where
    go : (q : Result Counted Refusal) → ValueOr gives q r → r ≡ q
    go (Ok a) h = h
    go (Err x) h = h.1 ∙ ap Err (same x h.0 h.2)

-- ---- the end of an operation

module _ {A : Type 0} (items : A → List Item) (c : ℕ) (out out' : List ℕ) (m : c ≤ max_number) where
  abbrev decided : Res A → Final A
  decided x = finish (λ a. fits_in out (words_of (items a))) c x

  -- What was parsed, and then 13 and 7.
  pub ended : (x : Res A) {b : ℕ} {p : Result Progress Refusal} {room : ℕ} → Parsed (told_of items c x) 0 out out' b p → room ≡ length out → AttemptedAt items c (decided x) out out' (finished_by p c room)
  unfolding finish pick
  ended (no e) (refused is) r = rw is (record { answer = ap answer_refused (number_told e); left = tt })
  ended (ok a n) {room = room} (wrote y) r = rw y.is (go (ltb (max_number - c) n) (ltb room (0 + length (words_of (raise c (items a))))) refl refl)
    where
      size : 0 + length (words_of (raise c (items a))) ≡ length (words_of (items a))
      size = zero-add _ ∙ words-raise c (items a)

      go : (s t : Bool) → ltb (max_number - c) n ≡ s → ltb room (0 + length (words_of (raise c (items a)))) ≡ t
          → AttemptedAt items c (decided (ok a n)) out out' (with_count (λ k. record { words = 0 + length (words_of (raise c (items a))); count = k }) (pick s (Err refusal.NumbersSpent) (pick t (Err refusal.NoRoom) (Ok (c + n)))))
      go true t p q =
          let f : decided (ok a n) ≡ refuses 13 = finish-spent (λ z. fits_in out (words_of (items z))) c a n (omega (arith, ltb-true (max_number - c) n p)) in
          record { answer = rw f refl; left = rw f tt }
      go false true p q =
          let f : decided (ok a n) ≡ refuses 7 = finish-short (λ z. fits_in out (words_of (items z))) c a n (omega (arith, ltb-false (max_number - c) n p)) (lt-leb (length (words_of (items a))) (length out) (omega (arith, ltb-true room (0 + length (words_of (raise c (items a)))) q, r, size))) in
          record { answer = rw f refl; left = rw f tt }
      go false false p q =
          let f : decided (ok a n) ≡ accepts a n = finish-long (λ z. fits_in out (words_of (items z))) c a n (omega (arith, ltb-false (max_number - c) n p)) (le-leb (length (words_of (items a))) (length out) (omega (arith, ltb-false room (0 + length (words_of (raise c (items a)))) q, r, size))) in
          record { answer = rw f (ap (λ k. told (record { words = k; count = c + n })) size); left = rw f (y.words ∙ over-start (words_of (raise c (items a))) out) }

-- Slices are cleared.
module _ {A : Type 0} {items : A → List Item} {c : ℕ} {f : Final A} {out out' : List ℕ} where
  pub closed : {r : Result Counted Refusal} → AttemptedAt items c f out out' r → length out' ≡ length out → closed_by r out' ≡ output_of (raised_words items c) f out
  unfolding output_of
  closed {r} s k = go r f s.answer s.left
    where
      go : (r : Result Counted Refusal) (g : Final A) → answered r ≡ counted_by items c g → Laid (raised_words items c) g out out' → closed_by r out' ≡ output_of (raised_words items c) g out
      go (Ok x) (accepts a n) q l = l
      go (Ok x) (refuses e) q l = cc
      go (Err x) (accepts a n) q l = cc
      go (Err x) (refuses e) q l = ap (λ (i : ℕ). replicate i 0) k

-- ---- the tree of the text

module _ {text tree tree' : List ℕ} {n : ℕ} (x : TreeIn text tree tree' n) where
  -- What bind asks for.
  abbrev pub whole_in : Whole text (take n tree')
  whole_in = record { tree = x.it; words = x.there; small = rw length-take (omega (arith, x.small)); nests = x.nests; bytes = x.short }

  -- So many words it has.
  pub in_size : n ≡ length (tree_words x.it)
  in_size = sym (rw length-take (omega (arith, x.within))) ∙ ap length x.there

  -- What an expression asks for: no scope is open.
  abbrev pub here_in : {es : List ℕ} → slots ≤ length es → Here text (take n tree') 0 es 0 0 0
  here_in l = record {
    spot = record { tree = x.it; rest = []; words = x.there ∙ sym (append-nil (tree_words x.it)) };
    scopes = [];
    holds = tt;
    long = l;
    shallow = omega (arith, x.nests);
    room = omega (arith, in_size, x.small);
    bytes = x.short;
  }

module _ (text tree out : List ℕ) (c : ℕ) where
  expr_from : (t : Tree) → the_tree text tree ≡ got t → make_expr text tree 0 ≡ (ParseExpr.child text t).plainly [] 0
  unfolding make_expr ParseExpr.parse_expr
  expr_from t e = rw e

  bind_from : (t : Tree) → the_tree text tree ≡ got t → make_bind text tree 0 ≡ parse_bind text t 0
  unfolding make_bind
  bind_from t e = rw e

  -- The final decision, once there is a tree.
  pub expr-final : (t : Tree) → the_tree text tree ≡ got t → expr_final text tree out c ≡ finish (λ e. fits_in out (words_of (expr_items e))) c ((ParseExpr.child text t).plainly [] 0)
  unfolding expr_final
  expr-final t e = rw (expr_from t e)

  pub bind-final : (t : Tree) → the_tree text tree ≡ got t → bind_final text tree out c ≡ finish (λ b. fits_in out (words_of (bind_items b))) c (parse_bind text t 0)
  unfolding bind_final
  bind-final t e = rw (bind_from t e)

  -- And where there is none.
  pub expr-none : {k : Refusal} {out' : List ℕ} → NoTree text tree k → AttemptedAt expr_items c (expr_final text tree out c) out out' (Err k)
  unfolding expr_final make_expr finish
  expr-none x = rw x.is (record { answer = ap answer_refused x.tells; left = tt })

  pub bind-none : {k : Refusal} {out' : List ℕ} → NoTree text tree k → AttemptedAt bind_items c (bind_final text tree out c) out out' (Err k)
  unfolding bind_final make_bind finish
  bind-none x = rw x.is (record { answer = ap answer_refused x.tells; left = tt })
