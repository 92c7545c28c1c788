-- From the parts of a solution to what its draft decides, answers and leaves.
use Prim.Native.Nat.{ℕ, ◌+◌, ◌-◌, ◌≤◌}
use mathlib.Core.Path.{◌≡◌, refl, ap, ◌∙◌}
use mathlib.Core.Bool.{Bool, true, false}
use mathlib.Core.List.{List}
use native.Mathlib.Omega.{arith}
use lib.Dec.{ltb}
use lib.ListN.{length}
use borrow.Author.Tests.{ltb-true, ltb-false, le-leb, lt-leb}
use Rattle.reading.specs.Limits.{max_number}
use Rattle.reading.specs.Pick.{pick}
use Rattle.reading.specs.Tree.{Tree}
use Rattle.reading.specs.Answer.{got, Res, ok, no, accepts, refuses, finish, fits_in}
use Rattle.reading.proofs.Finish.{finish-spent, finish-short, finish-long}
use Rattle.grammar.specs.Item.{words_of}
use Rattle.grammar.specs.Expr.{Solution, expr_items}
use Rattle.grammar.specs.ParseSolution.{parse_solution}
use Rattle.grammar.specs.Operations.{the_tree, make_solution, draft_final}
use Rattle.grammar.specs.Item.{raised_words}
use Rattle.grammar.specs.Expr.{param_items, body_items}
use Rattle.solutions.specs.PartsWords.{PartsDone, parts_wrote, parts_refused}
use Rattle.parse.specs.Answers.{with_count}
use Rattle.parse.specs.DraftAnswers.{judged_by, AttemptedDraft}
use Rattle.std.specs.Prelude.{Result, Ok, Err}
use Rattle.words.specs.declared.refusal.Refusal.{Refusal}
use Rattle.words.specs.declared.refusal.Refusal.TheVariants as refusal
use Rattle.words.specs.Answered.{told, refused as answer_refused}
use Rattle.words.proofs.Numbered.{number_told}
use Rattle.solutions.specs.declared.parts.Parts.{Parts}
use Rattle.grammar.proofs.Raise.{words-raise}
use Rattle.parse.specs.TreeOf.{NoTree}
use Rattle.writing.proofs.Laid.{over-start}

module _ (c : ℕ) (d d' o o' : List ℕ) (m : c ≤ max_number) where
  abbrev fits : Solution → Bool
  fits s = fits_in d (words_of (expr_items s.body))

  -- What was parsed, and then 13 and 7.
  pub draft-ended : (x : Res Solution) {p : Result Parts Refusal} {room : ℕ} → PartsDone c d d' o o' x p → room ≡ length d → AttemptedDraft c (finish fits c x) d d' o o' (judged_by p c room)
  unfolding finish pick
  draft-ended (no e) (parts_refused is) r = rw is (record { answer = ap answer_refused (number_told e); body = tt; params = tt })
  draft-ended (ok s n) {room = room} (parts_wrote is dw ow) r = rw is (go (ltb (max_number - c) n) (ltb room (length (raised_words body_items c s))) refl refl)
    where
      size : length (raised_words body_items c s) ≡ length (words_of (body_items s))
      size = words-raise c (body_items s)

      go : (a b : Bool) → ltb (max_number - c) n ≡ a → ltb room (length (raised_words body_items c s)) ≡ b
          → AttemptedDraft c (finish fits c (ok s n)) d d' o o'
          (with_count (λ k. record { params = length (raised_words param_items c s); body = length (raised_words body_items c s); count = k }) (pick a (Err refusal.NumbersSpent) (pick b (Err refusal.NoRoom) (Ok (c + n)))))
      go true b p q =
          let f : finish fits c (ok s n) ≡ refuses 13 = finish-spent fits c s n (omega (arith, ltb-true (max_number - c) n p)) in
          record { answer = rw f refl; body = rw f tt; params = rw f tt }
      go false true p q =
          let f : finish fits c (ok s n) ≡ refuses 7
          = finish-short fits c s n (omega (arith, ltb-false (max_number - c) n p)) (lt-leb (length (words_of (body_items s))) (length d) (omega (arith, ltb-true room (length (raised_words body_items c s)) q, r, size))) in
          record { answer = rw f refl; body = rw f tt; params = rw f tt }
      go false false p q =
          let f : finish fits c (ok s n) ≡ accepts s n
          = finish-long fits c s n (omega (arith, ltb-false (max_number - c) n p)) (le-leb (length (words_of (body_items s))) (length d) (omega (arith, ltb-false room (length (raised_words body_items c s)) q, r, size))) in
          record {
            answer = rw f (ap (λ k. told (record { params = k; body = length (raised_words body_items c s); count = c + n })) (words-raise c (param_items s)) ∙ ap (λ k. told (record { params = length (words_of (param_items s)); body = k; count = c + n })) size);
            body = rw f (dw ∙ over-start (raised_words body_items c s) d);
            params = rw f (ow ∙ over-start (raised_words param_items c s) o);
          }

module _ (text tree d : List ℕ) (c : ℕ) where
  solution_from : (t : Tree) → the_tree text tree ≡ got t → make_solution text tree 0 ≡ parse_solution text t 0
  unfolding make_solution
  solution_from t e = rw e

  -- The final decision, once there is a tree.
  pub draft-final : (t : Tree) → the_tree text tree ≡ got t → draft_final text tree d c ≡ finish (λ s. fits_in d (words_of (expr_items s.body))) c (parse_solution text t 0)
  unfolding draft_final
  draft-final t e = rw (solution_from t e)

  -- And where there is none.
  pub draft-none : {k : Refusal} {d' o o' : List ℕ} → NoTree text tree k → AttemptedDraft c (draft_final text tree d c) d d' o o' (Err k)
  unfolding draft_final make_solution finish
  draft-none x = rw x.is (record { answer = ap answer_refused x.tells; body = tt; params = tt })
