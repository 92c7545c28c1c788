-- The whole operation: the list of variables, a space, the term; and what is answered then.
use Prim.Native.Nat.{ℕ, ◌≤◌, ◌<◌}
use mathlib.Core.Path.{◌≡◌, refl, ap, ◌∙◌}
use mathlib.Core.List.{List, [], ◌∷◌}
use native.Mathlib.Omega.{arith}
use lib.ListN.{length, get_or, replicate}
use borrow.Author.Tests.{le-leb, lt-leb}
use Rattle.reading.specs.Pick.{pick}
use Rattle.reading.specs.Limits.{max_nodes}
use Rattle.reading.specs.Answer.{Ans, got, bad, and_then, Final, accepts, refuses, zeros, over, output_of}
use Rattle.grammar.specs.Expr.{Binder, Expr, Solution}
use Rattle.judging.specs.Judge.{reads, fails, binders_at, expr_deep, judge_solution}
use Rattle.judging.specs.Ends.{end_of}
use Rattle.std.specs.Prelude.{Result, Ok, Err, is_err}
use mathlib.Core.Bool.{true, false}
use Rattle.words.specs.declared.refusal.Refusal.{Refusal}
use Rattle.words.specs.declared.refusal.Refusal.TheVariants as refusal
use Rattle.words.specs.declared.walked.Walked.{Walked}
use Rattle.words.specs.Refusals.{number_of}
use Rattle.words.specs.Answered.{told, refused}
use Rattle.words.proofs.Numbered.{number_told}
use Rattle.judge.proofs.ReadExpr.{ends_at, ends-no}
use Rattle.judging.proofs.SolutionParts.{Parts, parts_of}
use Rattle.writing.specs.Wrote.{WroteBytes}
use Rattle.writing.proofs.Laid.{over-start}
use Rattle.writing.proofs.Wrote.{either}
use Rattle.smt.specs.Sexp.{print, list}
use Rattle.smt.specs.Term.{Var, Term, var_sxs, term_sx, closed_bytes}
use Rattle.smt.specs.Writer.{vars_of, term_of, solution_term, written}
use Rattle.smt.specs.Operation.{bytes_final, smtlib_by, smtlib_final, smtlib_out}
use Rattle.smtnames.specs.Pieces.{joined, vars_text}
use Rattle.smtlib.specs.Terms.{term_text}
use Rattle.smtnames.specs.Written.{TellsPart}
use Rattle.smtlib.specs.Answers.{answer_of, Outcome, wrote, left, Attempted}
use Rattle.smtnames.proofs.Tells.{Put, put, Gone, put_seq, gone-behind, gone-first, put_as, gone_as, part-put, part_end, part-gone}
use Rattle.smtlib.proofs.TermSteps.{put_is, gone-is}

-- A solution is its list of variables, a space and a term.
written-joined : (text : List ℕ) (s : Solution) → written text s ≡ joined (vars_text text s.params) (joined (got (32 ∷ [])) (term_text text s.body))
unfolding written solution_term closed_bytes joined vars_text term_text
written-joined text s = go (vars_of text s.params) (term_of text s.body)
  where
    go : (x : Ans (List Var)) (y : Ans Term) → and_then (and_then x λ vs. and_then y λ t. got (record { vars = vs; term = t })) (λ c. got (closed_bytes c)) ≡ joined (and_then x λ vs. got (print (list (var_sxs vs)))) (joined (got (32 ∷ [])) (and_then y λ t. got (print (term_sx t))))
    go (got vs) (got t) = refl
    go (got vs) (bad r) = refl
    go (bad r) y = refl

module _ (words text l : List ℕ) where
  -- Words that are no solution.
  pub not-judged : {r : Refusal} → refused (number_of r) ≡ end_of (judge_solution (length text) words) → Attempted words text l l (Err r)
  unfolding smtlib_final smtlib_by
  not-judged {r} e =
      let j : judge_solution (length text) words ≡ fails (number_of r) = ends-no (judge_solution (length text) words) e in
      record { answer = rw j refl; output = rw j (left refl) }

  module _ {s : Solution} {n : ℕ} (judged : judge_solution (length text) words ≡ reads s n) where
    -- What is answered where the solution is refused, and where it is written.
    refused-by : {r : Refusal} {l' : List ℕ} → Gone (written text s) l l' r → Attempted words text l l' (Err r)
    unfolding smtlib_final smtlib_by bytes_final
    refused-by g =
        let f = gone-is g in
        record { answer = rw (judged, f.1) (ap (λ (k : Refusal). refused (number_of k)) f.2 ∙ ap refused (number_told f.0)); output = rw (judged, f.1) (left f.3) }

    written-by : {p : ℕ} {l' : List ℕ} → p ≤ length l → Put (written text s) l 0 l' p → Attempted words text l l' (Ok p)
    unfolding smtlib_final smtlib_by bytes_final pick
    written-by {p} h g =
        let f = put_is g in
        let w = f.2.fits h in
        let size : p ≡ length f.0 = omega (arith, w.0) in
        record { answer = rw (judged, f.1, le-leb (length f.0) (length l) (omega (arith, h, size))) (ap told size); output = rw (judged, f.1, le-leb (length f.0) (length l) (omega (arith, h, size))) (wrote (w.2 ∙ over-start f.0 l)) }

    no_room_lem : {p : ℕ} {l' : List ℕ} → length l < p → Put (written text s) l 0 l' p → Attempted words text l l' (Err refusal.NoRoom)
    unfolding smtlib_final smtlib_by bytes_final pick
    no_room_lem h g =
        let f = put_is g in
        let more : length l < length f.0 = either (length l) (length f.0) (λ k. k) (λ k. absurd (f.2.full h (omega (arith, k)) (omega arith))) in
        record { answer = rw (judged, f.1, lt-leb (length f.0) (length l) more) refl; output = rw (judged, f.1, lt-leb (length f.0) (length l) more) (left f.2.kept) }

  -- The list of variables.
  module _ {n : ℕ} (e : told n ≡ end_of (judge_solution (length text) words)) {l₁ : List ℕ} {v : Result Walked Refusal}
      (vars : (limit : ℕ) (bs : List Binder) (m : ℕ) → binders_at limit (get_or words 0 0) words 1 ≡ reads bs m → TellsPart m (vars_text text bs) l 0 l₁ v) where
    judged : (s : Solution) × (judge_solution (length text) words ≡ reads s n)
    judged = ends_at (judge_solution (length text) words) e

    parts : Parts (length text) words judged.0
    parts = parts_of (length text) words judged.1

    listed : TellsPart parts.behind (vars_text text judged.0.params) l 0 l₁ v
    listed = vars (length text) judged.0.params parts.behind parts.binders

    pub vars-gone : {r : Refusal} → v ≡ Err r → Attempted words text l l₁ (Err r)
    vars-gone h = refused-by judged.1 (gone_as (written-joined text judged.0) (gone-first (joined (got (32 ∷ [])) (term_text text judged.0.body)) (part-gone listed h)))

    -- The space and the term.
    module _ {a : Walked} (h : v ≡ Ok a) {l₂ : List ℕ} {q : ℕ} (space : WroteBytes l₁ a.place (32 ∷ []) l₂ q) {l₃ : List ℕ} {w : Result Walked Refusal}
        (term : (b : Expr) (m : ℕ) → expr_deep (length text) max_nodes words a.next ≡ reads b m → TellsPart m (term_text text b) l₂ q l₃ w) where
      spelled : TellsPart (length words) (term_text text judged.0.body) l₂ q l₃ w
      spelled = term judged.0.body (length words) (ap (expr_deep (length text) max_nodes words) (part_end listed h) ∙ parts.body)

      pub term-gone : {r : Refusal} → w ≡ Err r → Attempted words text l l₃ (Err r)
      term-gone k = refused-by judged.1 (gone_as (written-joined text judged.0) (gone-behind (part-put listed h) (gone-behind (put space) (part-gone spelled k))))

      all-put : {d : Walked} → w ≡ Ok d → Put (written text judged.0) l 0 l₃ d.place
      all-put k = put_as (written-joined text judged.0) (put_seq (part-put listed h) (put_seq (put space) (part-put spelled k)))

      pub term-over : {d : Walked} → w ≡ Ok d → length l₃ < d.place → Attempted words text l l₃ (Err refusal.NoRoom)
      term-over k over = no_room_lem judged.1 (omega (arith, over, (put_is (all-put k)).2.kept)) (all-put k)

      pub term-done : {d : Walked} → w ≡ Ok d → d.place ≤ length l₃ → Attempted words text l l₃ (Ok d.place)
      term-done k fits = written-by judged.1 (omega (arith, fits, (put_is (all-put k)).2.kept)) (all-put k)

  -- The output is cleared after a refusal.
  done-output : {l' : List ℕ} {k : ℕ} (x : Final (List ℕ)) → told k ≡ answer_of x → Outcome x l l' → l' ≡ output_of (λ bytes. bytes) x l
  unfolding output_of
  done-output (accepts bytes m) e (wrote h) = h
  done-output (refuses r) e (left h) = cc

  refused-output : {l' : List ℕ} {k : ℕ} (x : Final (List ℕ)) → refused k ≡ answer_of x → Outcome x l l' → zeros l' ≡ output_of (λ bytes. bytes) x l
  unfolding output_of
  refused-output (accepts bytes m) e (wrote h) = cc
  refused-output (refuses r) e (left h) = ap (λ (i : ℕ). replicate i 0) h

  pub done-out : {l' : List ℕ} (r : Result ℕ Refusal) → is_err r ≡ false → Attempted words text l l' r → l' ≡ smtlib_out words text l
  unfolding smtlib_out
  done-out (Ok k) h t = done-output (smtlib_final words text l) t.answer t.output
  done-out (Err k) h t = cc

  pub refused-out : {l' : List ℕ} (r : Result ℕ Refusal) → is_err r ≡ true → Attempted words text l l' r → zeros l' ≡ smtlib_out words text l
  unfolding smtlib_out
  refused-out (Ok k) h t = cc
  refused-out (Err k) h t = refused-output (smtlib_final words text l) t.answer t.output
