-- From the words that were written to what flatten and solution decide, answer and leave.
use Prim.Native.Nat.{ℕ, ◌+◌, ◌≤◌, ◌<◌}
use mathlib.Core.Bool.{Bool, true, false}
use mathlib.Core.Path.{◌≡◌, refl, sym, ap, ap₂, ◌∙◌}
use mathlib.Core.List.{List, ◌++◌}
use native.Mathlib.Omega.{arith}
use native.Mathlib.Nat.{zero-add}
use lib.Dec.{eqb, leb}
use lib.ListN.{length, take, drop}
use lib.Seq.{take-append_seam}
use borrow.Author.Tests.{lt-ltb, le-ltb, le-leb, lt-leb}
use Rattle.reading.specs.Limits.{max_number, max_nodes}
use Rattle.reading.specs.Pick.{pick}
use Rattle.reading.specs.Answer.{number, Res, ok, no, accepts, refuses, finish, over}
use Rattle.reading.proofs.Finish.{finish-short, finish-long}
use Rattle.reading.proofs.Over.{over-fits, over-length}
use Rattle.grammar.specs.Item.{raise, words_of}
use Rattle.grammar.specs.Expr.{Expr, expr_items, Solution, solution_items}
use Rattle.grammar.specs.Raise.{raise_expr}
use Rattle.grammar.specs.Operations.{make_solution, draft_final}
use Rattle.grammar.proofs.Items.{words_append}
use Rattle.grammar.proofs.Lengths.{size-solution}
use Rattle.grammar.proofs.Raise.{raise_append, words-raise, items-raise}
use Rattle.writing.specs.Laid.{laid}
use Rattle.grammar.specs.Item.{raised_words}
use Rattle.grammar.specs.Expr.{param_items, body_items}
use Rattle.parse.specs.Answers.{Laid, Attempted, AttemptedAt, draft_said}
use Rattle.writing.proofs.Laid.{over-start}
use Rattle.std.specs.Prelude.{Result, Ok, Err}
use Rattle.words.specs.declared.refusal.Refusal.{Refusal}
use Rattle.words.specs.declared.refusal.Refusal.TheVariants as refusal
use Rattle.words.specs.declared.walked.Walked.{Walked}
use Rattle.words.specs.Refusals.{number_of}
use Rattle.words.specs.Answered.{Answered, told, refused}
use Rattle.parse.specs.declared.Counted.{Counted}
use Rattle.parse.specs.declared.Drafted.{Drafted}
use Rattle.flattening.specs.Uncurry.{uncurry, most_operands}
use Rattle.judging.specs.Judge.{reads, fails, expr_deep, expr_at, at_end, judge_expr}
use Rattle.judging.specs.Ends.{end_of}
use Rattle.flattening.specs.Operations.{expr_words, no_text, flat_fits, flatten_by, flatten_final, flat_items, solution_fits, solution_final}
use Rattle.writing.specs.Wrote.{most_count, Wrote}
use Rattle.flatwriter.specs.Writing.{WroteExpr}
use Rattle.judge.proofs.ReadExpr.{ends_at, ends-no}
use Rattle.flattening.proofs.Raise.{uncurry-raise}
use Rattle.flattening.proofs.Uncurry.{shorter}
use Rattle.flattening.proofs.FewOperands.{most-size}
use Rattle.flatten.proofs.Parsed.{ParsedSolution, parsed-solution}
use Rattle.judging.proofs.Taken.{first_read, never-reads}
use Rattle.writing.proofs.Wrote.{either, wrote-laid, wrote_seq, wrote_as}

-- Words that are judged as an expression are read as it.
judged-read : (limit : ℕ) (ws : List ℕ) {e : Expr} {n : ℕ} → judge_expr limit ws ≡ reads e n → expr_deep limit max_nodes ws 0 ≡ reads e n
unfolding judge_expr expr_at at_end pick
judged-read limit ws {e} {n} q =
    first_read (expr_deep limit max_nodes ws 0) (at_end limit) ws q λ f m x y. go f m x (eqb m (length ws)) refl y
  where
    go : (f : Expr) (m : ℕ) → expr_deep limit max_nodes ws 0 ≡ reads f m → (t : Bool) → eqb m (length ws) ≡ t → pick t (reads f m) (fails 14) ≡ reads e n → expr_deep limit max_nodes ws 0 ≡ reads e n
    go f m x true r y = x ∙ y
    go f m x false r y = never-reads y

-- ---- flatten

module _ (ws l : List ℕ) where
  -- Words that are no expression.
  pub flatten_no : {r : Refusal} {l' : List ℕ} → refused (number_of r) ≡ end_of (judge_expr no_text ws) → Attempted expr_words (flatten_final ws l) l l' (Err r)
  unfolding flatten_final flatten_by
  flatten_no {r} e = let q : judge_expr no_text ws ≡ fails (number_of r) = ends-no (judge_expr no_text ws) e in rw q (record { answer = refl; left = tt })

  module _ {n : ℕ} {l' : List ℕ} {r : Walked} (q : told n ≡ end_of (judge_expr no_text ws)) (wrote : (e : Expr) (m : ℕ) → expr_deep no_text max_nodes ws 0 ≡ reads e m → WroteExpr l 0 e m l' r) where
    abbrev it : Expr
    it = (ends_at (judge_expr no_text ws) q).0

    is : judge_expr no_text ws ≡ reads it n
    is = (ends_at (judge_expr no_text ws) q).1

    words : Wrote l 0 (expr_words (uncurry it)) (most_operands (uncurry it)) l' r.place
    words = (wrote it n (judged-read no_text ws is)).words

    -- The words are there.
    pub flatten_done : {size : ℕ} → size ≡ length l' → r.place ≤ size → Attempted expr_words (flatten_final ws l) l l' (Ok r.place)
    unfolding flatten_final flatten_by flat_fits pick
    flatten_done k h =
        let f : (r.place ≡ 0 + length (expr_words (uncurry it))) × (most_operands (uncurry it) < most_count) × (l' ≡ laid l 0 (expr_words (uncurry it))) = words.fits (omega (arith, k, h, words.kept)) in
        let room : leb (length (expr_words (uncurry it))) (length l) ≡ true = le-leb (length (expr_words (uncurry it))) (length l) (omega (arith, k, h, f.0, words.kept)) in
        let g : flatten_final ws l ≡ accepts (uncurry it) 0 = rw (is, lt-ltb (most_operands (uncurry it)) most_count f.1, room) refl in
        record { answer = rw g (ap told (f.0 ∙ zero-add _)); left = rw g (f.2 ∙ over-start (expr_words (uncurry it)) l) }

    -- They do not fit, or a count does not.
    pub flatten_full : {size : ℕ} → size ≡ length l' → size < r.place → Attempted expr_words (flatten_final ws l) l l' (Err refusal.NoRoom)
    unfolding flatten_final flatten_by flat_fits pick
    flatten_full k h = record { answer = rw final refl; left = rw final tt }
      where
        final : flatten_final ws l ≡ refuses 7
        final = either (most_operands (uncurry it)) most_count (λ small. either (length l) (length (expr_words (uncurry it))) (λ far. rw (is, lt-ltb (most_operands (uncurry it)) most_count small, lt-leb (length (expr_words (uncurry it))) (length l) far) refl) λ near. absurd (words.full (omega (arith, k, h, words.kept)) (omega (arith, near)) small)) λ big.
            rw (is, le-ltb (most_operands (uncurry it)) most_count big) refl

-- ---- solution

-- Words at the start of a slice, taken; words laid at the start.
prefix : (xs l : List ℕ) (w : ℕ) (l' : List ℕ) → l' ≡ xs ++ drop (length xs) l → length xs ≡ w → take w l' ≡ xs
prefix xs l w l' e n = rw (e, ← n) (take-append_seam xs _)

laid-first : (l xs l' : List ℕ) (p : ℕ) → l' ≡ laid l 0 xs → length xs ≡ p → Wrote l 0 xs 0 l' p
laid-first l xs l' p e n = rw (e, ← n) (wrote-laid l xs)

-- What a draft that was made says of its solution.
pub record Made (text tree draft : List ℕ) (c p w k : ℕ) : Type 0 where
  pub solution : Solution
  pub numbers : ℕ
  pub is : make_solution text tree 0 ≡ ok solution numbers
  pub final : draft_final text tree draft c ≡ accepts solution numbers
  pub enough : c + numbers ≤ max_number
  pub room : length (expr_words solution.body) ≤ length draft
  pub params : p ≡ length (words_of (param_items solution))
  pub size : w ≡ length (words_of (body_items solution))
  pub count : k ≡ c + numbers

module _ (text tree draft out : List ℕ) (c : ℕ) where
  -- A draft that is refused: so is the solution.
  pub solution-refused : {r : Refusal} {out' : List ℕ} → refused (number_of r) ≡ draft_said c (draft_final text tree draft c) → AttemptedAt flat_items c (solution_final text tree draft out c) out out' (Err r)
  unfolding draft_final solution_final solution_fits finish pick
  solution-refused {r} {out'} e = go (make_solution text tree 0) refl
    where
      Attempt : Type 0
      Attempt = AttemptedAt flat_items c (solution_final text tree draft out c) out out' (Err r)

      go : (x : Res Solution) → make_solution text tree 0 ≡ x → Attempt
      go (no z) q =
          let f : number_of r ≡ number z = let d : ◌≡◌ {A = Answered Drafted} (refused (number_of r)) (refused (number z)) = rw q at e in cc in
          rw q (record { answer = ap refused f; left = tt })
      go (ok s n) q = either max_number (c + n) spent λ enough.
          either (length draft) (length (expr_words s.body)) (short enough) (fits enough)
        where
          spent : max_number < c + n → Attempt
          spent h =
              let f : number_of r ≡ 13 = let d : ◌≡◌ {A = Answered Drafted} (refused (number_of r)) (refused 13) = rw (q, lt-ltb max_number (c + n) h) at e in cc in
              rw (q, lt-ltb max_number (c + n) h) (record { answer = ap refused f; left = tt })

          short : c + n ≤ max_number → length draft < length (expr_words s.body) → Attempt
          short h l =
              let f : number_of r ≡ 7 = let d : ◌≡◌ {A = Answered Drafted} (refused (number_of r)) (refused 7) = rw (q, le-ltb max_number (c + n) h, lt-leb (length (expr_words s.body)) (length draft) l) at e in cc in
              rw (q, le-ltb max_number (c + n) h, lt-leb (length (expr_words s.body)) (length draft) l) (record { answer = ap refused f; left = tt })

          fits : c + n ≤ max_number → length (expr_words s.body) ≤ length draft → Attempt
          fits h l =
              let d : ◌≡◌ {A = Answered Drafted} (refused (number_of r)) (told (record { params = length (words_of (param_items s)); body = length (words_of (body_items s)); count = c + n })) = rw (q, le-ltb max_number (c + n) h, le-leb (length (expr_words s.body)) (length draft) l) at e in
              cc

module _ (text tree draft : List ℕ) (c : ℕ) where
  -- A draft that is made.
  pub made : {a : Drafted} → told a ≡ draft_said c (draft_final text tree draft c) → Made text tree draft c a.params a.body a.count
  unfolding draft_final finish pick
  made {a} e = go (make_solution text tree 0) refl
    where
      go : (x : Res Solution) → make_solution text tree 0 ≡ x → Made text tree draft c a.params a.body a.count
      go (no z) q =
          let d : ◌≡◌ {A = Answered Drafted} (told a) (refused (number z)) = rw q at e in
          cc
      go (ok s n) q = either max_number (c + n) spent λ enough.
          either (length draft) (length (expr_words s.body)) (short enough) (fits enough)
        where
          spent : max_number < c + n → Made text tree draft c a.params a.body a.count
          spent h =
              let d : ◌≡◌ {A = Answered Drafted} (told a) (refused 13) = rw (q, lt-ltb max_number (c + n) h) at e in
              cc

          short : c + n ≤ max_number → length draft < length (expr_words s.body) → Made text tree draft c a.params a.body a.count
          short h l =
              let d : ◌≡◌ {A = Answered Drafted} (told a) (refused 7) = rw (q, le-ltb max_number (c + n) h, lt-leb (length (expr_words s.body)) (length draft) l) at e in
              cc

          fits : c + n ≤ max_number → length (expr_words s.body) ≤ length draft → Made text tree draft c a.params a.body a.count
          fits h l =
              let d : ◌≡◌ {A = Answered Drafted} (told a) (told (record { params = length (words_of (param_items s)); body = length (words_of (body_items s)); count = c + n })) = rw (q, le-ltb max_number (c + n) h, le-leb (length (expr_words s.body)) (length draft) l) at e in
              let z : a ≡ record { params = length (words_of (param_items s)); body = length (words_of (body_items s)); count = c + n } = cc in
              record {
                solution = s;
                numbers = n;
                is = q;
                final = rw (q, le-ltb max_number (c + n) h, le-leb (length (expr_words s.body)) (length draft) l) refl;
                enough = h;
                room = l;
                params = ap (λ (x : Drafted). x.params) z;
                size = ap (λ (x : Drafted). x.body) z;
                count = ap (λ (x : Drafted). x.count) z;
              }

  module _ {p w k : ℕ} (draft' : List ℕ) (m : Made text tree draft c p w k) (body : Laid (raised_words body_items c) (draft_final text tree draft c) draft draft') where
    abbrev s : Solution
    s = m.solution

    abbrev flat_body : Expr
    flat_body = uncurry (raise_expr c s.body)

    abbrev body_words : List ℕ
    body_words = words_of (raise c (expr_items s.body))

    parsed : ParsedSolution text s m.numbers
    parsed = rw m.is at (parsed-solution text tree)

    laid-body : draft' ≡ over body_words draft
    laid-body = rw m.final at body

    body-size : length body_words ≡ w
    body-size = words-raise c (expr_items s.body) ∙ sym m.size

    -- The body's words are in the draft slice.
    pub body-within : w ≤ length draft'
    body-within = omega (arith, m.size, m.room, ap length laid-body, over-length body_words draft)

    body-there : take w draft' ≡ body_words
    body-there =
        let fit : length body_words ≤ length draft = omega (arith, m.size, m.room, body-size) in
        prefix body_words draft w draft' (laid-body ∙ over-fits body_words draft fit) body-size

    body-read : expr_deep no_text max_nodes (take w draft') 0 ≡ reads (raise_expr c s.body) (length body_words)
    body-read = rw body-there (judged-read no_text body_words (parsed.back c m.enough))

    -- A count of the flattened body takes one word.
    small : most_operands flat_body < most_count
    small =
        omega (arith, most-size flat_body, shorter (raise_expr c s.body), ap (λ its. length (words_of its)) (items-raise c s.body), words-raise c (expr_items s.body), size-solution s, parsed.size, parsed.short)

    flat_items_lem : expr_items flat_body ≡ raise c (expr_items (uncurry s.body))
    flat_items_lem = ap expr_items (uncurry-raise c s.body) ∙ items-raise c (uncurry s.body)

    abbrev param_words : List ℕ
    param_words = words_of (raise c (param_items s))

    -- The parameters, then the flattened body.
    all_words : param_words ++ expr_words flat_body ≡ raised_words flat_items c s
    unfolding solution_items
    all_words =
        ap (λ its. param_words ++ words_of its) flat_items_lem
        ∙ sym (words_append (raise c (param_items s)) (raise c (expr_items (uncurry s.body))))
        ∙ ap words_of (sym (raise_append c (param_items s) (expr_items (uncurry s.body))))

    module _ (out : List ℕ) {out₁ out₂ : List ℕ} {r : Walked} (params : Laid (raised_words param_items c) (draft_final text tree draft c) out out₁) (wrote : (e : Expr) (n : ℕ) → expr_deep no_text max_nodes (take w draft') 0 ≡ reads e n → WroteExpr out₁ p e n out₂ r) where
      laid-params : out₁ ≡ laid out 0 param_words
      laid-params = (rw m.final at params) ∙ sym (over-start param_words out)

      first : Wrote out 0 param_words 0 out₁ p
      first =
          laid-first out param_words out₁ p laid-params (words-raise c (param_items s) ∙ sym m.params)

      -- All words of the answer.
      whole : Wrote out 0 (raised_words flat_items c s) (most_operands flat_body) out₂ r.place
      whole =
          wrote_as all_words (omega arith) (wrote_seq param_words (expr_words flat_body) first (wrote (raise_expr c s.body) (length body_words) body-read).words)

      long : length (raised_words flat_items c s) ≡ length (words_of (flat_items s))
      long = words-raise c (flat_items s)

      draft-fits : leb (length (expr_words s.body)) (length draft) ≡ true
      draft-fits = le-leb (length (expr_words s.body)) (length draft) m.room

      -- The words are there.
      pub solution-done : {size : ℕ} → size ≡ length out₂ → r.place ≤ size → AttemptedAt flat_items c (solution_final text tree draft out c) out out₂ (Ok (record { words = r.place; count = k }))
      unfolding solution_final solution_fits pick
      solution-done e h =
          let f = whole.fits (omega (arith, e, h, whole.kept)) in
          let fit : leb (length (words_of (flat_items s))) (length out) ≡ true = le-leb (length (words_of (flat_items s))) (length out) (omega (arith, e, h, whole.kept, f.0, long)) in
          let room : solution_fits draft out s ≡ true = rw (draft-fits, fit) refl in
          let g : solution_final text tree draft out c ≡ accepts s m.numbers = rw m.is (finish-long (solution_fits draft out) c s m.numbers m.enough room) in
          let n : r.place ≡ length (words_of (flat_items s)) = omega (arith, f.0, long) in
          record { answer = rw g (ap₂ (λ (x y : ℕ). told (record { words = x; count = y })) n m.count); left = rw g (f.2 ∙ over-start (raised_words flat_items c s) out) }

      -- They do not fit.
      pub solution-full : {size : ℕ} → size ≡ length out₂ → size < r.place → AttemptedAt flat_items c (solution_final text tree draft out c) out out₂ (Err refusal.NoRoom)
      unfolding solution_final solution_fits pick
      solution-full e h =
          let far : length out < length (words_of (flat_items s)) = either (length out) (length (words_of (flat_items s))) (λ f. f) λ near. absurd (whole.full (omega (arith, e, h, whole.kept)) (omega (arith, near, long)) small) in
          let room : solution_fits draft out s ≡ false = rw (draft-fits, lt-leb (length (words_of (flat_items s))) (length out) far) refl in
          let g : solution_final text tree draft out c ≡ refuses 7 = rw m.is (finish-short (solution_fits draft out) c s m.numbers m.enough room) in
          record { answer = rw g refl; left = rw g tt }
