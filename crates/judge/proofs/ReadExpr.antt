-- What the walk of an expression answers, step by step: each lemma is one way through the code.
use Prim.Native.Nat.{ℕ, zero, suc, ◌+◌, ◌-◌, ◌≤◌, ◌<◌}
use mathlib.Core.Bool.{Bool, true, false}
use mathlib.Core.Path.{◌≡◌, refl, sym, ◌∙◌}
use mathlib.Core.List.{List}
use native.Mathlib.Omega.{arith}
use lib.ListN.{length, get_or}
use lib.Dec.{eqb}
use borrow.Author.Tests.{lt-ltb, le-ltb}
use Rattle.reading.specs.Limits.{max_nodes}
use Rattle.reading.specs.Pick.{pick}
use Rattle.reading.specs.Bytes.{just}
use Rattle.reading.specs.Answer.{not_words}
use Rattle.grammar.specs.Expr.{Kind, Exprs, node, app, enil, econs}
use Rattle.words.specs.Answered.{Answered, told, refused}
use Rattle.heads.specs.declared.Header.TheVariants as head
use Rattle.judging.specs.Judge.{Judged, reads, fails, FromWords, Plan, operands_of, arguments_of, several, sort_at, sort_if, kinds, header, planned, expr_deep, at_end, expr_at, judge_expr, judge_solution, word, binders_at}
use Rattle.judging.specs.Ends.{end_of}
use Rattle.heads.specs.Heads.{head_of}
use Rattle.judging.proofs.ReadFields.{ends-ret, word_in, word_out, There, there-reads}

-- A reading whose end or refusal is known.
pub ends_at : {A : Type 0} (x : Judged A) {n : ℕ} → told n ≡ end_of x → (a : A) × (x ≡ reads a n)
ends_at (reads a m) e = (a, cc)
ends_at (fails r) e = let z : ◌≡◌ {A = ℕ} 0 1 = cc in absurd (omega arith)

pub ends-no : {A : Type 0} (x : Judged A) {r : ℕ} → refused r ≡ end_of x → x ≡ fails r
ends-no (reads a m) e = let z : ◌≡◌ {A = ℕ} 0 1 = cc in absurd (omega arith)
ends-no (fails r) e = cc

-- A header whose answer is known.
pub head-operands : (x : Judged Plan) {a n : ℕ} → told (head.Operands a n) ≡ head_of x → (k : Kind) × (x ≡ reads (operands_of k n) a)
head-operands (reads (operands_of k m) b) e = (k, cc)
head-operands (reads (arguments_of f m) b) e = let z : ◌≡◌ {A = ℕ} 0 1 = cc in absurd (omega arith)
head-operands (fails r) e = let z : ◌≡◌ {A = ℕ} 0 1 = cc in absurd (omega arith)

pub head-arguments : (x : Judged Plan) {a n : ℕ} {f : Bool} → told (head.Arguments a f n) ≡ head_of x → x ≡ reads (arguments_of f n) a
head-arguments (reads (operands_of k m) b) e = let z : ◌≡◌ {A = ℕ} 0 1 = cc in absurd (omega arith)
head-arguments (reads (arguments_of f m) b) e = cc
head-arguments (fails r) e = let z : ◌≡◌ {A = ℕ} 0 1 = cc in absurd (omega arith)

pub head-no : (x : Judged Plan) {r : ℕ} → refused r ≡ head_of x → x ≡ fails r
head-no (reads (operands_of k m) b) e = let z : ◌≡◌ {A = ℕ} 0 1 = cc in absurd (omega arith)
head-no (reads (arguments_of f m) b) e = let z : ◌≡◌ {A = ℕ} 0 1 = cc in absurd (omega arith)
head-no (fails r) e = cc

-- So many, one after the other: one more, or none.
module _ {A B : Type 0} (p : FromWords A) (none : B) (put : A → B → B) (ws : List ℕ) (at : ℕ) where
  pub several-no : (i : ℕ) {r : ℕ} → 0 < i → refused r ≡ end_of (p ws at) → end_of (several p none put i ws at) ≡ refused r
  unfolding several
  several-no zero h e = absurd (omega arith)
  several-no (suc i) {r} h e = let m : p ws at ≡ fails r = ends-no (p ws at) e in rw m refl

  pub several-at : (n m : ℕ) {b : ℕ} → n ≡ m + 1 → told b ≡ end_of (p ws at) → end_of (several p none put n ws at) ≡ end_of (several p none put m ws b)
  unfolding several
  several-at zero m h e = absurd (omega arith)
  several-at (suc i) n {b} h e =
      let m = ends_at (p ws at) e in
      let q : n ≡ i = omega (arith, h) in
      rw (m.1, q) (ends-ret (several p none put i ws b) (put m.0) ws)

  pub several-end : (i : ℕ) → i ≤ 0 → end_of (several p none put i ws at) ≡ told at
  unfolding several
  several-end zero h = refl
  several-end (suc i) h = absurd (omega arith)

-- So many expressions with room for so many inside one another.
abbrev pub siblings : ℕ → ℕ → ℕ → FromWords Exprs
siblings limit room n = several (expr_deep limit room) enil econs n

module _ (ws : List ℕ) (at : ℕ) where
  -- Where there is no room.
  pub full-known : {k : ℕ} → There ws at k → 32 ≤ k → k < 53 → refused 6 ≡ end_of (expr_deep 0 0 ws at)
  unfolding expr_deep pick kinds
  full-known {k} t l h = rw (there-reads ws at t, le-ltb k 32 l, lt-ltb k 53 h) refl

  pub full-high : {k : ℕ} → There ws at k → 53 ≤ k → refused 14 ≡ end_of (expr_deep 0 0 ws at)
  unfolding expr_deep pick kinds
  full-high {k} t h = rw (there-reads ws at t, le-ltb k 32 (omega (arith, h)), le-ltb k 53 h) refl

  pub full-low : {k : ℕ} → There ws at k → k < 32 → refused 14 ≡ end_of (expr_deep 0 0 ws at)
  unfolding expr_deep pick
  full-low {k} t l = rw (there-reads ws at t, lt-ltb k 32 l) refl

  pub full-out : length ws ≤ at → refused 14 ≡ end_of (expr_deep 0 0 ws at)
  unfolding expr_deep
  full-out h = rw (word_out ws at h) refl

module _ (limit : ℕ) (ws : List ℕ) (at : ℕ) where
  -- An output sort.
  pub sort-none : {f : Bool} → f ≡ false → told at ≡ end_of (sort_if limit f ws at)
  unfolding sort_if
  sort-none e = rw e refl

  pub sort-some : {f : Bool} {r : Answered ℕ} → f ≡ true → r ≡ end_of (sort_at limit ws at) → r ≡ end_of (sort_if limit f ws at)
  unfolding sort_if
  sort-some e q = rw e (q ∙ sym (ends-ret (sort_at limit ws at) just ws))

  -- An expression.
  pub expr-full : (room : ℕ) {r : Answered ℕ} → room ≡ 0 → r ≡ end_of (expr_deep 0 0 ws at) → r ≡ end_of (expr_deep limit room ws at)
  unfolding expr_deep kinds
  expr-full room e q = rw e q

  pub expr-no : (room : ℕ) {r : ℕ} → (room ≡ 0 → ⊥) → refused r ≡ head_of (header limit ws at) → refused r ≡ end_of (expr_deep limit room ws at)
  unfolding expr_deep
  expr-no zero z e = absurd (z refl)
  expr-no (suc room) {r} z e = let h : header limit ws at ≡ fails r = head-no (header limit ws at) e in rw h refl

  pub expr-operands : (room : ℕ) {r : Answered ℕ} {a n : ℕ} → (room ≡ 0 → ⊥) → told (head.Operands a n) ≡ head_of (header limit ws at) → r ≡ end_of (siblings limit (room - 1) n ws a) → r ≡ end_of (expr_deep limit room ws at)
  unfolding expr_deep planned
  expr-operands zero z e s = absurd (z refl)
  expr-operands (suc room) {r} {a} {n} z e s =
      let h = head-operands (header limit ws at) e in
      let p : suc room - 1 ≡ room = omega arith in
      rw (h.1, ← p) (s ∙ sym (ends-ret (siblings limit (suc room - 1) n ws a) (node h.0) ws))

  pub expr-arguments : (room : ℕ) {a n r : ℕ} {f : Bool} → (room ≡ 0 → ⊥) → told (head.Arguments a f n) ≡ head_of (header limit ws at) → refused r ≡ end_of (siblings limit (room - 1) n ws a) → refused r ≡ end_of (expr_deep limit room ws at)
  unfolding expr_deep planned
  expr-arguments zero z e s = absurd (z refl)
  expr-arguments (suc room) {a} {n} {r} {f} z e s =
      let h : header limit ws at ≡ reads (arguments_of f n) a = head-arguments (header limit ws at) e in
      let p : suc room - 1 ≡ room = omega arith in
      let x : siblings limit (suc room - 1) n ws a ≡ fails r = ends-no (siblings limit (suc room - 1) n ws a) s in
      rw (h, ← p, x) refl

  pub expr-sort : (room : ℕ) {a n d r : ℕ} {f : Bool} → (room ≡ 0 → ⊥) → told (head.Arguments a f n) ≡ head_of (header limit ws at) → told d ≡ end_of (siblings limit (room - 1) n ws a) → refused r ≡ end_of (sort_if limit f ws d) → refused r ≡ end_of (expr_deep limit room ws at)
  unfolding expr_deep planned
  expr-sort zero z e s o = absurd (z refl)
  expr-sort (suc room) {a} {n} {d} {r} {f} z e s o =
      let h : header limit ws at ≡ reads (arguments_of f n) a = head-arguments (header limit ws at) e in
      let p : suc room - 1 ≡ room = omega arith in
      let x = ends_at (siblings limit (suc room - 1) n ws a) s in
      let y : sort_if limit f ws d ≡ fails r = ends-no (sort_if limit f ws d) o in
      rw (h, ← p, x.1, y) refl

  pub expr-app : (room : ℕ) {a n d g : ℕ} {f : Bool} {r : Answered ℕ} → (room ≡ 0 → ⊥) → told (head.Arguments a f n) ≡ head_of (header limit ws at) → told d ≡ end_of (siblings limit (room - 1) n ws a) → told g ≡ end_of (sort_if limit f ws d) → r ≡ end_of (expr_deep limit (room - 1) ws g) → r ≡ end_of (expr_deep limit room ws at)
  unfolding expr_deep planned
  expr-app zero z e s o q = absurd (z refl)
  expr-app (suc room) {a} {n} {d} {g} {f} {r} z e s o q =
      let h : header limit ws at ≡ reads (arguments_of f n) a = head-arguments (header limit ws at) e in
      let p : suc room - 1 ≡ room = omega arith in
      let x = ends_at (siblings limit (suc room - 1) n ws a) s in
      let y = ends_at (sort_if limit f ws d) o in
      rw (h, ← p, x.1, y.1) (q ∙ sym (ends-ret (expr_deep limit (suc room - 1) ws g) (app y.0 x.0) ws))

-- The whole of the words.
module _ (limit : ℕ) (ws : List ℕ) where
  -- What is refused where it does not end with the words.
  end-pick : {A : Type 0} (t : Bool) (a : A) (n : ℕ) → pick t (told n) (refused 14) ≡ end_of (pick t (reads a n) (fails not_words))
  unfolding pick
  end-pick true a n = refl
  end-pick false a n = refl

  pub whole-all : {n : ℕ} {r : Answered ℕ} → told n ≡ end_of (expr_deep limit max_nodes ws 0) → r ≡ pick (eqb n (length ws)) (told n) (refused 14) → r ≡ end_of (judge_expr limit ws)
  unfolding judge_expr expr_at at_end
  whole-all {n} e q = let m = ends_at (expr_deep limit max_nodes ws 0) e in rw m.1 (q ∙ end-pick (eqb n (length ws)) m.0 n)

  pub whole-no : {r : ℕ} → refused r ≡ end_of (expr_deep limit max_nodes ws 0) → refused r ≡ end_of (judge_expr limit ws)
  unfolding judge_expr expr_at
  whole-no {r} e = let m : expr_deep limit max_nodes ws 0 ≡ fails r = ends-no (expr_deep limit max_nodes ws 0) e in rw m refl

  -- A solution: the number of its parameters, these, the body, and nothing more.
  pub solution-none : length ws ≡ 0 → refused 14 ≡ end_of (judge_solution limit ws)
  unfolding judge_solution
  solution-none h = rw (word_out ws 0 (omega (arith, h))) refl

  module _ (some : length ws ≡ 0 → ⊥) where
    first_word : word ws 0 ≡ reads (get_or ws 0 0) (0 + 1)
    first_word = word_in ws 0 (omega (arith, some))

    pub solution-params : {r : ℕ} → refused r ≡ end_of (binders_at limit (get_or ws 0 0) ws 1) → refused r ≡ end_of (judge_solution limit ws)
    unfolding judge_solution
    solution-params e = rw (first_word, ends-no (binders_at limit (get_or ws 0 0) ws 1) e) refl

    module _ {a : ℕ} (e : told a ≡ end_of (binders_at limit (get_or ws 0 0) ws 1)) where
      pub solution-body : {r : ℕ} → refused r ≡ end_of (expr_deep limit max_nodes ws a) → refused r ≡ end_of (judge_solution limit ws)
      unfolding judge_solution expr_at
      solution-body f =
          let b = ends_at (binders_at limit (get_or ws 0 0) ws 1) e in
          rw (first_word, b.1, ends-no (expr_deep limit max_nodes ws a) f) refl

      pub solution-all : {n : ℕ} {r : Answered ℕ} → told n ≡ end_of (expr_deep limit max_nodes ws a) → r ≡ pick (eqb n (length ws)) (told n) (refused 14) → r ≡ end_of (judge_solution limit ws)
      unfolding judge_solution expr_at at_end
      solution-all {n} f q =
          let b = ends_at (binders_at limit (get_or ws 0 0) ws 1) e in
          let x = ends_at (expr_deep limit max_nodes ws a) f in
          rw (first_word, b.1, x.1) (q ∙ end-pick (eqb n (length ws)) (record { params = b.0; body = x.0 }) n)
