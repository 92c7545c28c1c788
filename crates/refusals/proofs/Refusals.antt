-- The refusals of every call, proved.
use Prim.Native.Nat.{ℕ, ◌+◌, ◌*◌, ◌≤◌, ◌<◌}
use mathlib.Core.Bool.{Bool, true, false, false≢true}
use mathlib.Core.Path.{◌≡◌, refl, sym, ap, subst, ◌∙◌}
use mathlib.Core.List.{List, [], ◌++◌}
use native.Mathlib.Omega.{arith}
use lib.Dec.{ltb}
use lib.ListN.{length}
use borrow.Author.Tests.{ltb-true, ltb-false, le-leb}
use Rattle.reading.specs.Limits.{max_number}
use Rattle.reading.specs.Pick.{pick}
use Rattle.reading.specs.Tree.{Tree, weight}
use Rattle.reading.specs.Answer.{Refusal, number, no_room, numbers_spent, Ans, got, bad, and_then, check, Res, ok, no, lifted, chain, fits_in, refused}
use Rattle.reading.specs.Reading.{Read, read_text, read_words}
use Rattle.reading.proofs.Weight.{trees-words}
use Rattle.reading.proofs.ReadWeight.{read-weight}
use Rattle.reading.proofs.ReadRefusals.{Bad, bad-then, bad-check, OfReading, read-bad}
use Rattle.grammar.specs.Item.{words_of}
use Rattle.grammar.specs.Sort.{sort_words}
use Rattle.grammar.specs.Expr.{bind_items}
use Rattle.grammar.specs.ParseSort.{tree_at, parse_sort}
use Rattle.grammar.specs.ParseExpr.{parse_expr}
use Rattle.grammar.specs.ParseBind.{parse_bind}
use Rattle.grammar.specs.ParseSolution.{parse_solution}
use Rattle.grammar.specs.Operations.{the_tree, make_sort, make_expr, make_bind, make_solution}
use Rattle.grammar.proofs.Items.{words-plains}
use Rattle.grammar.proofs.AnswerHolds.{Post, Every, chain_post, lifted_post, map_post, map-every}
use Rattle.grammar.proofs.Lengths.{size-solution}
use Rattle.grammar.proofs.SortRefusals.{OfSort, tree-at, sort-bad}
use Rattle.grammar.proofs.ExprRefusals.{OfExpr, No, no-chain, no-lifted, expr-no, bind-no, solution-no}
use Rattle.grammar.proofs.SortOf.{SortOf, sort_of_lem}
use Rattle.grammar.proofs.SizeBind.{bind-size}
use Rattle.grammar.proofs.TheTree.{the_tree_lem}
use Rattle.reading.proofs.TextTree.{TextTree}
use Rattle.flattening.proofs.Uncurry.{solution-shorter}
use Rattle.flatten.proofs.Parsed.{ParsedExpr, ParsedSolution, parsed-expr, parsed-solution}
use Rattle.session.specs.Session.{Op, read_one, read_all, sort, expression, bind, solution, Call, Term, a_read, a_sort, an_expr, a_bind, a_solution, term_items, draft_items, make, made, room_for, Outcome, outcome}
use Rattle.session.specs.Compared.{reads_or_sorts}
use Rattle.refusals.specs.Refusals.{is_among, of_reading, of_sort, of_expr, refusals_of, per_byte, Roomy, RefusalsOf}
use Rattle.session.proofs.Made.{Fine, make-fine}
use Rattle.refusals.proofs.Said.{same_number}
use Rattle.session.proofs.Calls.{when_refused, when_accepted, decides_early, decides_spent, decides_short, decides_long, no-refusal}

-- An answer that takes no number.
no_of : {A : Type 0} (Q : Refusal → Type 0) (x : Ans A) (n : ℕ) → Bad Q x → No Q (lifted x n)
no_of Q (got a) n h = tt
no_of Q (bad r) n h = h

every_post : {A : Type 0} (Q : A → Type 0) (x : Ans A) → Every x Q → Post (lifted x 0) (λ a n. Q a)
every_post Q (got a) h = h
every_post Q (bad r) h = tt

-- ---- the refusals that are met before 13

-- What is read has at most five words for each byte.
read-words : (all : Bool) (text : List ℕ) (r : Read) → read_text all text ≡ got r → length (read_words r) ≤ 5 * length text
read-words all text r e = omega (arith, trees-words r.read, read-weight all text r e)

module _ (Q : Refusal → Type 0) (text tree : List ℕ) where
  -- The refusals of reading are among these, and that of a tree slice that lacks room.
  record OfTree : Type 0 where
    reading : OfReading Q
    room : (r : Read) → read_text false text ≡ got r → Bad Q (check (fits_in tree (read_words r)) no_room)

  -- Those of an operation are.
  abbrev OfOp : Op → Type 0
  OfOp read_one = OfReading Q
  OfOp read_all = OfReading Q
  OfOp sort = OfTree × OfSort Q
  OfOp expression = OfTree × OfExpr Q
  OfOp bind = OfTree × OfExpr Q
  OfOp solution = OfTree × OfExpr Q

  tree-bad : OfTree → OfSort Q → Bad Q (the_tree text tree)
  unfolding the_tree
  tree-bad q s = go (read_text false text) refl (read-bad Q q.reading false text)
    where
      go : (x : Ans Read) → read_text false text ≡ x → Bad Q x → Bad Q (and_then x (λ r. and_then (check (fits_in tree (read_words r)) no_room) (λ _. tree_at r.read 0)))
      go (got r) e h = bad-then Q (check (fits_in tree (read_words r)) no_room) _ (q.room r e) λ _. tree-at Q s r.read 0
      go (bad r) e h = h

  from_tree : {A : Type 0} (p : Tree → ℕ → Res A) (term : A → Term) → OfTree → OfSort Q → (n : ℕ) → ((t : Tree) → No Q (p t n)) → No Q (chain (chain (lifted (the_tree text tree) n) p) (λ a m. ok (term a) m))
  from_tree p term q s n h = no-chain Q (chain (lifted (the_tree text tree) n) p) _ (no-lifted Q (the_tree text tree) n p (tree-bad q s) h) λ a m. tt

  make-no : (op : Op) → OfOp op → (n : ℕ) → No Q (make op text tree n)
  unfolding make make_sort make_expr make_bind make_solution
  make-no read_one q n = no-lifted Q (read_text false text) n _ (read-bad Q q false text) λ r. tt
  make-no read_all q n = no-lifted Q (read_text true text) n _ (read-bad Q q true text) λ r. tt
  make-no sort q n = from_tree (λ t. lifted (parse_sort text t)) a_sort q.0 q.1 n λ t. no_of Q (parse_sort text t) n (sort-bad Q q.1 text t)
  make-no expression q n = from_tree (parse_expr text) an_expr q.0 q.1.sort n λ t. expr-no Q q.1 text t n
  make-no bind q n = from_tree (parse_bind text) a_bind q.0 q.1.sort n λ t. bind-no Q q.1 text t n
  make-no solution q n = from_tree (parse_solution text) a_solution q.0 q.1.sort n λ t. solution-no Q q.1 text t n

-- ---- why a call is refused

data Why (call : Call) (c r : ℕ) : Type 0 where
  early : (s : Refusal) → made call ≡ no s → number s ≡ r → Why call c r
  spent : (m : Term) (n : ℕ) → made call ≡ ok m n → max_number < c + n → numbers_spent ≡ r → Why call c r
  short : (m : Term) (n : ℕ) → made call ≡ ok m n → room_for call m ≡ false → number no_room ≡ r → Why call c r

module _ (call : Call) (c r : ℕ) where
  why : (outcome call c).said ≡ refused r → Why call c r
  why q = go (made call) refl
    where
      said : (o : Outcome) → outcome call c ≡ o → o.said ≡ refused r
      said o e = sym (ap (λ (x : Outcome). x.said) e) ∙ q

      room : (m : Term) (n : ℕ) → made call ≡ ok m n → c + n ≤ max_number → (b : Bool) → room_for call m ≡ b → Why call c r
      room m n e h true s = absurd (no-refusal m r (said _ (when_accepted call c m n (decides_long call c m n e h s))))
      room m n e h false s = short m n e s (same_number (number no_room) (said _ (when_refused call c (number no_room) (decides_short call c m n e h s))))

      count : (m : Term) (n : ℕ) → made call ≡ ok m n → (b : Bool) → ltb max_number (c + n) ≡ b → Why call c r
      count m n e true t =
          let h : max_number < c + n = ltb-true max_number (c + n) t in
          spent m n e h (same_number numbers_spent (said _ (when_refused call c numbers_spent (decides_spent call c m n e h))))
      count m n e false t = room m n e (ltb-false max_number (c + n) t) (room_for call m) refl

      go : (x : Res Term) → made call ≡ x → Why call c r
      go (no s) e = early s e (same_number (number s) (said _ (when_refused call c (number s) (decides_early call c s e))))
      go (ok m n) e = count m n e (ltb max_number (c + n)) refl

-- ---- the operation has the refusal

abbrev Among : List ℕ → Refusal → Type 0
Among rs r = is_among (number r) (of_reading ++ rs) ≡ true

module _ (rs : List ℕ) where
  reading-has : OfReading (Among rs)
  unfolding is_among pick
  reading-has = record { one = refl; two = refl; three = refl; four = refl; five = refl; six = refl }

  tree-has : (text tree : List ℕ) → OfTree (Among rs) text tree
  unfolding is_among pick
  tree-has text tree = record { reading = reading-has; room = λ r e. bad-check (Among rs) (fits_in tree (read_words r)) no_room refl }

sort-has : OfSort (Among of_sort)
unfolding is_among pick
sort-has = record { eight = refl; twelve = refl }

expr-has : OfExpr (Among of_expr)
unfolding is_among pick
expr-has = record { sort = record { eight = refl; twelve = refl }; nine = refl; ten = refl; eleven = refl; seventeen = refl }

-- The refusals before 13.
early-among : (op : Op) (text tree : List ℕ) → No (λ s. is_among (number s) (refusals_of op) ≡ true) (make op text tree 0)
early-among read_one text tree = make-no (Among []) text tree read_one (reading-has []) 0
early-among read_all text tree = make-no (Among []) text tree read_all (reading-has []) 0
early-among sort text tree = make-no (Among of_sort) text tree sort (tree-has of_sort text tree, sort-has) 0
early-among expression text tree = make-no (Among of_expr) text tree expression (tree-has of_expr text tree, expr-has) 0
early-among bind text tree = make-no (Among of_expr) text tree bind (tree-has of_expr text tree, expr-has) 0
early-among solution text tree = make-no (Among of_expr) text tree solution (tree-has of_expr text tree, expr-has) 0

-- 13, which takes a number that is bound.
spent-among : (op : Op) (c n : ℕ) → c ≤ max_number → max_number < c + n → (reads_or_sorts op ≡ true → 0 ≡ n) → is_among numbers_spent (refusals_of op) ≡ true
unfolding is_among pick
spent-among read_one c n h l z = absurd (omega (arith, z refl))
spent-among read_all c n h l z = absurd (omega (arith, z refl))
spent-among sort c n h l z = absurd (omega (arith, z refl))
spent-among expression c n h l z = refl
spent-among bind c n h l z = refl
spent-among solution c n h l z = refl

short-among : (op : Op) → is_among (number no_room) (refusals_of op) ≡ true
unfolding is_among pick
short-among read_one = refl
short-among read_all = refl
short-among sort = refl
short-among expression = refl
short-among bind = refl
short-among solution = refl

made-no : (Q : Refusal → Type 0) (call : Call) (s : Refusal) → No Q (made call) → made call ≡ no s → Q s
made-no Q call s h e = subst (No Q) e h

among : (call : Call) (c r : ℕ) → c ≤ max_number → Why call c r → is_among r (refusals_of call.op) ≡ true
among call c r h (early s e k) = rw (← k) (made-no _ call s (early-among call.op call.text call.tree) e)
among call c r h (spent m n e l k) =
    rw (← k) (spent-among call.op c n h l (subst (λ (x : Res Term). Post x (Fine call.op 0)) e (make-fine call.op call.text call.tree 0)).none)
among call c r h (short m n e s k) = rw (← k) (short-among call.op)

-- ---- 7 is none of them where the slices are roomy

-- How many words draft and output take.
record Words (op : Op) (text : List ℕ) (m : Term) : Type 0 where
  draft : length (words_of (draft_items m)) ≤ (per_byte op).draft * length text
  out : length (words_of (term_items m)) ≤ (per_byte op).out * length text

every-read : (all : Bool) (text : List ℕ) → Every (read_text all text) (λ r. length (read_words r) ≤ 5 * length text)
every-read all text = go (read_text all text) refl
  where
    go : (x : Ans Read) → read_text all text ≡ x → Every x (λ r. length (read_words r) ≤ 5 * length text)
    go (got r) e = read-words all text r e
    go (bad r) e = tt

module _ (text tree : List ℕ) where
  read-size : (r : Read) (all : Bool) (op : Op) → (per_byte op).out ≡ 5 → length (read_words r) ≤ 5 * length text → Words op text (a_read all r)
  unfolding term_items draft_items words_of
  read-size r all op e h = record { draft = omega arith; out = rw e (omega (arith, h, ap length (words-plains (read_words r)))) }

  make-words : (op : Op) → Post (make op text tree 0) (λ m n. Words op text m)
  unfolding make make_sort make_bind term_items draft_items words_of
  make-words read_one = lifted_post (read_text false text) 0 _ _ _ (every-read false text) λ r h. read-size r false read_one refl h
  make-words read_all = lifted_post (read_text true text) 0 _ _ _ (every-read true text) λ r h. read-size r true read_all refl h
  make-words sort =
      chain_post (make_sort text tree 0) _ (λ s m. length (sort_words s) ≤ 15 * length text) _
      (lifted_post (the_tree text tree) 0 _ (TextTree text) _ (the_tree_lem text tree) λ t i.
      every_post (λ s. length (sort_words s) ≤ 15 * length text) (parse_sort text t) (map-every (parse_sort text t) (SortOf t) _ (λ s h. omega (arith, h.size, i.weighs)) (sort_of_lem text t))) λ s m h.
      record { draft = omega arith; out = omega (arith, h, ap length (words-plains (sort_words s))) }
  make-words expression = chain_post (make_expr text tree 0) _ (ParsedExpr text) _ (parsed-expr text tree) λ e m h. record { draft = omega arith; out = h.size }
  make-words bind =
      chain_post (make_bind text tree 0) _ (λ b m. length (words_of (bind_items b)) ≤ 15 * length text) _
      (lifted_post (the_tree text tree) 0 _ (TextTree text) _ (the_tree_lem text tree) λ t i.
      map_post (parse_bind text t 0) (λ b m. length (words_of (bind_items b)) ≤ 15 * weight t) _ (λ b m h. omega (arith, h, i.weighs)) (bind-size text t 0)) λ b m h.
      record { draft = omega arith; out = h }
  make-words solution =
      chain_post (make_solution text tree 0) _ (ParsedSolution text) _ (parsed-solution text tree) λ s m h.
      record { draft = omega (arith, h.size, size-solution s); out = omega (arith, h.size, solution-shorter s) }

module _ (call : Call) (l : Roomy call) where
  fits : (m : Term) (n : ℕ) → made call ≡ ok m n → room_for call m ≡ true
  unfolding room_for pick
  fits m n e =
      let w : Words call.op call.text m = subst (λ (x : Res Term). Post x (λ t k. Words call.op call.text t)) e (make-words call.text call.tree call.op) in
      rw (le-leb (length (words_of (draft_items m))) (length call.draft) (omega (arith, w.draft, l.draft)), le-leb (length (words_of (term_items m))) (length call.out) (omega (arith, w.out, l.out))) refl

abbrev NotSeven : Refusal → Type 0
NotSeven r = number r ≡ number no_room → ⊥

reading-not : OfReading NotSeven
reading-not =
    record { one = λ e. omega arith; two = λ e. omega arith; three = λ e. omega arith; four = λ e. omega arith; five = λ e. omega arith; six = λ e. omega arith }

expr-not : OfExpr NotSeven
expr-not =
    record { sort = record { eight = λ e. omega arith; twelve = λ e. omega arith }; nine = λ e. omega arith; ten = λ e. omega arith; eleven = λ e. omega arith; seventeen = λ e. omega arith }

tree-not : (text tree : List ℕ) → 5 * length text ≤ length tree → OfTree NotSeven text tree
tree-not text tree l =
    record { reading = reading-not; room = λ r e. rw (le-leb (length (read_words r)) (length tree) (omega (arith, l, read-words false text r e))) tt }

early-not : (op : Op) (text tree : List ℕ) → (per_byte op).tree * length text ≤ length tree → No NotSeven (make op text tree 0)
early-not read_one text tree l = make-no NotSeven text tree read_one reading-not 0
early-not read_all text tree l = make-no NotSeven text tree read_all reading-not 0
early-not sort text tree l = make-no NotSeven text tree sort (tree-not text tree l, expr-not.sort) 0
early-not expression text tree l = make-no NotSeven text tree expression (tree-not text tree l, expr-not) 0
early-not bind text tree l = make-no NotSeven text tree bind (tree-not text tree l, expr-not) 0
early-not solution text tree l = make-no NotSeven text tree solution (tree-not text tree l, expr-not) 0

no_seven_lem : (call : Call) (c : ℕ) → Roomy call → Why call c (number no_room) → ⊥
no_seven_lem call c l (early s e k) = made-no NotSeven call s (early-not call.op call.text call.tree l.tree) e k
no_seven_lem call c l (spent m n e h k) = omega (arith, k)
no_seven_lem call c l (short m n e s k) = false≢true (sym s ∙ fits call l m n e)

-- Every call on a reader.
pub refusals_of_lem : (call : Call) (c : ℕ) → c ≤ max_number → RefusalsOf call c
refusals_of_lem call c h =
    record { among = λ r e. among call c r h (why call c r e); no_seven = λ l e. no_seven_lem call c l (why call c (number no_room) e) }
