-- The four functions of the cycle meet their contracts, since each call of one from another has a smaller measure.
use Prim.Native.Nat.{ℕ, ◌<◌, ◌-◌, ◌≤◌}
use lib.ListN.{length, get_or}
use mathlib.Core.Path.{◌≡◌, refl, sym, ap, ◌∙◌}
use native.Mathlib.Omega.{arith}
use Rattle.std.proofs.lemmas.Result.{err_from_is_err_and}
use borrow.Rule.Slice.PartMut.{same_len_mid}
use Rattle.reading.specs.Tree.{Trees, trees_words, trees, list, tree_words}
use Rattle.lexing.proofs.Lexing.Parts.{tail}
use Rattle.sorts.specs.Outcome.{refused}
use Rattle.sorts.proofs.RowWords.{mark-short, abs_length}
use Rattle.sorts.proofs.RowLoop.{Turn, sort-short, left-start, left-some, turn, left_end, left-refused, left-more, row-bound}
use Rattle.reading.specs.Limits.{max_func}
use Rattle.reading.specs.Answer.{got}
use Rattle.grammar.specs.ParseSort.{func_number, form_sort, parse_sort, atom_sort, symbol_in, view}
use Rattle.sorts.specs.SortNames.{row_form}
use Rattle.sorts.proofs.Outcomes.{out-still, out-lent}
use Rattle.reading.proofs.TreeHead.{three-trees, alone, head-two, is-symbol, is-list, size-symbol}
use Rattle.sorts.proofs.FuncShape.{Shape, snoc_tree, wide_at, no_number, no-inputs, func-shape, func-outside, func-row, arity_most}
use Rattle.grammar.specs.Names.{func}
use Rattle.sorts.specs.Rows.{row_head}
use Rattle.sorts.proofs.ListForms.{Headed, headed, bad-list, row_done, row-refused, head-short}
use mathlib.Core.List.{[]}
use Rattle.grammar.proofs.TreeHead.{no-sort}
use Rattle.sorts.proofs.sorts.+each_sort_func_sort_list_sort_sort.Goals as goal
use Rattle.sorts.proofs.sorts.+each_sort_func_sort_list_sort_sort.Goals.{each_sort-After-node_words-k, func_sort-After-func_number, func_sort-In_ok-n, func_sort-Start, list_sort-In-Func, list_sort-In-Row, func_sort-then-items-ne-INTEGER-via-then-items-ne-INTEGER, func_sort-then-items-ne-INTEGER-via-else-items-ne-INTEGER+then-items-ne-LIST}

-- What the code of `each_sort` needs: a turn of its loop reads one tree, and what is left to do makes the whole.

-- What the turn reads, whichever trees the words are of.
turn-of : (t : ℕ) (s : each_sort-After-node_words-k t) (ts : Trees) (e : s.args.items.now ≡ trees_words ts) → Turn s.args.items.now s.loop-at.at s.node_words-k.result (s.loop-at.invariant.2 ts e).rest
turn-of t s ts e = turn s.args.items.now s.loop-at.at s.node_words-k.result (s.loop-at.invariant.2 ts e).words s.loop-at-test.true s.node_words-k.ensures

-- The same for the trees that the words are said to be of.
this-turn : (t : ℕ) (s : each_sort-After-node_words-k t) → Turn s.args.items.now s.loop-at.at s.node_words-k.result (s.loop-at.invariant.2 s.requires.items s.requires.words).rest
this-turn t s = turn-of t s s.requires.items s.requires.words

pub each_sort-loop-at-init : goal.each_sort-loop-at-init
each_sort-loop-at-init t c = (omega arith, refl, λ ts e. left-start _ ts _ _ _ e)

pub each_sort-node_words-k-requires : goal.each_sort-node_words-k-requires
each_sort-node_words-k-requires t c =
    let a = c.requires in
    let q = left-some c.args.items.now c.loop-at.at (c.loop-at.invariant.2 a.items a.words).words c.loop-at-test.true in
    record { first = q.first; rest = trees_words q.others; words = tail c.args.items.now c.loop-at.at ∙ q.words }

pub each_sort-put_mark-next-requires : goal.each_sort-put_mark-next-requires
each_sort-put_mark-next-requires t c =
    let a = c.requires in
    omega (arith, (c.loop-at.invariant.2 a.items a.words).room, a.small, c.loop-at-test.true)

pub each_sort-slice_bounds-sort-end : goal.each_sort-slice_bounds-sort-end
each_sort-slice_bounds-sort-end t c =
    let u = this-turn t (goal.at.each_sort-slice_bounds-sort-end t c).After-node_words-k in
    u.size ∙ ap length (sym u.part)

pub each_sort-sort-requires : goal.each_sort-sort-requires
each_sort-sort-requires t c =
    let u = this-turn t (goal.at.each_sort-sort-requires t c).After-node_words-k in
    (omega (arith, c.decreases, ap length u.part, u.size, u.fits), record { tree = u.next.first; words = u.part; small = omega (arith, ap length u.part, u.size, u.fits, c.requires.small) })

pub each_sort-returns-in_err-v : goal.each_sort-returns-in_err-v
each_sort-returns-in_err-v t c ts e =
    let u = turn-of t (goal.at.each_sort-returns-in_err-v t c).After-node_words-k ts e in
    let p = err_from_is_err_and c.from_residual.result c.from_residual.ensures.1 in
    rw (p.1, p.2) (left-refused _ ts _ _ _ _ _ _ _ (c.loop-at.invariant.2 ts e) u.next (c.sort.ensures u.next.first u.part) c.in_err-v.was)

pub each_sort-overflow_add-at : goal.each_sort-overflow_add-at
each_sort-overflow_add-at t c =
    omega (arith, (this-turn t (goal.at.each_sort-overflow_add-at t c).After-node_words-k).fits, c.requires.small)

pub each_sort-overflow_add-w : goal.each_sort-overflow_add-w
each_sort-overflow_add-w t c =
    let a = c.requires in
    let u = this-turn t (goal.at.each_sort-overflow_add-w t c).After-node_words-k in
    omega (arith, u.fits, u.size, a.small, (c.loop-at.invariant.2 a.items a.words).room, c.put_mark-next.ensures.0, mark-short c.loop-at.left, sort-short c.args.text.now u.next.first (c.sort.ensures u.next.first u.part) c.in_ok-v.was)

pub each_sort-loop-at-smaller : goal.each_sort-loop-at-smaller
each_sort-loop-at-smaller t c =
    let u = this-turn t (goal.at.each_sort-loop-at-smaller t c).After-node_words-k in
    omega (arith, u.fits, u.some)

pub each_sort-loop-at-preserved : goal.each_sort-loop-at-preserved
each_sort-loop-at-preserved t c = (
  (this-turn t (goal.at.each_sort-loop-at-preserved t c).After-node_words-k).fits,
  same_len_mid {X = ℕ} c.min-from.result (length c.put_mark-next.new.out - c.min-from.result) c.put_mark-next.new.out c.sort.new.out c.sort.auto.out ∙ c.put_mark-next.auto.out ∙ c.loop-at.invariant.1,
  λ ts e.
      (let u = turn-of t (goal.at.each_sort-loop-at-preserved t c).After-node_words-k ts e in
      rw c.saturating_sub-left.ensures (left-more _ ts _ _ _ _ _ _ _ (c.loop-at.invariant.2 ts e) u.next _ _ _ _ _ c.put_mark-next.ensures.0 c.put_mark-next.ensures.1 c.min-from.ensures u.size (c.sort.ensures u.next.first u.part) c.in_ok-v.was)),
)

pub each_sort-returns : goal.each_sort-returns
each_sort-returns t c ts e = left_end _ ts _ _ _ _ _ _ _ (c.loop-at.invariant.2 ts e) c.loop-at-test.false

-- What the code of `func_sort` needs: the shape of the three trees behind `func`, its number, and the row of its inputs and its output.

-- Three trees have at least six words.
long : (t : ℕ) (s : func_sort-Start t) → 5 < length s.args.items.now
long t s =
    let a = s.requires in
    (three-trees a.items a.words a.three).long

-- The inputs and the output, whichever trees the words are of.
parts_of : (t : ℕ) (p : func_sort-After-func_number t) (ts : Trees) → p.args.items.now ≡ trees_words ts → trees ts ≡ 3 → Shape p.args.text.now p.args.items.now ts
parts_of t p ts e h = func-shape _ ts (three-trees ts e h) p.if-items-ne-INTEGER.false p.if-items-ne-LIST.false

-- The same for the trees that the words are said to be of.
parts : (t : ℕ) (p : func_sort-After-func_number t) → Shape p.args.text.now p.args.items.now p.requires.items
parts t p =
    let a = p.requires in
    parts_of t p a.items a.words a.three

number_is : (t : ℕ) (q : func_sort-In_ok-n t) → got q.in_ok-n.n ≡ func_number (wide_at q.args.items.now)
number_is t q = q.in_ok-n.ensures

number-most : (t : ℕ) (q : func_sort-In_ok-n t) → q.in_ok-n.n ≤ max_func
number-most t q = arity_most (wide_at q.args.items.now) q.in_ok-n.n (number_is t q)

pub func_sort-bounds-items-0 : goal.func_sort-bounds-items-0
func_sort-bounds-items-0 t c = omega (arith, long t (goal.at.func_sort-bounds-items-0 t c).Start)

pub func_sort-returns-then-items-ne-INTEGER : goal.func_sort-returns-then-items-ne-INTEGER
func_sort-returns-then-items-ne-INTEGER t c ts e h = elim c.then-items-ne-INTEGER.branch [ func_sort-then-items-ne-INTEGER-via-then-items-ne-INTEGER w ↦ rw (no_number _ ts (three-trees ts e h) w.if-items-ne-INTEGER.true) (refused refl) | func_sort-then-items-ne-INTEGER-via-else-items-ne-INTEGER+then-items-ne-LIST w ↦ rw (no-inputs _ ts (three-trees ts e h) w.if-items-ne-INTEGER.false w.if-items-ne-LIST.true) (refused refl) ]

pub func_sort-bounds-items-5 : goal.func_sort-bounds-items-5
func_sort-bounds-items-5 t c = omega (arith, long t (goal.at.func_sort-bounds-items-5 t c).Start)

pub func_sort-bounds-items-1 : goal.func_sort-bounds-items-1
func_sort-bounds-items-1 t c = omega (arith, long t (goal.at.func_sort-bounds-items-1 t c).Start)

pub func_sort-bounds-items-2 : goal.func_sort-bounds-items-2
func_sort-bounds-items-2 t c = omega (arith, long t (goal.at.func_sort-bounds-items-2 t c).Start)

pub func_sort-bounds-items-3 : goal.func_sort-bounds-items-3
func_sort-bounds-items-3 t c = omega (arith, long t (goal.at.func_sort-bounds-items-3 t c).Start)

pub func_sort-bounds-items-4 : goal.func_sort-bounds-items-4
func_sort-bounds-items-4 t c = omega (arith, long t (goal.at.func_sort-bounds-items-4 t c).Start)

pub func_sort-put_abs-requires : goal.func_sort-put_abs-requires
func_sort-put_abs-requires t c = number-most t (goal.at.func_sort-put_abs-requires t c).In_ok-n

pub func_sort-overflow_mul-n : goal.func_sort-overflow_mul-n
func_sort-overflow_mul-n t c = omega (arith, number-most t (goal.at.func_sort-overflow_mul-n t c).In_ok-n)

pub func_sort-slice_bounds-each_sort-count : goal.func_sort-slice_bounds-each_sort-count
func_sort-slice_bounds-each_sort-count t c = omega (arith, (parts t (goal.at.func_sort-slice_bounds-each_sort-count t c).After-func_number).size)

pub func_sort-slice_bounds-each_sort-start : goal.func_sort-slice_bounds-each_sort-start
func_sort-slice_bounds-each_sort-start t c = omega (arith, (parts t (goal.at.func_sort-slice_bounds-each_sort-start t c).After-func_number).size)

pub func_sort-bounds-items-6 : goal.func_sort-bounds-items-6
func_sort-bounds-items-6 t c = omega (arith, (parts t (goal.at.func_sort-bounds-items-6 t c).After-func_number).size)

pub func_sort-each_sort-requires : goal.func_sort-each_sort-requires
func_sort-each_sort-requires t c =
    let d = parts t (goal.at.func_sort-each_sort-requires t c).After-func_number in
    (omega (arith, c.decreases, d.size, ap length d.part), record { items = snoc_tree d.inputs d.output; words = d.part; small = omega (arith, c.requires.small, d.size, ap length d.part) })

pub func_sort-overflow_mul-result : goal.func_sort-overflow_mul-result
func_sort-overflow_mul-result t c = omega (arith, number-most t (goal.at.func_sort-overflow_mul-result t c).In_ok-n)

pub func_sort-overflow_add-result : goal.func_sort-overflow_add-result
func_sort-overflow_add-result t c =
    let d = parts t (goal.at.func_sort-overflow_add-result t c).After-func_number in
    let row = snoc_tree d.inputs d.output in
    omega (arith, number-most t (goal.at.func_sort-overflow_add-result t c).In_ok-n, c.requires.small, d.size, row-bound c.args.text.now (get_or c.args.items.now 6 0) row (c.each_sort.ensures row d.part) c.in_ok-v.was)

pub func_sort-returns-in_err-n : goal.func_sort-returns-in_err-n
func_sort-returns-in_err-n t c ts e h =
    let p = err_from_is_err_and c.from_residual.result c.from_residual.ensures.1 in
    rw (p.1, p.2) (func-outside _ ts (parts_of t (goal.at.func_sort-returns-in_err-n t c).After-func_number ts e h) c.in_err-n.ensures)

pub func_sort-returns-in_err-v : goal.func_sort-returns-in_err-v
func_sort-returns-in_err-v t c ts e h =
    let d = parts_of t (goal.at.func_sort-returns-in_err-v t c).After-func_number ts e h in
    let p = err_from_is_err_and c.from_residual-in_err-v.result c.from_residual-in_err-v.ensures.1 in
    rw (p.1, p.2) (func-row _ ts d (number_is t (goal.at.func_sort-returns-in_err-v t c).In_ok-n) (out-still _ (c.each_sort.ensures (snoc_tree d.inputs d.output) d.part) c.in_err-v.was))

pub func_sort-returns : goal.func_sort-returns
func_sort-returns t c ts e h =
    let d = parts_of t (goal.at.func_sort-returns t c).After-func_number ts e h in
    func-row _ ts d (number_is t (goal.at.func_sort-returns t c).In_ok-n) (out-lent _ _ _ _ _ _ _ (sym (abs_length 0 c.in_ok-n.n)) c.put_abs.ensures c.min-from.ensures (c.each_sort.ensures (snoc_tree d.inputs d.output) d.part) c.in_ok-v.was)

-- What the code of `list_sort` needs: the form that the list's head names, and the row of sorts behind it.

-- The head and what stands behind it, whichever trees the words are of.
func-headed : (t : ℕ) (f : list_sort-In-Func t) (ts : Trees) → f.args.tree.now ≡ tree_words (list ts) → Headed f.args.text.now f.args.tree.now ts func
func-headed t f ts e = headed _ func ts e (rw f.in-Func.is at (f.in_ok-list_form.ensures ts e))

row-headed : (t : ℕ) (w : list_sort-In-Row t) (ts : Trees) → w.args.tree.now ≡ tree_words (list ts) → Headed w.args.text.now w.args.tree.now ts (row_form w.in-Row.row)
row-headed t w ts e = headed _ (row_form w.in-Row.row) ts e (rw w.in-Row.is at (w.in_ok-list_form.ensures ts e))

-- The same for the trees that the words are said to be of.
this-func : (t : ℕ) (f : list_sort-In-Func t) → Headed f.args.text.now f.args.tree.now f.requires.items func
this-func t f =
    let a = f.requires in
    func-headed t f a.items a.words

this-row : (t : ℕ) (w : list_sort-In-Row t) → Headed w.args.text.now w.args.tree.now w.requires.items (row_form w.in-Row.row)
this-row t w =
    let a = w.requires in
    row-headed t w a.items a.words

pub list_sort-list_form-requires : goal.list_sort-list_form-requires
list_sort-list_form-requires t c = c.requires

pub list_sort-slice_bounds-func_sort-count : goal.list_sort-slice_bounds-func_sort-count
list_sort-slice_bounds-func_sort-count t c = omega (arith, (this-func t c).size)

pub list_sort-slice_bounds-func_sort-start : goal.list_sort-slice_bounds-func_sort-start
list_sort-slice_bounds-func_sort-start t c = omega (arith, (this-func t c).size)

pub list_sort-func_sort-requires : goal.list_sort-func_sort-requires
list_sort-func_sort-requires t c =
    let d = this-func t (goal.at.list_sort-func_sort-requires t c).In-Func in
    (omega (arith, c.decreases, d.size, ap length d.part), record { items = d.others; words = d.part; three = d.fits; small = omega (arith, c.requires.small, d.size, ap length d.part) })

pub list_sort-slice_bounds-items-count : goal.list_sort-slice_bounds-items-count
list_sort-slice_bounds-items-count t c = omega (arith, (this-row t c).size)

pub list_sort-slice_bounds-items-start : goal.list_sort-slice_bounds-items-start
list_sort-slice_bounds-items-start t c = omega (arith, (this-row t c).size)

pub list_sort-bounds-tree-1 : goal.list_sort-bounds-tree-1
list_sort-bounds-tree-1 t c = omega (arith, (this-row t (goal.at.list_sort-bounds-tree-1 t c).In-Row).size)

pub list_sort-overflow_sub-tree : goal.list_sort-overflow_sub-tree
list_sort-overflow_sub-tree t c = omega (arith, (this-row t (goal.at.list_sort-overflow_sub-tree t c).In-Row).many)

pub list_sort-each_sort-requires : goal.list_sort-each_sort-requires
list_sort-each_sort-requires t c =
    let d = this-row t (goal.at.list_sort-each_sort-requires t c).In-Row in
    (omega (arith, c.decreases, d.size, ap length d.part), record { items = d.others; words = d.part; small = omega (arith, c.requires.small, d.size, ap length d.part) })

pub list_sort-overflow_add-w : goal.list_sort-overflow_add-w
list_sort-overflow_add-w t c =
    let d = this-row t (goal.at.list_sort-overflow_add-w t c).In-Row in
    omega (arith, c.requires.small, d.size, c.put_row-w.ensures.0, head-short c.in-Row.row (get_or c.args.tree.now 1 0 - 1), row-bound c.args.text.now _ d.others (c.each_sort.ensures d.others d.part) c.in_ok-v-in-Row.was)

pub list_sort-returns-in_err-list_form : goal.list_sort-returns-in_err-list_form
list_sort-returns-in_err-list_form t c ts e =
    let p = err_from_is_err_and c.from_residual.result c.from_residual.ensures.1 in
    rw (p.1, p.2) (bad-list c.args.text.now ts (c.in_err-list_form.ensures ts e))

pub list_sort-returns-in-Func : goal.list_sort-returns-in-Func
unfolding form_sort
list_sort-returns-in-Func t c ts e =
    let d = func-headed t (goal.at.list_sort-returns-in-Func t c).In-Func ts e in
    rw d.parsed (c.func_sort.ensures d.others d.part d.fits)

pub list_sort-returns-in_err-v-in-Row : goal.list_sort-returns-in_err-v-in-Row
list_sort-returns-in_err-v-in-Row t c ts e =
    let d = row-headed t (goal.at.list_sort-returns-in_err-v-in-Row t c).In-Row ts e in
    let p = err_from_is_err_and c.from_residual-in_err-v-in-Row.result c.from_residual-in_err-v-in-Row.ensures.1 in
    rw (p.1, p.2, d.parsed) (row-refused _ c.in-Row.row d.others d.fits (out-still _ (c.each_sort.ensures d.others d.part) c.in_err-v-in-Row.was))

pub list_sort-returns-in_ok-v-in-Row : goal.list_sort-returns-in_ok-v-in-Row
list_sort-returns-in_ok-v-in-Row t c ts e =
    let d = row-headed t (goal.at.list_sort-returns-in_ok-v-in-Row t c).In-Row ts e in
    let n : get_or c.args.tree.now 1 0 - 1 ≡ trees d.others = omega (arith, d.many) in
    let head = row_head (row_form c.in-Row.row) (trees d.others) in
    rw (d.parsed, c.row_end.ensures d.others d.part) (row_done _ c.in-Row.row d.others d.fits (out-lent _ head _ _ _ _ _ (rw n at c.put_row-w.ensures.0) (rw n at c.put_row-w.ensures.1) c.min-from.ensures (c.each_sort.ensures d.others d.part) c.in_ok-v-in-Row.was))

-- What the code of `sort` needs: the tree is a symbol, a list, or neither.

pub sort-bounds-tree-0 : goal.sort-bounds-tree-0
sort-bounds-tree-0 t c =
    let a = c.requires in
    omega (arith, head-two [] a.tree (alone a.tree a.words))

pub sort-bounds-tree-1 : goal.sort-bounds-tree-1
sort-bounds-tree-1 t c =
    let a = c.requires in
    omega (arith, (size-symbol [] a.tree (alone a.tree a.words) c.in-16.is).0)

pub sort-bounds-tree-2 : goal.sort-bounds-tree-2
sort-bounds-tree-2 t c =
    let a = c.requires in
    omega (arith, (size-symbol [] a.tree (alone a.tree a.words) c.in-16.is).0)

pub sort-returns-in-16 : goal.sort-returns-in-16
unfolding parse_sort view atom_sort symbol_in
sort-returns-in-16 t c u e = rw (is-symbol [] u (alone u e) c.in-16.is) c.symbol_sort.ensures

pub sort-list_sort-requires : goal.sort-list_sort-requires
sort-list_sort-requires t c =
    let a = c.requires in
    let l = is-list [] a.tree (alone a.tree a.words) c.in-21.is in
    (omega (arith, c.decreases), record { items = l.items; words = a.words ∙ ap tree_words l.is; small = a.small })

pub sort-returns-in-21 : goal.sort-returns-in-21
sort-returns-in-21 t c u e =
    let l = is-list [] u (alone u e) c.in-21.is in
    rw l.is (c.list_sort.ensures l.items (e ∙ ap tree_words l.is))

pub sort-returns-in_default : goal.sort-returns-in_default
sort-returns-in_default t c u e = rw (no-sort c.args.text.now u e (λ k. omega arith) (λ k. omega arith)) (refused refl)
