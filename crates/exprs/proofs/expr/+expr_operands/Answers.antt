use Rattle.scopes.proofs.Frame.{kept_same, kept_then}
use Rattle.reading.proofs.TreeHead.{tree-two}
use Rattle.places.proofs.Spots.{spot-within}
use Rattle.exprs.proofs.Steps.{as_leaf, as_run, run_row, run-refused, last_end, last-spot, last-here, last_done, run_twice, run-done, late_room, late_kept, inside-kept, progress_start, progress_end, progress_short, next-spot, next_here, progress_refused, progress_more}
use Rattle.std.proofs.Common.{◌<◌, sym, refl, ap, ◌∙◌, arith}
use Rattle.std.specs.Prelude.{Ok}
use Rattle.std.proofs.lemmas.Result.{err_from_is_err_and}
use Rattle.exprs.proofs.expr.+expr_operands.Goals as goal

pub expr-planned-requires : goal.expr-planned-requires
expr-planned-requires t c = c.requires

pub expr-opened-inner-requires : goal.expr-opened-inner-requires
expr-opened-inner-requires t c =
    let x = (as_run c.args.text.now c.args.count c.args.tree.now c.args.at c.args.scopes.now c.args.depth c.args.w c.args.next c.requires c.args.out.now c.planned.new.out (c.in_ok-u.was ∙ ap Ok c.in-Go.is) (c.planned.ensures c.requires)) in
    omega (arith, x.shallow, c.requires.long)

pub expr-overflow_add-next : goal.expr-overflow_add-next
expr-overflow_add-next t c =
    let x = (as_run c.args.text.now c.args.count c.args.tree.now c.args.at c.args.scopes.now c.args.depth c.args.w c.args.next c.requires c.args.out.now c.planned.new.out (c.in_ok-u.was ∙ ap Ok c.in-Go.is) (c.planned.ensures c.requires)) in
    omega (arith, x.room, c.requires.room)

pub expr-operands-requires : goal.expr-operands-requires
expr-operands-requires t c =
    let x = (as_run c.args.text.now c.args.count c.args.tree.now c.args.at c.args.scopes.now c.args.depth c.args.w c.args.next c.requires c.args.out.now c.planned.new.out (c.in_ok-u.was ∙ ap Ok c.in-Go.is) (c.planned.ensures c.requires)) in
    (omega (arith, c.decreases, x.beyond, spot-within c.requires.spot, tree-two c.requires.spot.tree), run_row c.args.text.now c.args.count c.args.tree.now c.args.at c.args.scopes.now c.args.depth c.args.w c.args.next c.requires c.args.out.now c.planned.new.out _ x c.opened-inner.new.scopes c.opened-inner.result c.opened-inner.ensures.0 c.opened-inner.ensures.1)

pub expr-reach-q-requires : goal.expr-reach-q-requires
expr-reach-q-requires t c =
    let x = (as_run c.args.text.now c.args.count c.args.tree.now c.args.at c.args.scopes.now c.args.depth c.args.w c.args.next c.requires c.args.out.now c.planned.new.out (c.in_ok-u.was ∙ ap Ok c.in-Go.is) (c.planned.ensures c.requires)) in
    let row = run_row c.args.text.now c.args.count c.args.tree.now c.args.at c.args.scopes.now c.args.depth c.args.w c.args.next c.requires c.args.out.now c.planned.new.out _ x c.opened-inner.new.scopes c.opened-inner.result c.opened-inner.ensures.0 c.opened-inner.ensures.1 in
    let y = c.operands.ensures.1 row in
    last-spot c.args.text.now c.args.count c.args.tree.now c.args.at c.args.scopes.now c.args.depth c.args.w c.args.next c.requires c.args.out.now c.planned.new.out _ x c.opened-inner.new.scopes c.opened-inner.result c.opened-inner.ensures.0 c.opened-inner.ensures.1 y c.in_ok-read.was x.room (last_end c.args.text.now c.args.count c.args.tree.now c.args.at c.args.scopes.now c.args.depth c.args.w c.args.next c.requires c.args.out.now c.planned.new.out _ x c.opened-inner.new.scopes c.opened-inner.result c.opened-inner.ensures.0 c.opened-inner.ensures.1 y c.in_ok-read.was x.room c.if-run-ne0.true)

pub expr-overflow_add-w : goal.expr-overflow_add-w
expr-overflow_add-w t c = omega (arith, c.requires.room)

pub expr-late-deep-requires : goal.expr-late-deep-requires
expr-late-deep-requires t c =
    let x = (as_run c.args.text.now c.args.count c.args.tree.now c.args.at c.args.scopes.now c.args.depth c.args.w c.args.next c.requires c.args.out.now c.planned.new.out (c.in_ok-u.was ∙ ap Ok c.in-Go.is) (c.planned.ensures c.requires)) in
    let row = run_row c.args.text.now c.args.count c.args.tree.now c.args.at c.args.scopes.now c.args.depth c.args.w c.args.next c.requires c.args.out.now c.planned.new.out _ x c.opened-inner.new.scopes c.opened-inner.result c.opened-inner.ensures.0 c.opened-inner.ensures.1 in
    let y = c.operands.ensures.1 row in
    let e = last_end c.args.text.now c.args.count c.args.tree.now c.args.at c.args.scopes.now c.args.depth c.args.w c.args.next c.requires c.args.out.now c.planned.new.out _ x c.opened-inner.new.scopes c.opened-inner.result c.opened-inner.ensures.0 c.opened-inner.ensures.1 y c.in_ok-read.was x.room c.if-run-ne0.true in
    late_room c.args.text.now c.args.count c.args.tree.now c.args.at c.args.scopes.now c.args.depth c.args.w c.args.next c.requires c.args.out.now c.planned.new.out _ x c.opened-inner.new.scopes c.opened-inner.result c.opened-inner.ensures.0 c.opened-inner.ensures.1 y c.in_ok-read.was x.room e _ c.operands.auto.scopes

pub expr-expr-requires : goal.expr-expr-requires
expr-expr-requires t c =
    let x = (as_run c.args.text.now c.args.count c.args.tree.now c.args.at c.args.scopes.now c.args.depth c.args.w c.args.next c.requires c.args.out.now c.planned.new.out (c.in_ok-u.was ∙ ap Ok c.in-Go.is) (c.planned.ensures c.requires)) in
    let row = run_row c.args.text.now c.args.count c.args.tree.now c.args.at c.args.scopes.now c.args.depth c.args.w c.args.next c.requires c.args.out.now c.planned.new.out _ x c.opened-inner.new.scopes c.opened-inner.result c.opened-inner.ensures.0 c.opened-inner.ensures.1 in
    let y = c.operands.ensures.1 row in
    let e = last_end c.args.text.now c.args.count c.args.tree.now c.args.at c.args.scopes.now c.args.depth c.args.w c.args.next c.requires c.args.out.now c.planned.new.out _ x c.opened-inner.new.scopes c.opened-inner.result c.opened-inner.ensures.0 c.opened-inner.ensures.1 y c.in_ok-read.was x.room c.if-run-ne0.true in
    let k = c.reach-q.ensures (last-spot c.args.text.now c.args.count c.args.tree.now c.args.at c.args.scopes.now c.args.depth c.args.w c.args.next c.requires c.args.out.now c.planned.new.out _ x c.opened-inner.new.scopes c.opened-inner.result c.opened-inner.ensures.0 c.opened-inner.ensures.1 y c.in_ok-read.was x.room e) in
    (omega (arith, c.decreases, e.place.beyond, k.forward, spot-within k.spot, tree-two k.spot.tree), last-here c.args.text.now c.args.count c.args.tree.now c.args.at c.args.scopes.now c.args.depth c.args.w c.args.next c.requires c.args.out.now c.planned.new.out _ x c.opened-inner.new.scopes c.opened-inner.result c.opened-inner.ensures.0 c.opened-inner.ensures.1 y c.in_ok-read.was x.room e k c.operands.ensures.0 c.operands.auto.scopes c.late-deep.ensures.0 c.late-deep.ensures.2 c.late-deep.ensures.3)

pub expr-shape_of-scopes-then-run-ne0 : goal.expr-shape_of-scopes-then-run-ne0
expr-shape_of-scopes-then-run-ne0 t c = omega (arith, c.expr.auto.scopes, c.late-deep.auto.scopes, c.operands.auto.scopes, c.opened-inner.auto.scopes)

pub expr-shape_of-out-then-run-ne0 : goal.expr-shape_of-out-then-run-ne0
expr-shape_of-out-then-run-ne0 t c = omega (arith, c.expr.auto.out, c.late-deep.auto.out, c.operands.auto.out, c.planned.auto.out)

pub expr-returns-then-run-ne0 : goal.expr-returns-then-run-ne0
expr-returns-then-run-ne0 t c = (
  let x = (as_run c.args.text.now c.args.count c.args.tree.now c.args.at c.args.scopes.now c.args.depth c.args.w c.args.next c.requires c.args.out.now c.planned.new.out (c.in_ok-u.was ∙ ap Ok c.in-Go.is) (c.planned.ensures c.requires)) in
      inside-kept c.args.text.now c.args.count c.args.tree.now c.args.at c.args.scopes.now c.args.depth c.args.w c.args.next c.requires c.args.out.now c.planned.new.out _ x c.opened-inner.new.scopes c.opened-inner.result c.opened-inner.ensures.0 c.opened-inner.ensures.1 (kept_then c.operands.ensures.0 (late_kept _ _ c.late-deep.ensures.0 c.late-deep.ensures.2 c.expr.ensures.0)),
  λ h.
      (let x = (as_run c.args.text.now c.args.count c.args.tree.now c.args.at c.args.scopes.now c.args.depth c.args.w c.args.next h c.args.out.now c.planned.new.out (c.in_ok-u.was ∙ ap Ok c.in-Go.is) (c.planned.ensures h)) in
      let row = run_row c.args.text.now c.args.count c.args.tree.now c.args.at c.args.scopes.now c.args.depth c.args.w c.args.next h c.args.out.now c.planned.new.out _ x c.opened-inner.new.scopes c.opened-inner.result c.opened-inner.ensures.0 c.opened-inner.ensures.1 in
      let y = c.operands.ensures.1 row in
      let e = last_end c.args.text.now c.args.count c.args.tree.now c.args.at c.args.scopes.now c.args.depth c.args.w c.args.next h c.args.out.now c.planned.new.out _ x c.opened-inner.new.scopes c.opened-inner.result c.opened-inner.ensures.0 c.opened-inner.ensures.1 y c.in_ok-read.was x.room c.if-run-ne0.true in
      let k = c.reach-q.ensures (last-spot c.args.text.now c.args.count c.args.tree.now c.args.at c.args.scopes.now c.args.depth c.args.w c.args.next h c.args.out.now c.planned.new.out _ x c.opened-inner.new.scopes c.opened-inner.result c.opened-inner.ensures.0 c.opened-inner.ensures.1 y c.in_ok-read.was x.room e) in
      last_done c.args.text.now c.args.count c.args.tree.now c.args.at c.args.scopes.now c.args.depth c.args.w c.args.next h c.args.out.now c.planned.new.out _ x c.opened-inner.new.scopes c.opened-inner.result c.opened-inner.ensures.0 c.opened-inner.ensures.1 y c.in_ok-read.was x.room e k c.late-deep.ensures.1 c.late-deep.ensures.3 (c.expr.ensures.1 (last-here c.args.text.now c.args.count c.args.tree.now c.args.at c.args.scopes.now c.args.depth c.args.w c.args.next h c.args.out.now c.planned.new.out _ x c.opened-inner.new.scopes c.opened-inner.result c.opened-inner.ensures.0 c.opened-inner.ensures.1 y c.in_ok-read.was x.room e k c.operands.ensures.0 c.operands.auto.scopes c.late-deep.ensures.0 c.late-deep.ensures.2 c.late-deep.ensures.3))),
)

pub expr-twice-requires : goal.expr-twice-requires
expr-twice-requires t c =
    let x = (as_run c.args.text.now c.args.count c.args.tree.now c.args.at c.args.scopes.now c.args.depth c.args.w c.args.next c.requires c.args.out.now c.planned.new.out (c.in_ok-u.was ∙ ap Ok c.in-Go.is) (c.planned.ensures c.requires)) in
    x.bind

pub expr-shape_of-out-then-twice : goal.expr-shape_of-out-then-twice
expr-shape_of-out-then-twice t c = omega (arith, c.operands.auto.out, c.planned.auto.out)

pub expr-returns-then-twice : goal.expr-returns-then-twice
expr-returns-then-twice t c = (
  let x = (as_run c.args.text.now c.args.count c.args.tree.now c.args.at c.args.scopes.now c.args.depth c.args.w c.args.next c.requires c.args.out.now c.planned.new.out (c.in_ok-u.was ∙ ap Ok c.in-Go.is) (c.planned.ensures c.requires)) in
      inside-kept c.args.text.now c.args.count c.args.tree.now c.args.at c.args.scopes.now c.args.depth c.args.w c.args.next c.requires c.args.out.now c.planned.new.out _ x c.opened-inner.new.scopes c.opened-inner.result c.opened-inner.ensures.0 c.opened-inner.ensures.1 c.operands.ensures.0,
  λ h.
      (let x = (as_run c.args.text.now c.args.count c.args.tree.now c.args.at c.args.scopes.now c.args.depth c.args.w c.args.next h c.args.out.now c.planned.new.out (c.in_ok-u.was ∙ ap Ok c.in-Go.is) (c.planned.ensures h)) in
      let row = run_row c.args.text.now c.args.count c.args.tree.now c.args.at c.args.scopes.now c.args.depth c.args.w c.args.next h c.args.out.now c.planned.new.out _ x c.opened-inner.new.scopes c.opened-inner.result c.opened-inner.ensures.0 c.opened-inner.ensures.1 in
      let y = c.operands.ensures.1 row in
      run_twice c.args.text.now c.args.count c.args.tree.now c.args.at c.args.scopes.now c.args.depth c.args.w c.args.next h c.args.out.now c.planned.new.out _ x c.opened-inner.new.scopes c.opened-inner.result c.opened-inner.ensures.0 c.opened-inner.ensures.1 y c.in_ok-read.was x.room c.if-run-ne0.false (sym (c.twice.ensures x.bind) ∙ c.if-twice.true)),
)

pub expr-returns-in-Leaf : goal.expr-returns-in-Leaf
expr-returns-in-Leaf t c = (
  kept_same c.args.scopes.now c.args.depth,
  λ h.
      (as_leaf c.args.text.now c.args.count c.args.tree.now c.args.at c.args.scopes.now c.args.depth c.args.w c.args.next h c.args.out.now c.planned.new.out (c.in_ok-u.was ∙ ap Ok c.in-Leaf.is) (c.planned.ensures h)),
)

pub expr-returns-in_err-read : goal.expr-returns-in_err-read
expr-returns-in_err-read t c = (
  let x = (as_run c.args.text.now c.args.count c.args.tree.now c.args.at c.args.scopes.now c.args.depth c.args.w c.args.next c.requires c.args.out.now c.planned.new.out (c.in_ok-u.was ∙ ap Ok c.in-Go.is) (c.planned.ensures c.requires)) in
      inside-kept c.args.text.now c.args.count c.args.tree.now c.args.at c.args.scopes.now c.args.depth c.args.w c.args.next c.requires c.args.out.now c.planned.new.out _ x c.opened-inner.new.scopes c.opened-inner.result c.opened-inner.ensures.0 c.opened-inner.ensures.1 c.operands.ensures.0,
  λ h.
      (let x = (as_run c.args.text.now c.args.count c.args.tree.now c.args.at c.args.scopes.now c.args.depth c.args.w c.args.next h c.args.out.now c.planned.new.out (c.in_ok-u.was ∙ ap Ok c.in-Go.is) (c.planned.ensures h)) in
      let row = run_row c.args.text.now c.args.count c.args.tree.now c.args.at c.args.scopes.now c.args.depth c.args.w c.args.next h c.args.out.now c.planned.new.out _ x c.opened-inner.new.scopes c.opened-inner.result c.opened-inner.ensures.0 c.opened-inner.ensures.1 in
      let y = c.operands.ensures.1 row in
      let p = err_from_is_err_and c.from_residual-in_err-read.result c.from_residual-in_err-read.ensures.1 in
      rw (p.1, p.2) (run-refused c.args.text.now c.args.count c.args.tree.now c.args.at c.args.scopes.now c.args.depth c.args.w c.args.next h c.args.out.now c.planned.new.out _ x c.opened-inner.new.scopes c.opened-inner.result c.opened-inner.ensures.0 c.opened-inner.ensures.1 y _ c.in_err-read.was)),
)

pub expr-returns : goal.expr-returns
expr-returns t c = (
  let x = (as_run c.args.text.now c.args.count c.args.tree.now c.args.at c.args.scopes.now c.args.depth c.args.w c.args.next c.requires c.args.out.now c.planned.new.out (c.in_ok-u.was ∙ ap Ok c.in-Go.is) (c.planned.ensures c.requires)) in
      inside-kept c.args.text.now c.args.count c.args.tree.now c.args.at c.args.scopes.now c.args.depth c.args.w c.args.next c.requires c.args.out.now c.planned.new.out _ x c.opened-inner.new.scopes c.opened-inner.result c.opened-inner.ensures.0 c.opened-inner.ensures.1 c.operands.ensures.0,
  λ h.
      (let x = (as_run c.args.text.now c.args.count c.args.tree.now c.args.at c.args.scopes.now c.args.depth c.args.w c.args.next h c.args.out.now c.planned.new.out (c.in_ok-u.was ∙ ap Ok c.in-Go.is) (c.planned.ensures h)) in
      let row = run_row c.args.text.now c.args.count c.args.tree.now c.args.at c.args.scopes.now c.args.depth c.args.w c.args.next h c.args.out.now c.planned.new.out _ x c.opened-inner.new.scopes c.opened-inner.result c.opened-inner.ensures.0 c.opened-inner.ensures.1 in
      let y = c.operands.ensures.1 row in
      run-done c.args.text.now c.args.count c.args.tree.now c.args.at c.args.scopes.now c.args.depth c.args.w c.args.next h c.args.out.now c.planned.new.out _ x c.opened-inner.new.scopes c.opened-inner.result c.opened-inner.ensures.0 c.opened-inner.ensures.1 y c.in_ok-read.was x.room c.if-run-ne0.false (sym (c.twice.ensures x.bind) ∙ c.if-twice.false)),
)

pub operands-loop-i-init : goal.operands-loop-i-init
operands-loop-i-init t c = (refl, refl, kept_same c.args.scopes.now c.args.depth, λ h. progress_start c.args.text.now c.args.count c.args.tree.now c.args.at c.args.have c.args.want c.args.scopes.now c.args.depth c.args.w c.args.next h c.args.out.now)

pub operands-returns-then-have-i : goal.operands-returns-then-have-i
operands-returns-then-have-i t c = (
  c.loop-i.invariant.2,
  λ h.
      (progress_short c.args.text.now c.args.count c.args.tree.now c.args.at c.args.have c.args.want c.args.scopes.now c.args.depth c.args.w c.args.next h c.args.out.now c.loop-i.out c.loop-i.i c.loop-i.p c.loop-i.read.next c.loop-i.read.words (c.loop-i.invariant.3 h) c.loop-i-test.true c.if-have-i.true),
)

pub operands-through-q-requires : goal.operands-through-q-requires
operands-through-q-requires t c =
    let e : c.loop-i.i < c.args.have = omega arith in
    next-spot c.args.text.now c.args.count c.args.tree.now c.args.at c.args.have c.args.want c.args.scopes.now c.args.depth c.args.w c.args.next c.requires c.args.out.now c.loop-i.out c.loop-i.i c.loop-i.p c.loop-i.read.next c.loop-i.read.words (c.loop-i.invariant.3 c.requires) c.loop-i-test.true e

pub operands-expr-requires : goal.operands-expr-requires
operands-expr-requires t c =
    let e : c.loop-i.i < c.args.have = omega arith in
    let k = c.through-q.ensures (next-spot c.args.text.now c.args.count c.args.tree.now c.args.at c.args.have c.args.want c.args.scopes.now c.args.depth c.args.w c.args.next c.requires c.args.out.now c.loop-i.out c.loop-i.i c.loop-i.p c.loop-i.read.next c.loop-i.read.words (c.loop-i.invariant.3 c.requires) c.loop-i-test.true e) in
    (omega (arith, c.decreases, (c.loop-i.invariant.3 c.requires).forward, k.forward, spot-within k.spot, tree-two k.spot.tree), next_here c.args.text.now c.args.count c.args.tree.now c.args.at c.args.have c.args.want c.args.scopes.now c.args.depth c.args.w c.args.next c.requires c.args.out.now c.loop-i.out c.loop-i.i c.loop-i.p c.loop-i.read.next c.loop-i.read.words (c.loop-i.invariant.3 c.requires) c.loop-i-test.true e k c.loop-i.invariant.2 c.loop-i.invariant.1)

pub operands-returns-in_err-read : goal.operands-returns-in_err-read
operands-returns-in_err-read t c = (
  kept_then c.loop-i.invariant.2 c.expr.ensures.0,
  λ h.
      (let e : c.loop-i.i < c.args.have = omega arith in
      let k = c.through-q.ensures (next-spot c.args.text.now c.args.count c.args.tree.now c.args.at c.args.have c.args.want c.args.scopes.now c.args.depth c.args.w c.args.next h c.args.out.now c.loop-i.out c.loop-i.i c.loop-i.p c.loop-i.read.next c.loop-i.read.words (c.loop-i.invariant.3 h) c.loop-i-test.true e) in
      let p = err_from_is_err_and c.from_residual.result c.from_residual.ensures.1 in
      rw (p.1, p.2) (progress_refused c.args.text.now c.args.count c.args.tree.now c.args.at c.args.have c.args.want c.args.scopes.now c.args.depth c.args.w c.args.next h c.args.out.now c.loop-i.out c.loop-i.i c.loop-i.p c.loop-i.read.next c.loop-i.read.words (c.loop-i.invariant.3 h) c.loop-i-test.true e k _ (c.expr.ensures.1 (next_here c.args.text.now c.args.count c.args.tree.now c.args.at c.args.have c.args.want c.args.scopes.now c.args.depth c.args.w c.args.next h c.args.out.now c.loop-i.out c.loop-i.i c.loop-i.p c.loop-i.read.next c.loop-i.read.words (c.loop-i.invariant.3 h) c.loop-i-test.true e k c.loop-i.invariant.2 c.loop-i.invariant.1)) c.in_err-read.was)),
)

pub operands-words_at-p-requires : goal.operands-words_at-p-requires
operands-words_at-p-requires t c =
    let e : c.loop-i.i < c.args.have = omega arith in
    next-spot c.args.text.now c.args.count c.args.tree.now c.args.at c.args.have c.args.want c.args.scopes.now c.args.depth c.args.w c.args.next c.requires c.args.out.now c.loop-i.out c.loop-i.i c.loop-i.p c.loop-i.read.next c.loop-i.read.words (c.loop-i.invariant.3 c.requires) c.loop-i-test.true e

pub operands-overflow_add-p : goal.operands-overflow_add-p
operands-overflow_add-p t c =
    let e : c.loop-i.i < c.args.have = omega arith in
    let j = c.words_at-p.ensures (next-spot c.args.text.now c.args.count c.args.tree.now c.args.at c.args.have c.args.want c.args.scopes.now c.args.depth c.args.w c.args.next c.requires c.args.out.now c.loop-i.out c.loop-i.i c.loop-i.p c.loop-i.read.next c.loop-i.read.words (c.loop-i.invariant.3 c.requires) c.loop-i-test.true e) in
    omega (arith, j, spot-within (next-spot c.args.text.now c.args.count c.args.tree.now c.args.at c.args.have c.args.want c.args.scopes.now c.args.depth c.args.w c.args.next c.requires c.args.out.now c.loop-i.out c.loop-i.i c.loop-i.p c.loop-i.read.next c.loop-i.read.words (c.loop-i.invariant.3 c.requires) c.loop-i-test.true e))

pub operands-loop-i-preserved : goal.operands-loop-i-preserved
operands-loop-i-preserved t c =
    let e : c.loop-i.i < c.args.have = omega arith in (
      omega (arith, c.expr.auto.out, c.loop-i.invariant.0),
      omega (arith, c.expr.auto.scopes, c.loop-i.invariant.1),
      kept_then c.loop-i.invariant.2 c.expr.ensures.0,
      λ h.
          (let k = c.through-q.ensures (next-spot c.args.text.now c.args.count c.args.tree.now c.args.at c.args.have c.args.want c.args.scopes.now c.args.depth c.args.w c.args.next h c.args.out.now c.loop-i.out c.loop-i.i c.loop-i.p c.loop-i.read.next c.loop-i.read.words (c.loop-i.invariant.3 h) c.loop-i-test.true e) in
          progress_more c.args.text.now c.args.count c.args.tree.now c.args.at c.args.have c.args.want c.args.scopes.now c.args.depth c.args.w c.args.next h c.args.out.now c.loop-i.out c.loop-i.i c.loop-i.p c.loop-i.read.next c.loop-i.read.words (c.loop-i.invariant.3 h) c.loop-i-test.true e k (c.expr.ensures.1 (next_here c.args.text.now c.args.count c.args.tree.now c.args.at c.args.have c.args.want c.args.scopes.now c.args.depth c.args.w c.args.next h c.args.out.now c.loop-i.out c.loop-i.i c.loop-i.p c.loop-i.read.next c.loop-i.read.words (c.loop-i.invariant.3 h) c.loop-i-test.true e k c.loop-i.invariant.2 c.loop-i.invariant.1)) c.in_ok-read.was _ (c.words_at-p.ensures (next-spot c.args.text.now c.args.count c.args.tree.now c.args.at c.args.have c.args.want c.args.scopes.now c.args.depth c.args.w c.args.next h c.args.out.now c.loop-i.out c.loop-i.i c.loop-i.p c.loop-i.read.next c.loop-i.read.words (c.loop-i.invariant.3 h) c.loop-i-test.true e))),
    )

pub operands-returns : goal.operands-returns
operands-returns t c = (
  c.loop-i.invariant.2,
  λ h.
      (progress_end c.args.text.now c.args.count c.args.tree.now c.args.at c.args.have c.args.want c.args.scopes.now c.args.depth c.args.w c.args.next h c.args.out.now c.loop-i.out c.loop-i.i c.loop-i.p c.loop-i.read.next c.loop-i.read.words (c.loop-i.invariant.3 h) (omega arith)),
)
