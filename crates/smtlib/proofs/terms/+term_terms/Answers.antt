use native.Mathlib.Omega.{arith}
use mathlib.Core.Path.{refl, sym, ap, ◌∙◌}
use Rattle.std.proofs.lemmas.Result.{err_from_is_err_and}
use Rattle.words.specs.Answered.{told}
use Rattle.smtlib.proofs.TermSteps.{terms-all, terms-done, terms-gone, terms-next, left_as, first_left, term-no-room, term-no-header, front-gone, operands-gone, operands-done, applied-none, arguments-gone, callee-gone, applied-done}
use Rattle.smtlib.proofs.terms.+term_terms.Goals as goal

pub term-returns-then-room-eq0 : goal.term-returns-then-room-eq0
term-returns-then-room-eq0 t c = term-no-room _ _ _ _ _ _ c.if-room-eq0.true

pub term-returns-in_err-a : goal.term-returns-in_err-a
term-returns-in_err-a t c e n q =
    let p = err_from_is_err_and c.from_residual.result c.from_residual.ensures.1 in
    rw (p.1, p.2) (term-no-header _ _ _ _ _ _ c.if-room-eq0.false c.in_err-a.ensures e n q)

pub term-returns-in_err-p-in-Operands : goal.term-returns-in_err-p-in-Operands
term-returns-in_err-p-in-Operands t c e n q =
    let p = err_from_is_err_and c.from_residual-in_err-p-in-Operands.result c.from_residual-in_err-p-in-Operands.ensures.1 in
    rw (p.1, p.2) (front-gone _ _ _ _ _ _ c.if-room-eq0.false (sym (ap told c.in-Operands.is) ∙ c.in_ok-a.ensures) c.kind_at-node.ensures c.front.ensures c.in_err-p-in-Operands.was e n q)

pub term-returns-in_err-told-in-Operands : goal.term-returns-in_err-told-in-Operands
term-returns-in_err-told-in-Operands t c e n q =
    let p = err_from_is_err_and c.from_residual-in_err-told-in-Operands.result c.from_residual-in_err-told-in-Operands.ensures.1 in
    rw (p.1, p.2) (operands-gone _ _ _ _ _ _ c.if-room-eq0.false (sym (ap told c.in-Operands.is) ∙ c.in_ok-a.ensures) c.kind_at-node.ensures c.front.ensures c.in_ok-p-in-Operands.was c.lets.ensures c.terms.ensures c.in_err-told-in-Operands.was e n q)

pub term-returns-then-n-eq0 : goal.term-returns-then-n-eq0
term-returns-then-n-eq0 t c = applied-none _ _ _ _ _ (λ i h. (c.type_inv.words i).fits) _ c.if-room-eq0.false (sym (ap told c.in-Arguments.is) ∙ c.in_ok-a.ensures) _ _ c.exprs_end.ensures c.behind-b.ensures c.out_sort.ensures c.behind-d.ensures c.if-n-eq0.true c.term.ensures

pub term-returns-in_err-told-in-Ok : goal.term-returns-in_err-told-in-Ok
term-returns-in_err-told-in-Ok t c e n q =
    let p = err_from_is_err_and c.from_residual-in_err-told-in-Ok.result c.from_residual-in_err-told-in-Ok.ensures.1 in
    rw (p.1, p.2) (arguments-gone _ _ _ _ _ (λ i h. (c.type_inv.words i).fits) _ c.if-room-eq0.false (sym (ap told c.in-Arguments.is) ∙ c.in_ok-a.ensures) _ _ c.exprs_end.ensures c.behind-b.ensures c.out_sort.ensures c.behind-d.ensures c.if-n-eq0.false c.kind_at.ensures c.callee.ensures c.terms-in-Ok.ensures c.callee.auto.out c.in_err-told-in-Ok.was e n q)

pub term-returns-in_err-terms-in-Err : goal.term-returns-in_err-terms-in-Err
term-returns-in_err-terms-in-Err t c e n q =
    let p = err_from_is_err_and c.from_residual-in_err-terms-in-Err.result c.from_residual-in_err-terms-in-Err.ensures.1 in
    rw (p.1, p.2) (arguments-gone _ _ _ _ _ (λ i h. (c.type_inv.words i).fits) _ c.if-room-eq0.false (sym (ap told c.in-Arguments.is) ∙ c.in_ok-a.ensures) _ _ c.exprs_end.ensures c.behind-b.ensures c.out_sort.ensures c.behind-d.ensures c.if-n-eq0.false c.kind_at.ensures c.callee.ensures c.terms-in-Err.ensures c.callee.auto.out c.in_err-terms-in-Err.was e n q)

pub term-returns-in_ok-told-in-Operands : goal.term-returns-in_ok-told-in-Operands
term-returns-in_ok-told-in-Operands t c = operands-done _ _ _ _ _ _ c.if-room-eq0.false (sym (ap told c.in-Operands.is) ∙ c.in_ok-a.ensures) c.kind_at-node.ensures c.front.ensures c.in_ok-p-in-Operands.was c.lets.ensures c.terms.ensures c.in_ok-told-in-Operands.was c.closes.ensures c.close.ensures

pub term-returns-in_ok-told-in-Ok : goal.term-returns-in_ok-told-in-Ok
term-returns-in_ok-told-in-Ok t c = applied-done _ _ _ _ _ (λ i h. (c.type_inv.words i).fits) _ c.if-room-eq0.false (sym (ap told c.in-Arguments.is) ∙ c.in_ok-a.ensures) _ _ c.exprs_end.ensures c.behind-b.ensures c.out_sort.ensures c.behind-d.ensures c.if-n-eq0.false c.kind_at.ensures c.callee.ensures c.terms-in-Ok.ensures c.in-Ok.is c.in_ok-told-in-Ok.was _ c.expr_end.ensures c.behind-e.ensures c.byte.ensures

pub term-returns-in_ok-terms-in-Err : goal.term-returns-in_ok-terms-in-Err
term-returns-in_ok-terms-in-Err t c = callee-gone _ _ _ _ _ (λ i h. (c.type_inv.words i).fits) _ c.if-room-eq0.false (sym (ap told c.in-Arguments.is) ∙ c.in_ok-a.ensures) _ _ c.exprs_end.ensures c.behind-b.ensures c.out_sort.ensures c.behind-d.ensures c.if-n-eq0.false c.kind_at.ensures c.callee.ensures c.terms-in-Err.ensures c.in-Err.is c.in_ok-terms-in-Err.was

pub terms-loop-i-init : goal.terms-loop-i-init
terms-loop-i-init t c = (refl, λ es m s. left_as (omega arith) (terms-all es m s))

pub terms-returns-in_err-told : goal.terms-returns-in_err-told
terms-returns-in_err-told t c es m s =
    let p = err_from_is_err_and c.from_residual.result c.from_residual.ensures.1 in
    rw (p.1, p.2) (terms-gone es m (first_left _ _ c.loop-i-test.true) c.gap-g.ensures c.term.ensures (omega arith) c.in_err-told.was (c.loop-i.invariant.1 es m s))

pub terms-loop-i-preserved : goal.terms-loop-i-preserved
terms-loop-i-preserved t c =
    (c.term.auto.out ∙ c.gap-g.auto.out ∙ c.loop-i.invariant.0, λ es m s. left_as (omega arith) (terms-next es m (first_left _ _ c.loop-i-test.true) c.gap-g.ensures c.term.ensures (omega arith) c.in_ok-told.was (c.loop-i.invariant.1 es m s)))

pub terms-returns : goal.terms-returns
terms-returns t c es m s = terms-done es m (omega arith) (c.loop-i.invariant.1 es m s)
