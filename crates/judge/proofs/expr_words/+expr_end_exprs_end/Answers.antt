use native.Mathlib.Omega.{arith}
use mathlib.Core.Path.{sym, ap, ◌∙◌}
use Rattle.judging.proofs.Exits.{exits}
use Rattle.words.specs.Answered.{told}
use Rattle.judge.proofs.ReadExpr.{several-no, several-at, several-end, expr-full, expr-no, expr-operands, expr-arguments, expr-sort, expr-app}
use Rattle.judge.proofs.expr_words.+expr_end_exprs_end.Goals as goal

pub expr_end-returns-then-room-eq0 : goal.expr_end-returns-then-room-eq0
expr_end-returns-then-room-eq0 t c = expr-full _ _ _ _ c.if-room-eq0.true c.no_room.ensures

pub expr_end-returns-in_err-a : goal.expr_end-returns-in_err-a
expr_end-returns-in_err-a t c = exits _ _ c.from_residual.ensures (expr-no _ _ _ _ c.if-room-eq0.false c.in_err-a.ensures)

pub expr_end-returns-in_err-b-in-Arguments : goal.expr_end-returns-in_err-b-in-Arguments
expr_end-returns-in_err-b-in-Arguments t c = exits _ _ c.from_residual-in_err-b-in-Arguments.ensures (expr-arguments _ _ _ _ c.if-room-eq0.false (sym (ap told c.in-Arguments.is) ∙ c.in_ok-a.ensures) c.in_err-b-in-Arguments.ensures)

pub expr_end-returns-in_err-d-in-Arguments : goal.expr_end-returns-in_err-d-in-Arguments
expr_end-returns-in_err-d-in-Arguments t c = exits _ _ c.from_residual-in_err-d-in-Arguments.ensures (expr-sort _ _ _ _ c.if-room-eq0.false (sym (ap told c.in-Arguments.is) ∙ c.in_ok-a.ensures) c.in_ok-b-in-Arguments.ensures c.in_err-d-in-Arguments.ensures)

pub expr_end-returns-in-Operands : goal.expr_end-returns-in-Operands
expr_end-returns-in-Operands t c = expr-operands _ _ _ _ c.if-room-eq0.false (sym (ap told c.in-Operands.is) ∙ c.in_ok-a.ensures) c.exprs_end.ensures

pub expr_end-returns-in_ok-d-in-Arguments : goal.expr_end-returns-in_ok-d-in-Arguments
expr_end-returns-in_ok-d-in-Arguments t c = expr-app _ _ _ _ c.if-room-eq0.false (sym (ap told c.in-Arguments.is) ∙ c.in_ok-a.ensures) c.in_ok-b-in-Arguments.ensures c.in_ok-d-in-Arguments.ensures c.expr_end.ensures

pub exprs_end-returns-in_err-a : goal.exprs_end-returns-in_err-a
exprs_end-returns-in_err-a t c = exits _ _ c.from_residual.ensures (sym (c.loop.invariant ∙ several-no _ _ _ _ _ _ (omega (arith, c.loop-test.true)) c.in_err-a.ensures))

pub exprs_end-loop-preserved : goal.exprs_end-loop-preserved
exprs_end-loop-preserved t c = c.loop.invariant ∙ several-at _ _ _ _ _ _ _ (omega (arith, c.loop-test.true)) c.in_ok-a.ensures

pub exprs_end-returns : goal.exprs_end-returns
exprs_end-returns t c = sym (c.loop.invariant ∙ several-end _ _ _ _ _ _ (omega (arith, c.loop-test.false)))
