use Rattle.std.proofs.lemmas.Result.{err_from_is_err_and}
use Rattle.smtlib.proofs.Whole.{not-judged, vars-gone, term-gone, term-over, term-done}
use Rattle.smtlib.proofs.attempt.Goals as goal

pub returns-in_err-solution : goal.returns-in_err-solution
returns-in_err-solution c =
    let p = err_from_is_err_and c.from_residual.result c.from_residual.ensures.1 in
    rw (p.1, p.2) (not-judged _ _ _ c.in_err-solution.ensures)

pub returns-in_err-list : goal.returns-in_err-list
returns-in_err-list c =
    let p = err_from_is_err_and c.from_residual-in_err-list.result c.from_residual-in_err-list.ensures.1 in
    rw (p.1, p.2) (vars-gone _ _ _ c.in_ok-solution.ensures (λ limit bs m s. c.vars.ensures limit bs m (rw c.word_at.ensures s)) c.in_err-list.was)

pub returns-in_err-body : goal.returns-in_err-body
returns-in_err-body c =
    let p = err_from_is_err_and c.from_residual-in_err-body.result c.from_residual-in_err-body.ensures.1 in
    rw (p.1, p.2) (term-gone _ _ _ c.in_ok-solution.ensures (λ limit bs m s. c.vars.ensures limit bs m (rw c.word_at.ensures s)) c.in_ok-list.was c.byte-place.ensures c.term.ensures c.in_err-body.was)

pub returns-then-out-body : goal.returns-then-out-body
returns-then-out-body c = term-over _ _ _ c.in_ok-solution.ensures (λ limit bs m s. c.vars.ensures limit bs m (rw c.word_at.ensures s)) c.in_ok-list.was c.byte-place.ensures c.term.ensures c.in_ok-body.was c.if-out-body.true

pub returns : goal.returns
returns c = term-done _ _ _ c.in_ok-solution.ensures (λ limit bs m s. c.vars.ensures limit bs m (rw c.word_at.ensures s)) c.in_ok-list.was c.byte-place.ensures c.term.ensures c.in_ok-body.was c.if-out-body.false
