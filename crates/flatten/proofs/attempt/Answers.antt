use mathlib.Core.Path.{refl}
use Rattle.std.proofs.lemmas.Result.{err_from_is_err_and}
use Rattle.flatten.proofs.Decided.{flatten_no, flatten_done, flatten_full}
use Rattle.flatten.proofs.attempt.Goals as goal

pub returns-in_err-judge : goal.returns-in_err-judge
returns-in_err-judge c =
    let p = err_from_is_err_and c.from_residual.result c.from_residual.ensures.1 in
    rw (p.1, p.2) (flatten_no _ _ c.in_err-judge.ensures)

pub returns-then-out-walked : goal.returns-then-out-walked
returns-then-out-walked c = flatten_full _ _ c.in_ok-judge.ensures c.flat-walked.ensures refl c.if-out-walked.true

pub returns : goal.returns
returns c = flatten_done _ _ c.in_ok-judge.ensures c.flat-walked.ensures refl c.if-out-walked.false
