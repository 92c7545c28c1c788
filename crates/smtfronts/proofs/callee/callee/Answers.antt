use Rattle.std.proofs.lemmas.Result.{err_from_is_err_and}
use Rattle.smtnames.proofs.Tells.{piece_put, piece_gone, tells_seq, tells-end, tells_stop}
use Rattle.smtfronts.proofs.callee.callee.Goals as goal

pub returns : goal.returns
returns c = tells_seq _ c.byte-a.ensures (tells-end _ (piece_put c.named.ensures c.in_ok-b.was) c.byte.ensures)

pub returns-in_err-b : goal.returns-in_err-b
returns-in_err-b c =
    let p = err_from_is_err_and c.from_residual.result c.from_residual.ensures.1 in
    rw (p.1, p.2) (tells_seq _ c.byte-a.ensures (tells_stop _ (piece_gone c.named.ensures c.in_err-b.was)))
