use Rattle.solsmt.proofs.Pieces.{list_put, list-gone}
use Rattle.solsmt.proofs.list_end.Goals as goal

pub returns-in-Ok : goal.returns-in-Ok
returns-in-Ok c s n xs judged list = list_put _ _ c.word_at.ensures c.vars.ensures s n xs judged list c.in-Ok.is

pub returns-in-Err : goal.returns-in-Err
returns-in-Err c s n xs judged list = list-gone _ _ c.word_at.ensures c.vars.ensures s n xs judged list c.in-Err.is
