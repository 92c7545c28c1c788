use Rattle.solsmt.proofs.Pieces.{function-wrote}
use Rattle.solsmt.proofs.function.Goals as goal

pub returns : goal.returns
returns c = function-wrote c.args.made.now c.args.k c.comment-a.ensures c.bytes-b.ensures c.bytes-c.ensures c.bytes-d.ensures c.bytes-e.ensures c.bytes.ensures
