use Rattle.std.proofs.lemmas.Result.{err_from_is_err_and}
use Rattle.parse.proofs.ReadTree.{tree_in, no-tree}
use Rattle.parse.proofs.tree.tree_of.Goals as goal

pub returns-in_err-read : goal.returns-in_err-read
returns-in_err-read c =
    let p = err_from_is_err_and c.from_residual.result c.from_residual.ensures.1 in
    rw (p.1, p.2) (no-tree c.read_one.ensures.answer c.read_one.ensures.output c.in_err-read.was)

pub returns : goal.returns
returns c = tree_in c.read_one.ensures.answer c.read_one.ensures.output c.in_ok-read.was
