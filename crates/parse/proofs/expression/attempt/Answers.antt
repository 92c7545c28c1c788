use Rattle.std.proofs.lemmas.Result.{err_from_is_err_and}
use native.Mathlib.Omega.{arith}
use lib.ListN.{length-take}
use Rattle.parse.proofs.ReadTree.{there-is, there-none}
use Rattle.parse.proofs.Ended.{finished-named, ended, here_in, expr-final, expr-none}
use Rattle.parse.proofs.expression.attempt.Goals as goal

pub slice_bounds-expr-end : goal.slice_bounds-expr-end
slice_bounds-expr-end c = (there-is c.tree_of.ensures c.in_ok-words.was).within

pub slice_bounds-expr-end-2 : goal.slice_bounds-expr-end-2
slice_bounds-expr-end-2 c = let x = there-is c.tree_of.ensures c.in_ok-words.was in rw length-take (omega (arith, x.within))

pub expr-parsed-requires : goal.expr-parsed-requires
expr-parsed-requires c = here_in (there-is c.tree_of.ensures c.in_ok-words.was) (omega arith)

pub returns-in_err-words : goal.returns-in_err-words
returns-in_err-words c =
    let p = err_from_is_err_and c.from_residual.result c.from_residual.ensures.1 in
    rw (p.1, p.2) (expr-none _ _ _ _ (there-none _ c.tree_of.ensures c.in_err-words.was))

pub returns : goal.returns
returns c =
    let x = there-is c.tree_of.ensures c.in_ok-words.was in
    rw (finished-named (λ x e g. g) _ _ _ _ c.finished.ensures, expr-final c.args.text.now c.args.tree.now c.args.out.now c.args.count x.it x.is)
    (ended _ _ _ _ (omega arith) _ (c.expr-parsed.ensures.1 (here_in x (omega arith))) c.expr-parsed.auto.out)
