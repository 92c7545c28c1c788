use Rattle.std.proofs.lemmas.Result.{err_from_is_err_and}
use native.Mathlib.Omega.{arith}
use lib.ListN.{length-take}
use Rattle.parse.proofs.ReadTree.{there-is, there-none}
use Rattle.parse.proofs.Answered.{is-tree, without-tree, sort-refused, sort-short, sort-long}
use Rattle.parse.proofs.sort.attempt.Goals as goal

pub slice_bounds-sort-end : goal.slice_bounds-sort-end
slice_bounds-sort-end c = (there-is c.tree_of.ensures c.in_ok-words.was).within

pub slice_bounds-sort-end-2 : goal.slice_bounds-sort-end-2
slice_bounds-sort-end-2 c = let x = there-is c.tree_of.ensures c.in_ok-words.was in rw length-take (omega (arith, x.within))

pub sort-requires : goal.sort-requires
sort-requires c = is-tree (there-is c.tree_of.ensures c.in_ok-words.was)

pub returns-then-out-size : goal.returns-then-out-size
returns-then-out-size c = let x = there-is c.tree_of.ensures c.in_ok-words.was in sort-short x (c.sort.ensures x.it x.there) c.in_ok-size.was c.sort.auto.out c.if-out-size.true

pub returns-in_err-words : goal.returns-in_err-words
returns-in_err-words c =
    let p = err_from_is_err_and c.from_residual.result c.from_residual.ensures.1 in
    rw (p.1, p.2) (without-tree (there-none _ c.tree_of.ensures c.in_err-words.was))

pub returns-in_err-size : goal.returns-in_err-size
returns-in_err-size c =
    let x = there-is c.tree_of.ensures c.in_ok-words.was in
    let p = err_from_is_err_and c.from_residual-in_err-size.result c.from_residual-in_err-size.ensures.1 in
    rw (p.1, p.2) (sort-refused x (c.sort.ensures x.it x.there) c.in_err-size.was)

pub returns : goal.returns
returns c = let x = there-is c.tree_of.ensures c.in_ok-words.was in sort-long x (c.sort.ensures x.it x.there) c.in_ok-size.was c.sort.auto.out c.if-out-size.false
