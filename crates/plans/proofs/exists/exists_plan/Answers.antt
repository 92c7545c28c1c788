use Rattle.std.proofs.Common.{◌+◌, arith}
use Rattle.std.proofs.lemmas.Result.{err_from_is_err_and}
use Rattle.std.proofs.Common.{refl}
use Rattle.plans.proofs.ExistsForm.{ex_there, ex_count, vars-spot, ex_atom, ex_row, ex_bad, ex_go}
use Rattle.places.proofs.Spots.{spot-within}
use Rattle.places.proofs.Inside.{node-list, node-other}
use Rattle.places.proofs.SortPlace.{got-at, bad-at}
use Rattle.plans.proofs.exists.exists_plan.Goals as goal

pub overflow_add-at : goal.overflow_add-at
overflow_add-at c = omega (arith, ex_there c.requires.listed)

pub offset_bounds-tree-at : goal.offset_bounds-tree-at
offset_bounds-tree-at c = omega (arith, ex_there c.requires.listed)

pub bounds-tree-at : goal.bounds-tree-at
bounds-tree-at c = omega (arith, ex_there c.requires.listed)

pub returns-then-tree-at-ne3 : goal.returns-then-tree-at-ne3
returns-then-tree-at-ne3 c s us h = ex_count h _ c.if-tree-at-ne3.true

pub list_at-requires : goal.list_at-requires
list_at-requires c = vars-spot c.requires.listed c.if-tree-at-ne3.false

pub returns-in_default : goal.returns-in_default
returns-in_default c s us h = ex_atom h c.if-tree-at-ne3.false _ (node-other c.args.tree.now (c.args.at + 6) c.list_at.ensures c.in_default.is)

pub binder_words-requires : goal.binder_words-requires
binder_words-requires c =
    let h = c.requires.listed in
    let three = c.if-tree-at-ne3.false in
    let n = node-list c.args.tree.now (c.args.at + 6) c.list_at.ensures c.in-Some.is in
    let row = ex_row h three n (λ i. (c.shared_slice_known-2-1.given i).fits) refl c.put2-v.ensures.is in
    row

pub returns-in_err-u : goal.returns-in_err-u
returns-in_err-u c s us h =
    let three = c.if-tree-at-ne3.false in
    let n = node-list c.args.tree.now (c.args.at + 6) c.list_at.ensures c.in-Some.is in
    let row = ex_row h three n (λ i. (c.shared_slice_known-2-1.given i).fits) refl c.put2-v.ensures.is in
    let read = c.binder_words.ensures row c.args.count c.args.next refl in
    let p = err_from_is_err_and c.from_residual.result c.from_residual.ensures.1 in
    rw (p.1, p.2) (ex_bad h three n _ (bad-at read c.in_err-u.was))

pub words_at-requires : goal.words_at-requires
words_at-requires c = vars-spot c.requires.listed c.if-tree-at-ne3.false

pub overflow_add-result : goal.overflow_add-result
overflow_add-result c =
    let p = vars-spot c.requires.listed c.if-tree-at-ne3.false in
    omega (arith, spot-within p, c.words_at.ensures p)

pub returns : goal.returns
returns c s us h =
    let three = c.if-tree-at-ne3.false in
    let n = node-list c.args.tree.now (c.args.at + 6) c.list_at.ensures c.in-Some.is in
    let row = ex_row h three n (λ i. (c.shared_slice_known-2-1.given i).fits) refl c.put2-v.ensures.is in
    let read = c.binder_words.ensures row c.args.count c.args.next refl in
    ex_go h three n _ c.put2-v.ensures (got-at read c.in_ok-u.was) (c.words_at.ensures (vars-spot h three)) refl
