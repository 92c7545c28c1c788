use native.Mathlib.Omega.{arith}
use Rattle.std.proofs.lemmas.Result.{err_from_is_err_and}
use Rattle.places.proofs.Spots.{spot-within, two-there}
use Rattle.places.proofs.Inside.{node-list, node-other}
use Rattle.places.proofs.SortPlace.{got-at, bad-at}
use Rattle.binds.proofs.PredNames.{symbol-there}
use Rattle.binds.proofs.BindOf.{bind-atom, bind-none, pair-spot, bind-no-pair, bind-short, name-spot, bind-no-name, sort-small, bind-no-sort, bind-one, pred-here, bind-preds}
use Rattle.binds.proofs.bind.bind_at.Goals as goal
use Rattle.binds.proofs.bind.bind_at.Goals.{then-head-lt2-via-then-head-lt2, then-head-lt2-via-else-head-lt2+then-tree-head-ne-SYMBOL}

pub returns-in_default : goal.returns-in_default
returns-in_default c h = bind-atom h _ (node-other c.args.tree.now 0 c.list_at.ensures c.in_default.is)

pub returns-then-bind-eq0 : goal.returns-then-bind-eq0
returns-then-bind-eq0 c h = bind-none h (node-list c.args.tree.now 0 c.list_at.ensures c.in-Some.is) _ c.if-bind-eq0.true

pub list_at-requires-2 : goal.list_at-requires-2
list_at-requires-2 c = pair-spot c.requires (node-list c.args.tree.now 0 c.list_at.ensures c.in-Some.is) c.if-bind-eq0.false

pub returns-in_default-list_at : goal.returns-in_default-list_at
returns-in_default-list_at c h = bind-no-pair h (node-list c.args.tree.now 0 c.list_at.ensures c.in-Some.is) c.if-bind-eq0.false _ (node-other c.args.tree.now _ c.list_at-2.ensures c.in_default-list_at.is)

pub offset_bounds-tree-head : goal.offset_bounds-tree-head
offset_bounds-tree-head c = omega (arith, two-there (name-spot c.requires (node-list c.args.tree.now 0 c.list_at.ensures c.in-Some.is) c.if-bind-eq0.false (node-list c.args.tree.now _ c.list_at-2.ensures c.in-Some-list_at.is) c.if-head-lt2.false))

pub bounds-tree-head : goal.bounds-tree-head
bounds-tree-head c = omega (arith, two-there (name-spot c.requires (node-list c.args.tree.now 0 c.list_at.ensures c.in-Some.is) c.if-bind-eq0.false (node-list c.args.tree.now _ c.list_at-2.ensures c.in-Some-list_at.is) c.if-head-lt2.false))

pub returns-then-head-lt2 : goal.returns-then-head-lt2
returns-then-head-lt2 c h =
    let l = node-list c.args.tree.now 0 c.list_at.ensures c.in-Some.is in
    let n = node-list c.args.tree.now _ c.list_at-2.ensures c.in-Some-list_at.is in
    elim c.then-head-lt2.branch [ then-head-lt2-via-then-head-lt2 w ↦ bind-short h l c.if-bind-eq0.false n _ w.if-head-lt2.true | then-head-lt2-via-else-head-lt2+then-tree-head-ne-SYMBOL w ↦ bind-no-name h l c.if-bind-eq0.false n w.if-head-lt2.false _ w.if-tree-head-ne-SYMBOL.true ]

pub bounds-tree-head-2 : goal.bounds-tree-head-2
bounds-tree-head-2 c = omega (arith, symbol-there (name-spot c.requires (node-list c.args.tree.now 0 c.list_at.ensures c.in-Some.is) c.if-bind-eq0.false (node-list c.args.tree.now _ c.list_at-2.ensures c.in-Some-list_at.is) c.if-head-lt2.false) c.if-tree-head-ne-SYMBOL.false)

pub bounds-tree-head-3 : goal.bounds-tree-head-3
bounds-tree-head-3 c = omega (arith, symbol-there (name-spot c.requires (node-list c.args.tree.now 0 c.list_at.ensures c.in-Some.is) c.if-bind-eq0.false (node-list c.args.tree.now _ c.list_at-2.ensures c.in-Some-list_at.is) c.if-head-lt2.false) c.if-tree-head-ne-SYMBOL.false)

pub sort_at-requires : goal.sort_at-requires
sort_at-requires c = (sort-small c.requires (node-list c.args.tree.now 0 c.list_at.ensures c.in-Some.is) c.if-bind-eq0.false (node-list c.args.tree.now _ c.list_at-2.ensures c.in-Some-list_at.is) c.if-head-lt2.false c.if-tree-head-ne-SYMBOL.false, omega (arith, c.put2-v.ensures.is))

pub returns-in_err-u : goal.returns-in_err-u
returns-in_err-u c h = let p = err_from_is_err_and c.from_residual.result c.from_residual.ensures.1 in
    rw (p.1, p.2) (bind-no-sort h (node-list c.args.tree.now 0 c.list_at.ensures c.in-Some.is) c.if-bind-eq0.false (node-list c.args.tree.now _ c.list_at-2.ensures c.in-Some-list_at.is) c.if-head-lt2.false c.if-tree-head-ne-SYMBOL.false _ (bad-at (c.sort_at.ensures (sort-small (h) (node-list c.args.tree.now 0 c.list_at.ensures c.in-Some.is) c.if-bind-eq0.false (node-list c.args.tree.now _ c.list_at-2.ensures c.in-Some-list_at.is) c.if-head-lt2.false c.if-tree-head-ne-SYMBOL.false)) c.in_err-u.was))

pub returns-then-bind-lt2 : goal.returns-then-bind-lt2
returns-then-bind-lt2 c h = bind-one h (node-list c.args.tree.now 0 c.list_at.ensures c.in-Some.is) c.if-bind-eq0.false (node-list c.args.tree.now _ c.list_at-2.ensures c.in-Some-list_at.is) c.if-head-lt2.false c.if-tree-head-ne-SYMBOL.false c.put2-v.ensures.is (got-at (c.sort_at.ensures (sort-small (h) (node-list c.args.tree.now 0 c.list_at.ensures c.in-Some.is) c.if-bind-eq0.false (node-list c.args.tree.now _ c.list_at-2.ensures c.in-Some-list_at.is) c.if-head-lt2.false c.if-tree-head-ne-SYMBOL.false)) c.in_ok-u.was) _ c.if-bind-lt2.true

pub words_at-requires : goal.words_at-requires
words_at-requires c = pair-spot c.requires (node-list c.args.tree.now 0 c.list_at.ensures c.in-Some.is) c.if-bind-eq0.false

pub overflow_add-bind : goal.overflow_add-bind
overflow_add-bind c = omega (arith, c.words_at.ensures (pair-spot c.requires (node-list c.args.tree.now 0 c.list_at.ensures c.in-Some.is) c.if-bind-eq0.false), spot-within (pair-spot c.requires (node-list c.args.tree.now 0 c.list_at.ensures c.in-Some.is) c.if-bind-eq0.false))

pub preds-requires : goal.preds-requires
preds-requires c = pred-here c.requires (node-list c.args.tree.now 0 c.list_at.ensures c.in-Some.is) c.if-bind-eq0.false (node-list c.args.tree.now _ c.list_at-2.ensures c.in-Some-list_at.is) c.if-head-lt2.false c.if-tree-head-ne-SYMBOL.false c.put2-v.ensures.is (got-at (c.sort_at.ensures (sort-small c.requires (node-list c.args.tree.now 0 c.list_at.ensures c.in-Some.is) c.if-bind-eq0.false (node-list c.args.tree.now _ c.list_at-2.ensures c.in-Some-list_at.is) c.if-head-lt2.false c.if-tree-head-ne-SYMBOL.false)) c.in_ok-u.was) c.if-bind-lt2.false (c.words_at.ensures (pair-spot c.requires (node-list c.args.tree.now 0 c.list_at.ensures c.in-Some.is) c.if-bind-eq0.false))

pub returns : goal.returns
returns c h = bind-preds h (node-list c.args.tree.now 0 c.list_at.ensures c.in-Some.is) c.if-bind-eq0.false (node-list c.args.tree.now _ c.list_at-2.ensures c.in-Some-list_at.is) c.if-head-lt2.false c.if-tree-head-ne-SYMBOL.false c.put2-v.ensures.is (got-at (c.sort_at.ensures (sort-small (h) (node-list c.args.tree.now 0 c.list_at.ensures c.in-Some.is) c.if-bind-eq0.false (node-list c.args.tree.now _ c.list_at-2.ensures c.in-Some-list_at.is) c.if-head-lt2.false c.if-tree-head-ne-SYMBOL.false)) c.in_ok-u.was) c.if-bind-lt2.false _ c.put2-v.ensures (c.preds.ensures (pred-here h (node-list c.args.tree.now 0 c.list_at.ensures c.in-Some.is) c.if-bind-eq0.false (node-list c.args.tree.now _ c.list_at-2.ensures c.in-Some-list_at.is) c.if-head-lt2.false c.if-tree-head-ne-SYMBOL.false c.put2-v.ensures.is (got-at (c.sort_at.ensures (sort-small (h) (node-list c.args.tree.now 0 c.list_at.ensures c.in-Some.is) c.if-bind-eq0.false (node-list c.args.tree.now _ c.list_at-2.ensures c.in-Some-list_at.is) c.if-head-lt2.false c.if-tree-head-ne-SYMBOL.false)) c.in_ok-u.was) c.if-bind-lt2.false (c.words_at.ensures (pair-spot (h) (node-list c.args.tree.now 0 c.list_at.ensures c.in-Some.is) c.if-bind-eq0.false))))
