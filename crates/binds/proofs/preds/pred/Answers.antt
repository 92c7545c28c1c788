use native.Mathlib.Omega.{arith}
use Rattle.std.proofs.lemmas.Result.{err_from_is_err_and}
use Rattle.places.proofs.Spots.{two-there}
use Rattle.places.proofs.Inside.{node-list, node-other}
use Rattle.binds.proofs.ListHead.{head-spot}
use Rattle.binds.proofs.PredPlans.{pred-atom, pred-none, pred-other, six-there, pred-and, pred-named, kvar-here, pred-kvar, expr-here, expr-bad, expr-read}
use Rattle.binds.proofs.preds.pred.Goals as goal
use Rattle.binds.proofs.preds.pred.Goals.{then-tree-list-eq-SYMBOL+else-same+else-begins_with, else-tree-list-eq-SYMBOL}

pub returns-in_default : goal.returns-in_default
returns-in_default c h = pred-atom h (node-other c.args.tree.now c.args.at c.list_at.ensures c.in_default.is)

pub returns-then-list-eq0 : goal.returns-then-list-eq0
returns-then-list-eq0 c h = pred-none h (node-list c.args.tree.now c.args.at c.list_at.ensures c.in-Some.is) c.if-list-eq0.true

pub offset_bounds-tree-list : goal.offset_bounds-tree-list
offset_bounds-tree-list c = omega (arith, two-there (head-spot c.requires.0.spot (node-list c.args.tree.now c.args.at c.list_at.ensures c.in-Some.is) c.if-list-eq0.false))

pub bounds-tree-list : goal.bounds-tree-list
bounds-tree-list c = omega (arith, two-there (head-spot c.requires.0.spot (node-list c.args.tree.now c.args.at c.list_at.ensures c.in-Some.is) c.if-list-eq0.false))

pub bounds-tree-list-then-tree-list-eq-SYMBOL : goal.bounds-tree-list-then-tree-list-eq-SYMBOL
bounds-tree-list-then-tree-list-eq-SYMBOL c = omega (arith, six-there c.requires.0 (node-list c.args.tree.now c.args.at c.list_at.ensures c.in-Some.is) c.if-list-eq0.false c.if-tree-list-eq-SYMBOL.true, (node-list c.args.tree.now c.args.at c.list_at.ensures c.in-Some.is).first)

pub bounds-tree-list-then-tree-list-eq-SYMBOL-2 : goal.bounds-tree-list-then-tree-list-eq-SYMBOL-2
bounds-tree-list-then-tree-list-eq-SYMBOL-2 c = omega (arith, six-there c.requires.0 (node-list c.args.tree.now c.args.at c.list_at.ensures c.in-Some.is) c.if-list-eq0.false c.if-tree-list-eq-SYMBOL.true, (node-list c.args.tree.now c.args.at c.list_at.ensures c.in-Some.is).first)

pub overflow_add-result : goal.overflow_add-result
overflow_add-result c = omega (arith, six-there c.requires.0 (node-list c.args.tree.now c.args.at c.list_at.ensures c.in-Some.is) c.if-list-eq0.false c.if-tree-list-eq-SYMBOL.true)

pub returns-then-same : goal.returns-then-same
returns-then-same c h = pred-and h (node-list c.args.tree.now c.args.at c.list_at.ensures c.in-Some.is) c.if-list-eq0.false c.if-tree-list-eq-SYMBOL.true _ c.bytes-bytes.ensures c.same.ensures c.if-same.true

pub kvar-requires : goal.kvar-requires
kvar-requires c = kvar-here c.requires.0 (node-list c.args.tree.now c.args.at c.list_at.ensures c.in-Some.is) c.if-list-eq0.false c.if-tree-list-eq-SYMBOL.true c.bytes-bytes.ensures c.same.ensures c.if-same.false c.begins_with.ensures c.if-begins_with.true

pub returns-then-begins_with : goal.returns-then-begins_with
returns-then-begins_with c h = pred-kvar h (node-list c.args.tree.now c.args.at c.list_at.ensures c.in-Some.is) c.if-list-eq0.false c.if-tree-list-eq-SYMBOL.true c.bytes-bytes.ensures c.same.ensures c.if-same.false c.begins_with.ensures c.args.count c.args.out.now _ c.kvar.result (c.kvar.ensures (kvar-here h (node-list c.args.tree.now c.args.at c.list_at.ensures c.in-Some.is) c.if-list-eq0.false c.if-tree-list-eq-SYMBOL.true c.bytes-bytes.ensures c.same.ensures c.if-same.false c.begins_with.ensures c.if-begins_with.true) _)

pub expr-requires : goal.expr-requires
expr-requires c = expr-here c.requires.0 (c.through-q.ensures c.requires.0.spot) c.put1-v.ensures.is c.args.scopes.now c.requires.1

pub returns-in_err-read : goal.returns-in_err-read
returns-in_err-read c h = let p = err_from_is_err_and c.from_residual.result c.from_residual.ensures.1 in
    rw (p.1, p.2) (expr-bad h (c.through-q.ensures h.spot) (elim c.if-tree-list-eq-SYMBOL.branch [ then-tree-list-eq-SYMBOL+else-same+else-begins_with w ↦ pred-named h (node-list c.args.tree.now c.args.at c.list_at.ensures c.in-Some.is) c.if-list-eq0.false w.if-tree-list-eq-SYMBOL.true w.bytes-bytes.ensures w.same.ensures w.if-same.false w.begins_with.ensures w.if-begins_with.false | else-tree-list-eq-SYMBOL w ↦ pred-other h (node-list c.args.tree.now c.args.at c.list_at.ensures c.in-Some.is) c.if-list-eq0.false w.if-tree-list-eq-SYMBOL.false ]) _ (c.expr.ensures.1 (expr-here h (c.through-q.ensures h.spot) c.put1-v.ensures.is c.args.scopes.now c.requires.1)) c.in_err-read.was)

pub returns : goal.returns
returns c h = expr-read h (c.through-q.ensures h.spot) (elim c.if-tree-list-eq-SYMBOL.branch [ then-tree-list-eq-SYMBOL+else-same+else-begins_with w ↦ pred-named h (node-list c.args.tree.now c.args.at c.list_at.ensures c.in-Some.is) c.if-list-eq0.false w.if-tree-list-eq-SYMBOL.true w.bytes-bytes.ensures w.same.ensures w.if-same.false w.begins_with.ensures w.if-begins_with.false | else-tree-list-eq-SYMBOL w ↦ pred-other h (node-list c.args.tree.now c.args.at c.list_at.ensures c.in-Some.is) c.if-list-eq0.false w.if-tree-list-eq-SYMBOL.false ]) _ c.put1-v.ensures (c.expr.ensures.1 (expr-here h (c.through-q.ensures h.spot) c.put1-v.ensures.is c.args.scopes.now c.requires.1)) c.in_ok-read.was (c.words_at.ensures h.spot)
