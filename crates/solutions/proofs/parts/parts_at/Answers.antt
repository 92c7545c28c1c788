use Rattle.std.proofs.lemmas.Result.{err_from_is_err_and}
use mathlib.Core.Path.{refl}
use Prim.Native.Nat.{◌+◌}
use native.Mathlib.Omega.{arith}
use Rattle.places.proofs.SortPlace.{got-at, bad-at}
use Rattle.places.proofs.Spots.{spot-within}
use Rattle.places.proofs.Inside.{node-list, node-other}
use Rattle.solutions.proofs.SolutionParts.{root, whole-other, whole-count, head-spot, params-spot, params-other, pairs-row, pairs-bad, sorts-bad, parts-body, parts-done}
use Rattle.solutions.proofs.parts.parts_at.Goals as goal

pub list_at-requires : goal.list_at-requires
list_at-requires c = root c.requires

pub returns-in_default : goal.returns-in_default
returns-in_default c h = whole-other h _ (node-other c.args.tree.now 0 c.list_at.ensures c.in_default.is)

pub returns-then-whole-ne3 : goal.returns-then-whole-ne3
returns-then-whole-ne3 c h = whole-count h (node-list c.args.tree.now 0 c.list_at.ensures c.in-Some.is) _ c.if-whole-ne3.true

pub words_at-requires : goal.words_at-requires
words_at-requires c = head-spot c.requires (node-list c.args.tree.now 0 c.list_at.ensures c.in-Some.is) c.if-whole-ne3.false

pub overflow_add-params : goal.overflow_add-params
overflow_add-params c =
    let p = head-spot c.requires (node-list c.args.tree.now 0 c.list_at.ensures c.in-Some.is) c.if-whole-ne3.false in
    omega (arith, spot-within p, c.words_at.ensures p)

pub list_at-requires-2 : goal.list_at-requires-2
list_at-requires-2 c =
    let l = node-list c.args.tree.now 0 c.list_at.ensures c.in-Some.is in
    let three = c.if-whole-ne3.false in
    let js = c.words_at.ensures (head-spot c.requires l three) in
    params-spot c.requires l three js

pub returns-in_default-list_at : goal.returns-in_default-list_at
returns-in_default-list_at c h =
    let l = node-list c.args.tree.now 0 c.list_at.ensures c.in-Some.is in
    let three = c.if-whole-ne3.false in
    let js = c.words_at.ensures (head-spot h l three) in
    params-other h l three js _ (node-other c.args.tree.now (c.in-Some.whole.first + c.words_at.result) c.list_at-2.ensures c.in_default-list_at.is)

pub all_pairs-requires : goal.all_pairs-requires
all_pairs-requires c =
    let l = node-list c.args.tree.now 0 c.list_at.ensures c.in-Some.is in
    let three = c.if-whole-ne3.false in
    let js = c.words_at.ensures (head-spot c.requires l three) in
    let v = node-list c.args.tree.now (c.in-Some.whole.first + c.words_at.result) c.list_at-2.ensures c.in-Some-list_at.is in
    pairs-row c.requires l three js v refl 0 (omega arith)

pub returns-then-not-all_pairs : goal.returns-then-not-all_pairs
returns-then-not-all_pairs c h =
    let l = node-list c.args.tree.now 0 c.list_at.ensures c.in-Some.is in
    let three = c.if-whole-ne3.false in
    let js = c.words_at.ensures (head-spot h l three) in
    let v = node-list c.args.tree.now (c.in-Some.whole.first + c.words_at.result) c.list_at-2.ensures c.in-Some-list_at.is in
    let is = c.all_pairs.ensures (pairs-row h l three js v refl 0 (omega arith)) in
    pairs-bad h l three js v refl is _ (c.if-not-all_pairs.true)

pub binder_words-requires : goal.binder_words-requires
binder_words-requires c =
    let l = node-list c.args.tree.now 0 c.list_at.ensures c.in-Some.is in
    let three = c.if-whole-ne3.false in
    let js = c.words_at.ensures (head-spot c.requires l three) in
    let v = node-list c.args.tree.now (c.in-Some.whole.first + c.words_at.result) c.list_at-2.ensures c.in-Some-list_at.is in
    pairs-row c.requires l three js v refl c.put1-v.result (omega (arith, c.put1-v.ensures.is))

pub words_at-requires-2 : goal.words_at-requires-2
words_at-requires-2 c =
    let l = node-list c.args.tree.now 0 c.list_at.ensures c.in-Some.is in
    let three = c.if-whole-ne3.false in
    let js = c.words_at.ensures (head-spot c.requires l three) in
    params-spot c.requires l three js

pub overflow_add-body : goal.overflow_add-body
overflow_add-body c =
    let l = node-list c.args.tree.now 0 c.list_at.ensures c.in-Some.is in
    let three = c.if-whole-ne3.false in
    let js = c.words_at.ensures (head-spot c.requires l three) in
    let p = params-spot c.requires l three js in
    omega (arith, spot-within p, c.words_at-2.ensures p)

pub body_at-requires : goal.body_at-requires
body_at-requires c =
    let l = node-list c.args.tree.now 0 c.list_at.ensures c.in-Some.is in
    let three = c.if-whole-ne3.false in
    let js = c.words_at.ensures (head-spot c.requires l three) in
    let v = node-list c.args.tree.now (c.in-Some.whole.first + c.words_at.result) c.list_at-2.ensures c.in-Some-list_at.is in
    let is = c.all_pairs.ensures (pairs-row c.requires l three js v refl 0 (omega arith)) in
    let yes = c.if-not-all_pairs.false in
    let row = pairs-row c.requires l three js v refl c.put1-v.result (omega (arith, c.put1-v.ensures.is)) in
    let read = c.binder_words.ensures row c.args.count 0 (omega (arith)) in
    parts-body c.requires l three js v refl is yes _ c.put1-v.ensures (got-at read c.in_ok-u.was) (c.words_at-2.ensures (params-spot c.requires l three js))

pub returns-in_err-u : goal.returns-in_err-u
returns-in_err-u c h =
    let l = node-list c.args.tree.now 0 c.list_at.ensures c.in-Some.is in
    let three = c.if-whole-ne3.false in
    let js = c.words_at.ensures (head-spot h l three) in
    let v = node-list c.args.tree.now (c.in-Some.whole.first + c.words_at.result) c.list_at-2.ensures c.in-Some-list_at.is in
    let is = c.all_pairs.ensures (pairs-row h l three js v refl 0 (omega arith)) in
    let yes = c.if-not-all_pairs.false in
    let row = pairs-row h l three js v refl c.put1-v.result (omega (arith, c.put1-v.ensures.is)) in
    let read = c.binder_words.ensures row c.args.count 0 (omega (arith)) in
    let p = err_from_is_err_and c.from_residual.result c.from_residual.ensures.1 in
    rw (p.1, p.2) (sorts-bad h l three js v refl is yes _ (bad-at read c.in_err-u.was))

pub returns : goal.returns
returns c h =
    let l = node-list c.args.tree.now 0 c.list_at.ensures c.in-Some.is in
    let three = c.if-whole-ne3.false in
    let js = c.words_at.ensures (head-spot h l three) in
    let v = node-list c.args.tree.now (c.in-Some.whole.first + c.words_at.result) c.list_at-2.ensures c.in-Some-list_at.is in
    let is = c.all_pairs.ensures (pairs-row h l three js v refl 0 (omega arith)) in
    let yes = c.if-not-all_pairs.false in
    let row = pairs-row h l three js v refl c.put1-v.result (omega (arith, c.put1-v.ensures.is)) in
    let read = c.binder_words.ensures row c.args.count 0 (omega (arith)) in
    let t = got-at read c.in_ok-u.was in
    let ls = c.words_at-2.ensures (params-spot h l three js) in
    parts-done h l three js v refl is yes _ c.put1-v.ensures t ls (c.body_at.ensures (parts-body h l three js v refl is yes _ c.put1-v.ensures t ls))
