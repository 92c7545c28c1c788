use Rattle.std.proofs.Common.{◌+◌, sym, ◌∙◌, arith}
use Rattle.std.proofs.lemmas.Result.{err_from_is_err_and}
use Rattle.std.proofs.Common.{refl}
use Rattle.plans.proofs.Applied.{ap-many, head-spot, ap-two, ap-room, ap-atom, ap-short, inner-spot, second-spot, third-small, third-spot, in_call, in_short, in_bad, in_apply}
use Rattle.places.proofs.Spots.{spot-within, two-there}
use Rattle.places.proofs.Inside.{node-list, node-other}
use Rattle.places.proofs.SortPlace.{got-at, bad-at}
use Rattle.plans.proofs.application.app_plan.Goals as goal

pub overflow_add-head : goal.overflow_add-head
overflow_add-head c = omega (arith, ap-two c.requires.listed)

pub list_at-requires : goal.list_at-requires
list_at-requires c = head-spot c.requires.listed

pub returns-in_default : goal.returns-in_default
returns-in_default c t us h = ap-atom h _ (node-other c.args.tree.now (c.args.at + 3) c.list_at.ensures c.in_default.is)

pub returns-then-list-lt2 : goal.returns-then-list-lt2
returns-then-list-lt2 c t us h = ap-short h (node-list c.args.tree.now (c.args.at + 3) c.list_at.ensures c.in-Some.is) _ c.if-list-lt2.true

pub overflow_add-n : goal.overflow_add-n
overflow_add-n c = omega (arith, ap-two c.requires.listed)

pub offset_bounds-tree-at : goal.offset_bounds-tree-at
offset_bounds-tree-at c = omega (arith, ap-two c.requires.listed)

pub bounds-tree-at : goal.bounds-tree-at
bounds-tree-at c = omega (arith, ap-two c.requires.listed)

pub words_at-requires : goal.words_at-requires
words_at-requires c = head-spot c.requires.listed

pub overflow_add-first : goal.overflow_add-first
overflow_add-first c =
    let p = head-spot c.requires.listed in
    omega (arith, spot-within p, c.words_at.ensures p)

pub words_at-requires-2 : goal.words_at-requires-2
words_at-requires-2 c =
    let h = c.requires.listed in
    let n = node-list c.args.tree.now (c.args.at + 3) c.list_at.ensures c.in-Some.is in
    let two = c.if-list-lt2.false in
    inner-spot h n two

pub overflow_add-second : goal.overflow_add-second
overflow_add-second c =
    let h = c.requires.listed in
    let n = node-list c.args.tree.now (c.args.at + 3) c.list_at.ensures c.in-Some.is in
    let two = c.if-list-lt2.false in
    let p = inner-spot h n two in
    omega (arith, spot-within p, c.words_at-2.ensures p)

pub is_apply-requires : goal.is_apply-requires
is_apply-requires c =
    let h = c.requires.listed in
    let n = node-list c.args.tree.now (c.args.at + 3) c.list_at.ensures c.in-Some.is in
    let two = c.if-list-lt2.false in
    let js = c.words_at-2.ensures (inner-spot h n two) in
    second-spot h n two js

pub returns-then-list-lt3 : goal.returns-then-list-lt3
returns-then-list-lt3 c t us h =
    let n = node-list c.args.tree.now (c.args.at + 3) c.list_at.ensures c.in-Some.is in
    let two = c.if-list-lt2.false in
    let js = c.words_at-2.ensures (inner-spot h n two) in
    let x = sym (c.is_apply.ensures (second-spot h n two js)) ∙ c.if-is_apply.true in
    in_short h n two js x _ c.if-list-lt3.true

pub overflow_add-second-then-is_apply : goal.overflow_add-second-then-is_apply
overflow_add-second-then-is_apply c =
    let h = c.requires.listed in
    let n = node-list c.args.tree.now (c.args.at + 3) c.list_at.ensures c.in-Some.is in
    let two = c.if-list-lt2.false in
    let js = c.words_at-2.ensures (inner-spot h n two) in
    let x = sym (c.is_apply.ensures (second-spot h n two js)) ∙ c.if-is_apply.true in
    omega (arith, two-there (third-spot h n two js x c.if-list-lt3.false))

pub sort_at-requires : goal.sort_at-requires
sort_at-requires c =
    let h = c.requires.listed in
    let n = node-list c.args.tree.now (c.args.at + 3) c.list_at.ensures c.in-Some.is in
    let two = c.if-list-lt2.false in
    let js = c.words_at-2.ensures (inner-spot h n two) in
    let x = sym (c.is_apply.ensures (second-spot h n two js)) ∙ c.if-is_apply.true in
    let three = c.if-list-lt3.false in
    let small = third-small h n two js x three (λ i. (c.shared_slice_known-2-1.given i).fits) in
    (small, omega (arith, ap-room h, c.put3-v.ensures.is))

pub returns-in_err-u : goal.returns-in_err-u
returns-in_err-u c t us h =
    let n = node-list c.args.tree.now (c.args.at + 3) c.list_at.ensures c.in-Some.is in
    let two = c.if-list-lt2.false in
    let js = c.words_at-2.ensures (inner-spot h n two) in
    let x = sym (c.is_apply.ensures (second-spot h n two js)) ∙ c.if-is_apply.true in
    let three = c.if-list-lt3.false in
    let small = third-small h n two js x three (λ i. (c.shared_slice_known-2-1.given i).fits) in
    let p = err_from_is_err_and c.from_residual.result c.from_residual.ensures.1 in
    rw (p.1, p.2) (in_bad h n two js x three _ (bad-at (c.sort_at.ensures small) c.in_err-u.was))

pub overflow_sub-result : goal.overflow_sub-result
overflow_sub-result c = omega (arith, ap-many c.requires.listed)

pub returns-then-is_apply : goal.returns-then-is_apply
returns-then-is_apply c t us h =
    let n = node-list c.args.tree.now (c.args.at + 3) c.list_at.ensures c.in-Some.is in
    let two = c.if-list-lt2.false in
    let js = c.words_at-2.ensures (inner-spot h n two) in
    let x = sym (c.is_apply.ensures (second-spot h n two js)) ∙ c.if-is_apply.true in
    let three = c.if-list-lt3.false in
    let small = third-small h n two js x three (λ i. (c.shared_slice_known-2-1.given i).fits) in
    in_apply h n two js x three _ c.put3-v.ensures (got-at (c.sort_at.ensures small) c.in_ok-u.was) (c.words_at.ensures (head-spot h)) refl

pub overflow_sub-n : goal.overflow_sub-n
overflow_sub-n c = omega (arith, ap-many c.requires.listed)

pub overflow_sub-result-2 : goal.overflow_sub-result-2
overflow_sub-result-2 c = omega (arith, ap-many c.requires.listed)

pub overflow_sub-result-3 : goal.overflow_sub-result-3
overflow_sub-result-3 c = omega (arith, ap-many c.requires.listed)

pub returns : goal.returns
returns c t us h =
    let n = node-list c.args.tree.now (c.args.at + 3) c.list_at.ensures c.in-Some.is in
    let two = c.if-list-lt2.false in
    let js = c.words_at-2.ensures (inner-spot h n two) in
    let x = sym (c.is_apply.ensures (second-spot h n two js)) ∙ c.if-is_apply.false in
    in_call h n two _ x c.put3-v-2.ensures (c.words_at.ensures (head-spot h)) refl refl
