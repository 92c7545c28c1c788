use Rattle.std.proofs.Common.{refl, arith, rules}
use Rattle.std.proofs.lemmas.Result.{err_from_is_err_and}
use Rattle.places.proofs.Spots.{spot-within}
use Rattle.plans.proofs.BinderPairs.{numbering_start, numbering_end, numbering_bad, numbering_refused, numbering_more, binder-spot, binder-room, sort-small, sort-within}
use Rattle.plans.proofs.binders.binder_words.Goals as goal

pub loop-i-init : goal.loop-i-init
loop-i-init c = (refl, λ h. numbering_start)

pub is_pair-requires : goal.is_pair-requires
is_pair-requires c = binder-spot (c.loop-i.invariant.1 c.requires) c.loop-i-test.true

pub returns-then-not-is_pair : goal.returns-then-not-is_pair
returns-then-not-is_pair c h =
    let g = c.loop-i.invariant.1 h in
    let l = c.loop-i-test.true in
    numbering_bad g l (c.is_pair.ensures (binder-spot g l)) (c.if-not-is_pair.true)

pub put2-u-requires : goal.put2-u-requires
put2-u-requires c =
    let g = c.loop-i.invariant.1 c.requires in
    let l = c.loop-i-test.true in
    let x = c.is_pair.ensures (binder-spot g l) in
    let e = c.if-not-is_pair.false in
    omega (arith, binder-room g l x e)

pub overflow_add-p : goal.overflow_add-p
overflow_add-p c =
    let g = c.loop-i.invariant.1 c.requires in
    let l = c.loop-i-test.true in
    let x = c.is_pair.ensures (binder-spot g l) in
    let e = c.if-not-is_pair.false in
    omega (arith, sort-within g l x e)

pub sort_at-requires : goal.sort_at-requires
sort_at-requires c =
    let g = c.loop-i.invariant.1 c.requires in
    let l = c.loop-i-test.true in
    let x = c.is_pair.ensures (binder-spot g l) in
    let e = c.if-not-is_pair.false in
    (sort-small g l x e, omega (arith, binder-room g l x e, c.put2-u.ensures.is))

pub returns-in_err-v : goal.returns-in_err-v
returns-in_err-v c h =
    let g = c.loop-i.invariant.1 h in
    let l = c.loop-i-test.true in
    let x = c.is_pair.ensures (binder-spot g l) in
    let e = c.if-not-is_pair.false in
    let p = err_from_is_err_and c.from_residual.result c.from_residual.ensures.1 in
    rw (p.1, p.2) (numbering_refused g l x e c.low.ensures c.high.ensures c.put2-u.ensures (c.sort_at.ensures (sort-small g l x e)) c.in_err-v.was)

pub words_at-p-requires : goal.words_at-p-requires
words_at-p-requires c = binder-spot (c.loop-i.invariant.1 c.requires) c.loop-i-test.true

pub overflow_add-p-in-loop-i : goal.overflow_add-p-in-loop-i
overflow_add-p-in-loop-i c =
    let p = binder-spot (c.loop-i.invariant.1 c.requires) c.loop-i-test.true in
    omega (arith, c.words_at-p.ensures p, spot-within p)

pub loop-i-preserved : goal.loop-i-preserved
loop-i-preserved c = (
  search (rules, c.loop-i.invariant.0),
  λ h.
      (let g = c.loop-i.invariant.1 h in
      let l = c.loop-i-test.true in
      let x = c.is_pair.ensures (binder-spot g l) in
      let e = c.if-not-is_pair.false in
      numbering_more g l x e c.low.ensures c.high.ensures c.put2-u.ensures (c.sort_at.ensures (sort-small g l x e)) c.in_ok-v.was refl (c.words_at-p.ensures (binder-spot g l))),
)

pub returns : goal.returns
returns c h = numbering_end (c.loop-i.invariant.1 h) (omega arith)
