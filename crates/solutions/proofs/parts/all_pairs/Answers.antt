use native.Mathlib.Omega.{arith}
use Rattle.places.proofs.Spots.{spot-within}
use Rattle.solutions.proofs.ParamNames.{pairing_start, pairing_end, pairing_bad, pairing_more, pair-spot}
use Rattle.solutions.proofs.parts.all_pairs.Goals as goal

pub loop-init : goal.loop-init
loop-init c = λ h. pairing_start

pub is_pair-requires : goal.is_pair-requires
is_pair-requires c = pair-spot (c.loop.invariant c.requires) c.loop-test.true

pub returns-then-not-is_pair : goal.returns-then-not-is_pair
returns-then-not-is_pair c h =
    let g = c.loop.invariant h in
    let l = c.loop-test.true in
    pairing_bad g l (c.is_pair.ensures (pair-spot g l)) (c.if-not-is_pair.true)

pub words_at-p-requires : goal.words_at-p-requires
words_at-p-requires c = pair-spot (c.loop.invariant c.requires) c.loop-test.true

pub overflow_add-p : goal.overflow_add-p
overflow_add-p c = let p = pair-spot (c.loop.invariant c.requires) c.loop-test.true in omega (arith, c.words_at-p.ensures p, spot-within p)

pub loop-preserved : goal.loop-preserved
loop-preserved c =
    λ h.
    (let g = c.loop.invariant h in
    let l = c.loop-test.true in
    pairing_more g l (c.is_pair.ensures (pair-spot g l)) (c.if-not-is_pair.false) (c.words_at-p.ensures (pair-spot g l)))

pub returns : goal.returns
returns c h = pairing_end (c.loop.invariant h) c.loop-test.false
