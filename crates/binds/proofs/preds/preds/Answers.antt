use mathlib.Core.Path.{refl}
use Rattle.std.proofs.lemmas.Result.{err_from_is_err_and}
use native.Mathlib.Omega.{arith}
use borrow.Author.Rules.{rules}
use Rattle.places.proofs.Spots.{spot-within}
use Rattle.binds.proofs.PredLoop.{reading-start, reading-end, reading-refused, reading-more, reading-less, many-fits, pred-here}
use Rattle.binds.proofs.preds.preds.Goals as goal

pub overflow_add-end : goal.overflow_add-end
overflow_add-end c = omega (arith, c.words_at.ensures c.requires.spot, spot-within c.requires.spot)

pub loop-p-init : goal.loop-p-init
loop-p-init c = (refl, omega arith, λ h. reading-start (c.words_at.ensures h.spot) refl)

pub pred-requires : goal.pred-requires
pred-requires c = (pred-here (c.loop-p.invariant.2 c.requires) c.loop-p-test.true, omega (arith, c.loop-p.invariant.1))

pub returns-in_err-step : goal.returns-in_err-step
returns-in_err-step c h = let p = err_from_is_err_and c.from_residual.result c.from_residual.ensures.1 in
    rw (p.1, p.2) (reading-refused (c.loop-p.invariant.2 h) c.loop-p-test.true (c.in_err-step.ensures (pred-here (c.loop-p.invariant.2 h) c.loop-p-test.true)))

pub overflow_add-n : goal.overflow_add-n
overflow_add-n c = omega (arith, many-fits (c.loop-p.invariant.2 c.requires) c.loop-p-test.true (c.in_ok-step.ensures (pred-here (c.loop-p.invariant.2 c.requires) c.loop-p-test.true)))

pub loop-p-smaller : goal.loop-p-smaller
loop-p-smaller c = reading-less (c.loop-p.invariant.2 c.requires) c.loop-p-test.true (c.in_ok-step.ensures (pred-here (c.loop-p.invariant.2 c.requires) c.loop-p-test.true))

pub loop-p-preserved : goal.loop-p-preserved
loop-p-preserved c = (search (rules, c.loop-p.invariant.0), omega (arith, c.loop-p.invariant.1, c.pred.auto.scopes), λ h. reading-more (c.loop-p.invariant.2 h) c.loop-p-test.true (c.in_ok-step.ensures (pred-here (c.loop-p.invariant.2 h) c.loop-p-test.true)))

pub returns : goal.returns
returns c h = reading-end (c.loop-p.invariant.2 h) c.loop-p-test.false c.put.ensures
