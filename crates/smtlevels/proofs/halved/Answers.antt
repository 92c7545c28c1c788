use Prim.Native.Nat.{◌+◌}
use mathlib.Core.Path.{◌≡◌, ap, ◌∙◌}
use native.Mathlib.Omega.{arith}
use lib.ListN.{get_or}
use Rattle.smtlevels.specs.Levels.{half}
use Rattle.smtlevels.proofs.Levels.{moved_none, moved-one, moved-known}
use Rattle.smtlevels.proofs.halved.Goals as goal

pub loop-i-init : goal.loop-i-init
loop-i-init c = moved_none _

pub loop-i-preserved : goal.loop-i-preserved
loop-i-preserved c = moved-one _ c.loop-i.bases c.loop-i.i (omega (arith, c.requires.0, c.loop-i.invariant.long)) c.loop-i.invariant

pub returns-clause-lists : goal.returns-clause-lists
returns-clause-lists c cs o =
    let n : c.args.known ≡ half + half = omega (arith, c.requires.1, c.if-known-lt-MAX_LISTS.false) in
    let e : c.loop-i.i ≡ half = omega (arith, c.loop-i-test.false) in
    moved-known _ _ half _ cs (λ j h. c.loop-i.invariant.front j (omega (arith, e, h)) ∙ ap (λ k. get_or c.args.bases.now k 0) (omega arith)) n (omega arith) o
