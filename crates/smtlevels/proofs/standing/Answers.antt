use Prim.Native.Nat.{◌+◌, ◌-◌}
use mathlib.Core.Path.{◌≡◌, ◌∙◌}
use native.Mathlib.Omega.{arith}
use Rattle.smtlevels.proofs.Levels.{standing_on, standing_here, standing-none}
use Rattle.smtlevels.proofs.standing.Goals as goal

pub returns-then-bases-k-clause-lists : goal.returns-then-bases-k-clause-lists
returns-then-bases-k-clause-lists c = let z : c.loop-k.k - 1 + 1 ≡ c.loop-k.k = omega arith in rw z (standing_here _ _ _ c.loop-k-test.true c.if-bases-k.true ∙ c.loop-k.invariant)

pub loop-k-preserved : goal.loop-k-preserved
loop-k-preserved c = standing_on _ _ _ c.loop-k-test.true c.if-bases-k.false ∙ c.loop-k.invariant

pub returns-clause-lists : goal.returns-clause-lists
returns-clause-lists c = standing-none _ _ _ c.loop-k-test.false ∙ c.loop-k.invariant
