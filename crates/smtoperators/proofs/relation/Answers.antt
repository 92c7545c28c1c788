use mathlib.Core.Path.{◌≡◌}
use native.Mathlib.Omega.{arith}
use Rattle.smt.specs.Vocabulary.{relations}
use Rattle.smtoperators.proofs.Spelled.{spelled_as}
use Rattle.smtoperators.proofs.relation.Goals as goal

-- src/operators.rt:24:1
pub returns-in-0 : goal.returns-in-0
unfolding relations
returns-in-0 c h = spelled_as relations 0 c.in-0.is c.bytes.ensures

-- src/operators.rt:24:1
pub returns-in-1 : goal.returns-in-1
unfolding relations
returns-in-1 c h = spelled_as relations 1 c.in-1.is c.bytes-in-1.ensures

-- src/operators.rt:24:1
pub returns-in-2 : goal.returns-in-2
unfolding relations
returns-in-2 c h = spelled_as relations 2 c.in-2.is c.bytes-in-2.ensures

-- src/operators.rt:24:1
pub returns-in-3 : goal.returns-in-3
unfolding relations
returns-in-3 c h = spelled_as relations 3 c.in-3.is c.bytes-in-3.ensures

-- src/operators.rt:24:1
pub returns-in-4 : goal.returns-in-4
unfolding relations
returns-in-4 c h = spelled_as relations 4 c.in-4.is c.bytes-in-4.ensures

-- src/operators.rt:24:1
pub returns-in_default : goal.returns-in_default
unfolding relations
returns-in_default c h =
    let e : c.args.r ≡ 5 = omega (arith, h, c.in_default.in_default-own.rest) in
    spelled_as relations 5 e c.bytes-in_default.ensures
