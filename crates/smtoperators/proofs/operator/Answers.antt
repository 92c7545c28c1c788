use mathlib.Core.Path.{◌≡◌}
use native.Mathlib.Omega.{arith}
use Rattle.smt.specs.Vocabulary.{operators}
use Rattle.smtoperators.proofs.Spelled.{spelled_as}
use Rattle.smtoperators.proofs.operator.Goals as goal

-- src/operators.rt:11:1
pub returns-in-0 : goal.returns-in-0
unfolding operators
returns-in-0 c h = spelled_as operators 0 c.in-0.is c.bytes.ensures

-- src/operators.rt:11:1
pub returns-in-1 : goal.returns-in-1
unfolding operators
returns-in-1 c h = spelled_as operators 1 c.in-1.is c.bytes-in-1.ensures

-- src/operators.rt:11:1
pub returns-in-2 : goal.returns-in-2
unfolding operators
returns-in-2 c h = spelled_as operators 2 c.in-2.is c.bytes-in-2.ensures

-- src/operators.rt:11:1
pub returns-in-3 : goal.returns-in-3
unfolding operators
returns-in-3 c h = spelled_as operators 3 c.in-3.is c.bytes-in-3.ensures

-- src/operators.rt:11:1
pub returns-in_default : goal.returns-in_default
unfolding operators
returns-in_default c h =
    let e : c.args.op ≡ 4 = omega (arith, h, c.in_default.in_default-own.rest) in
    spelled_as operators 4 e c.bytes-in_default.ensures
