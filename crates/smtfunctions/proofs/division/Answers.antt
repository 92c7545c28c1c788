use Prim.Native.Nat.{◌≤◌}
use native.Mathlib.Omega.{arith}
use Rattle.grammar.specs.Names.{theory}
use Rattle.heads.proofs.ReadHead.{next}
use Rattle.smt.specs.Vocabulary.{bit_vectors}
use Rattle.smtfunctions.proofs.Numbered.{function-told}
use Rattle.smtfunctions.proofs.division.Goals as goal

-- src/callee.rt:48:1
pub returns-in-17 : goal.returns-in-17
unfolding bit_vectors theory
returns-in-17 c = function-told 17 c.in-17.is (omega arith) (omega arith) c.bytes.ensures

-- src/callee.rt:48:1
pub returns-in-18 : goal.returns-in-18
unfolding bit_vectors theory
returns-in-18 c = function-told 18 c.in-18.is (omega arith) (omega arith) c.bytes-in-18.ensures

-- src/callee.rt:48:1
pub returns-in-19 : goal.returns-in-19
unfolding bit_vectors theory
returns-in-19 c = function-told 19 c.in-19.is (omega arith) (omega arith) c.bytes-in-19.ensures

-- src/callee.rt:48:1
pub returns-in-20 : goal.returns-in-20
unfolding bit_vectors theory
returns-in-20 c = function-told 20 c.in-20.is (omega arith) (omega arith) c.bytes-in-20.ensures

-- src/callee.rt:48:1
pub returns-in-21 : goal.returns-in-21
unfolding bit_vectors theory
returns-in-21 c = function-told 21 c.in-21.is (omega arith) (omega arith) c.bytes-in-21.ensures

-- src/callee.rt:48:1
pub returns-in_default : goal.returns-in_default
unfolding bit_vectors theory
returns-in_default c =
    let r = c.in_default.in_default-own.rest in
    let low : 22 ≤ c.args.k = next (next (next (next (next c.requires.le_k r.0.0.0.0.1) r.0.0.0.1) r.0.0.1) r.0.1) r.1 in
    function-told 22 (omega (arith, low, c.requires.k_bound)) (omega arith) (omega arith) c.bytes-in_default.ensures
