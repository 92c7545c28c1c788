use native.Mathlib.Omega.{arith}
use Rattle.grammar.specs.Names.{theory}
use Rattle.heads.proofs.ReadHead.{next}
use Rattle.smt.specs.Vocabulary.{bit_vectors}
use Rattle.smtfunctions.proofs.Numbered.{function-told, function-none}
use Rattle.smtfunctions.proofs.arithmetic.Goals as goal

-- src/callee.rt:64:1
pub returns-in-23 : goal.returns-in-23
unfolding bit_vectors theory
returns-in-23 c = function-told 23 c.in-23.is (omega arith) (omega arith) c.bytes.ensures

-- src/callee.rt:64:1
pub returns-in-24 : goal.returns-in-24
unfolding bit_vectors theory
returns-in-24 c = function-told 24 c.in-24.is (omega arith) (omega arith) c.bytes-in-24.ensures

-- src/callee.rt:64:1
pub returns-in-25 : goal.returns-in-25
unfolding bit_vectors theory
returns-in-25 c = function-told 25 c.in-25.is (omega arith) (omega arith) c.bytes-in-25.ensures

-- src/callee.rt:64:1
pub returns-in-26 : goal.returns-in-26
unfolding bit_vectors theory
returns-in-26 c = function-told 26 c.in-26.is (omega arith) (omega arith) c.bytes-in-26.ensures

-- src/callee.rt:64:1
pub returns-in-27 : goal.returns-in-27
unfolding bit_vectors theory
returns-in-27 c = function-told 27 c.in-27.is (omega arith) (omega arith) c.bytes-in-27.ensures

-- src/callee.rt:64:1
pub returns-in-28 : goal.returns-in-28
unfolding bit_vectors theory
returns-in-28 c = function-told 28 c.in-28.is (omega arith) (omega arith) c.bytes-in-28.ensures

-- src/callee.rt:64:1
pub returns-in-29 : goal.returns-in-29
unfolding bit_vectors theory
returns-in-29 c = function-told 29 c.in-29.is (omega arith) (omega arith) c.bytes-in-29.ensures

-- src/callee.rt:64:1
pub returns-in-30 : goal.returns-in-30
unfolding bit_vectors theory
returns-in-30 c = function-told 30 c.in-30.is (omega arith) (omega arith) c.bytes-in-30.ensures

-- src/callee.rt:64:1
pub returns-in-31 : goal.returns-in-31
unfolding bit_vectors theory
returns-in-31 c = function-told 31 c.in-31.is (omega arith) (omega arith) c.bytes-in-31.ensures

-- src/callee.rt:64:1
pub returns-in_default : goal.returns-in_default
returns-in_default c =
    let r = c.in_default.in_default-own.rest in
    function-none _ λ low high. omega (arith, high, next (next (next (next (next (next (next (next (next c.requires r.0.0.0.0.0.0.0.0.1) r.0.0.0.0.0.0.0.1) r.0.0.0.0.0.0.1) r.0.0.0.0.0.1) r.0.0.0.0.1) r.0.0.0.1) r.0.0.1) r.0.1) r.1)
