use native.Mathlib.Omega.{arith}
use Rattle.grammar.specs.Names.{theory}
use Rattle.heads.proofs.ReadHead.{next}
use Rattle.smt.specs.Vocabulary.{bit_vectors}
use Rattle.smtfunctions.proofs.Numbered.{function-told, function-none}
use Rattle.smtfunctions.proofs.comparison.Goals as goal

-- src/callee.rt:30:1
pub returns-in-9 : goal.returns-in-9
unfolding bit_vectors theory
returns-in-9 c = function-told 9 c.in-9.is (omega arith) (omega arith) c.bytes.ensures

-- src/callee.rt:30:1
pub returns-in-10 : goal.returns-in-10
unfolding bit_vectors theory
returns-in-10 c = function-told 10 c.in-10.is (omega arith) (omega arith) c.bytes-in-10.ensures

-- src/callee.rt:30:1
pub returns-in-11 : goal.returns-in-11
unfolding bit_vectors theory
returns-in-11 c = function-told 11 c.in-11.is (omega arith) (omega arith) c.bytes-in-11.ensures

-- src/callee.rt:30:1
pub returns-in-12 : goal.returns-in-12
unfolding bit_vectors theory
returns-in-12 c = function-told 12 c.in-12.is (omega arith) (omega arith) c.bytes-in-12.ensures

-- src/callee.rt:30:1
pub returns-in-13 : goal.returns-in-13
unfolding bit_vectors theory
returns-in-13 c = function-told 13 c.in-13.is (omega arith) (omega arith) c.bytes-in-13.ensures

-- src/callee.rt:30:1
pub returns-in-14 : goal.returns-in-14
unfolding bit_vectors theory
returns-in-14 c = function-told 14 c.in-14.is (omega arith) (omega arith) c.bytes-in-14.ensures

-- src/callee.rt:30:1
pub returns-in-15 : goal.returns-in-15
unfolding bit_vectors theory
returns-in-15 c = function-told 15 c.in-15.is (omega arith) (omega arith) c.bytes-in-15.ensures

-- src/callee.rt:30:1
pub returns-in-16 : goal.returns-in-16
unfolding bit_vectors theory
returns-in-16 c = function-told 16 c.in-16.is (omega arith) (omega arith) c.bytes-in-16.ensures

-- src/callee.rt:30:1
pub returns-in_default : goal.returns-in_default
returns-in_default c =
    let r = c.in_default.in_default-own.rest in
    function-none _ λ low high. omega (arith, c.requires, next (next (next (next (next (next (next (next (low) r.0.0.0.0.0.0.0.1) r.0.0.0.0.0.0.1) r.0.0.0.0.0.1) r.0.0.0.0.1) r.0.0.0.1) r.0.0.1) r.0.1) r.1)
