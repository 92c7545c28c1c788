use native.Mathlib.Omega.{arith}
use Rattle.reading.specs.Bytes.{starts_with}
use Rattle.reading.proofs.Bytes.{before_stop, before_more, starts-yes, starts-no}
use Rattle.lexing.proofs.byte.find.Goals as goal

pub returns-then-text-i : goal.returns-then-text-i
returns-then-text-i c =
    let a = c.args in
    (omega (arith, before_stop (starts_with a.byte) a.text.now c.loop-i.i (omega arith) (starts-yes a.text.now c.loop-i.i a.byte c.if-text-i.true)), omega arith)

pub loop-i-preserved : goal.loop-i-preserved
loop-i-preserved c =
    let a = c.args in
    omega (arith, before_more (starts_with a.byte) a.text.now c.loop-i.i (omega arith) (starts-no a.text.now c.loop-i.i a.byte c.if-text-i.false))
