use mathlib.Core.Path.{sym, ◌∙◌}
use native.Mathlib.Omega.{arith}
use Rattle.reading.proofs.Bytes.{same_length, same-apart, same_more, same_differ, same_end, same-last}
use Rattle.lexing.proofs.byte.same.Goals as goal

pub returns-then-n-b : goal.returns-then-n-b
returns-then-n-b c = sym (same_length _ _ c.if-n-b.true)

pub returns-then-n-eq0 : goal.returns-then-n-eq0
returns-then-n-eq0 c = sym (same_end _ _ 0 (omega arith) (omega arith))

pub returns-then-a-last : goal.returns-then-a-last
returns-then-a-last c = sym (same-apart _ _ _ c.if-a-last.true)

pub returns-then-a-i : goal.returns-then-a-i
returns-then-a-i c =
    let v = c.loop-i.invariant in
    sym (v.4 ∙ same_differ _ _ c.loop-i.i (omega arith) (omega arith) c.if-a-i.true)

pub loop-i-preserved : goal.loop-i-preserved
loop-i-preserved c =
    let v = c.loop-i.invariant in
    (v.0, v.1, v.2, omega arith, v.4 ∙ same_more _ _ c.loop-i.i (omega arith) (omega arith) c.if-a-i.false)

pub returns : goal.returns
returns c =
    let v = c.loop-i.invariant in
    sym (v.4 ∙ same-last _ _ _ _ v.0 v.1 v.3 c.loop-i-test.false v.2)
