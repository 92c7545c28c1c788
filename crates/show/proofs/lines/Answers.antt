use native.Mathlib.Omega.{arith}
use Rattle.show.proofs.Going.{first_word, going_starts, going_more, going_ends, not-refused, line-room, last-room}
use Rattle.show.proofs.lines.Goals as goal

pub bounds-words-0 : goal.bounds-words-0
bounds-words-0 c = first_word _ _ c.requires

pub loop-init : goal.loop-init
loop-init c = going_starts _ _ (omega arith) (λ i h. (c.type_inv.words i).fits) c.requires c.refusal-at.ensures

pub line-at-requires : goal.line-at-requires
line-at-requires c = line-room c.loop.invariant (omega (arith, c.loop-test.true)) c.in-Ok.ensures

pub returns-in_default : goal.returns-in_default
returns-in_default c = not-refused c.loop.invariant (omega (arith, c.loop-test.true)) c.in_default.ensures

pub loop-preserved : goal.loop-preserved
loop-preserved c = going_more c.loop.invariant (omega (arith, c.loop-test.true)) c.in-Ok.ensures (omega (arith, c.loop-test.true)) c.line-at.ensures.0 c.line-at.ensures.1

pub line-requires : goal.line-requires
line-requires c = last-room c.loop.invariant

pub returns : goal.returns
returns c = going_ends c.loop.invariant _ c.refusal-at.auto.out c.refusal-at.ensures (omega (arith, c.loop-test.false)) c.line.ensures.0 c.line.ensures.1
