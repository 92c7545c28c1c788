use native.Mathlib.Omega.{arith}
use Rattle.lexing.proofs.Lexing.White.{char_one, char_two, char_three, char_four}
use Rattle.lexing.proofs.space.char_at.Goals as goal

pub returns-then-a-lt128 : goal.returns-then-a-lt128
returns-then-a-lt128 c = char_one _ c.args.at _ c.byte_at-a.ensures.0 c.if-a-lt128.true

pub returns-then-a-lt224 : goal.returns-then-a-lt224
returns-then-a-lt224 c = char_two _ c.args.at _ c.byte_at-a.ensures.0 _ c.byte_at-b.ensures.0 (omega arith) (omega arith)

pub returns-then-a-lt240 : goal.returns-then-a-lt240
returns-then-a-lt240 c = char_three _ c.args.at _ c.byte_at-a.ensures.0 _ _ c.byte_at-b.ensures.0 c.byte_at-c.ensures.0 (omega arith) (omega arith)

pub returns : goal.returns
returns c = char_four _ c.args.at _ c.byte_at-a.ensures.0 _ _ _ c.byte_at-b.ensures.0 c.byte_at-c.ensures.0 c.byte_at-d.ensures.0 (omega arith)
