use native.Mathlib.Nat.{le_of_lt}
use native.Mathlib.Omega.{arith}
use Rattle.words.specs.Quads.{as_wide}
use Rattle.lexing.proofs.Lexing.Signs.{value-under, value-lowest, value-past, negative_in, negative_out}
use Rattle.lexing.proofs.integer.negative.Goals as goal
use Rattle.lexing.proofs.integer.negative.Goals.{then-q-via-then-q, then-q-via-else-q+then-eq}

pub returns-then-q : goal.returns-then-q
returns-then-q c =
    negative_in _ _ (omega arith)
    (elim c.then-q.branch [
      | then-q-via-then-q w ↦ le_of_lt (value-under _ (omega arith) w.if-q.true)
      | then-q-via-else-q+then-eq w ↦ value-lowest (as_wide c.args.q) w.eq.ensures w.if-eq.true
    ])
    c.negate.ensures

pub returns : goal.returns
returns c = negative_out _ (value-past (as_wide c.args.q) c.eq.ensures c.if-eq.false c.if-q.false)
