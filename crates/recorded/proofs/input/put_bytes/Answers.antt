use mathlib.Core.Path.{sym, ap, ◌∙◌}
use native.Mathlib.Omega.{arith}
use Rattle.recorded.specs.Fields.{ends}
use Rattle.recorded.specs.Spelled.{bytes_in, bytes_once}
use Rattle.recorded.proofs.Places.{ends-inside}
use Rattle.recorded.proofs.Parts.{part-last, part-more}
use Rattle.recorded.proofs.input.put_bytes.Goals as goal

pub returns-then-ends-ne2 : goal.returns-then-ends-ne2
unfolding bytes_in
returns-then-ends-ne2 c =
    part-last bytes_once c.args.lines.now c.loop-at.i c.end_from-end.ensures c.loop-at.invariant.1 (omega arith) (rw (← c.times.ensures) c.repeat_bytes-n.ensures.0) (rw (← c.times.ensures) c.repeat_bytes-n.ensures.1) (c.ends.ensures ∙ ap ends c.byte_at.ensures) c.if-ends-ne2.true

pub overflow_add-i : goal.overflow_add-i
overflow_add-i c = omega (arith, ends-inside c.args.lines.now c.end_from-end.result (sym (c.ends.ensures ∙ ap ends c.byte_at.ensures) ∙ c.if-ends-ne2.false))

pub loop-at-smaller : goal.loop-at-smaller
loop-at-smaller c = omega (arith, c.end_from-end.ensures, ends-inside c.args.lines.now c.end_from-end.result (sym (c.ends.ensures ∙ ap ends c.byte_at.ensures) ∙ c.if-ends-ne2.false))

pub loop-at-preserved : goal.loop-at-preserved
unfolding bytes_in
loop-at-preserved c =
    part-more bytes_once c.args.lines.now c.loop-at.i c.end_from-end.ensures c.loop-at.invariant.1 (omega arith) (rw (← c.times.ensures) c.repeat_bytes-n.ensures.0) (rw (← c.times.ensures) c.repeat_bytes-n.ensures.1) (c.ends.ensures ∙ ap ends c.byte_at.ensures) c.if-ends-ne2.false
