use mathlib.Core.Path.{sym, ap, ◌∙◌}
use native.Mathlib.Omega.{arith}
use Rattle.recorded.specs.Fields.{ends}
use Rattle.recorded.specs.Spelled.{words_in, word_once}
use Rattle.recorded.proofs.Places.{ends-inside}
use Rattle.recorded.proofs.Parts.{part-last, part-more}
use Rattle.recorded.proofs.input.put_words.Goals as goal

pub returns-then-ends-ne2 : goal.returns-then-ends-ne2
unfolding words_in
returns-then-ends-ne2 c =
    part-last word_once c.args.lines.now c.loop-at.i c.end_from-end.ensures c.loop-at.invariant.1 (omega arith) c.put_part-n.ensures.0 c.put_part-n.ensures.1 (c.ends.ensures ∙ ap ends c.byte_at.ensures) c.if-ends-ne2.true

pub overflow_add-i : goal.overflow_add-i
overflow_add-i c = omega (arith, ends-inside c.args.lines.now c.end_from-end.result (sym (c.ends.ensures ∙ ap ends c.byte_at.ensures) ∙ c.if-ends-ne2.false))

pub loop-at-smaller : goal.loop-at-smaller
loop-at-smaller c = omega (arith, c.end_from-end.ensures, ends-inside c.args.lines.now c.end_from-end.result (sym (c.ends.ensures ∙ ap ends c.byte_at.ensures) ∙ c.if-ends-ne2.false))

pub loop-at-preserved : goal.loop-at-preserved
unfolding words_in
loop-at-preserved c =
    part-more word_once c.args.lines.now c.loop-at.i c.end_from-end.ensures c.loop-at.invariant.1 (omega arith) c.put_part-n.ensures.0 c.put_part-n.ensures.1 (c.ends.ensures ∙ ap ends c.byte_at.ensures) c.if-ends-ne2.false
