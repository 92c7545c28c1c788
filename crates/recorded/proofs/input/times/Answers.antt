use mathlib.Core.Path.{sym, ◌∙◌}
use native.Mathlib.Omega.{arith}
use Rattle.recorded.proofs.Places.{byte_inside}
use Rattle.recorded.proofs.Parts.{times_star, times-once}
use Rattle.recorded.proofs.input.times.Goals as goal

pub overflow_add-end : goal.overflow_add-end
overflow_add-end c = omega (arith, byte_inside c.args.lines.now c.end_from-end.result (sym c.byte_at.ensures ∙ c.if-byte_at-eq42.true) (λ z. omega arith))

pub returns-then-byte_at-eq42 : goal.returns-then-byte_at-eq42
returns-then-byte_at-eq42 c = c.decimal.ensures ∙ times_star c.args.lines.now c.args.at c.end_from-end.ensures (sym c.byte_at.ensures ∙ c.if-byte_at-eq42.true)

pub returns-else-byte_at-eq42 : goal.returns-else-byte_at-eq42
returns-else-byte_at-eq42 c = times-once c.args.lines.now c.args.at c.end_from-end.ensures (λ z. c.if-byte_at-eq42.false (c.byte_at.ensures ∙ z))
