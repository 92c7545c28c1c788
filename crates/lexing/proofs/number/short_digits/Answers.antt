use mathlib.Core.Path.{refl, sym, ◌∙◌}
use native.Mathlib.Omega.{arith}
use Rattle.lexing.proofs.Lexing.Digits.{digits-none, digits-some, from_end, from_bad, from_more, digit_range, base_times}
use Rattle.lexing.proofs.number.short_digits.Goals as goal

pub returns-then-t-eq0 : goal.returns-then-t-eq0
returns-then-t-eq0 c = digits-none _ _ c.if-t-eq0.true

pub loop-b-init : goal.loop-b-init
loop-b-init c = digits-some _ _ c.if-t-eq0.false

pub returns-then-not-is_digit : goal.returns-then-not-is_digit
returns-then-not-is_digit c = c.loop-b.invariant ∙ from_bad _ c.loop-b.b-index _ c.loop-b.v c.loop-b-test.true _ refl (sym c.is_digit.ensures ∙ c.if-not-is_digit.true)

pub overflow_sub-b : goal.overflow_sub-b
overflow_sub-b c = (digit_range c.args.base _ (sym c.is_digit.ensures ∙ c.if-not-is_digit.false)).0

pub overflow_mul-v : goal.overflow_mul-v
overflow_mul-v c = omega (arith, base_times c.args.base c.loop-b.v (omega arith))

pub overflow_add-v : goal.overflow_add-v
overflow_add-v c = omega (arith, c.from.ensures, digit_range c.args.base _ (sym c.is_digit.ensures ∙ c.if-not-is_digit.false), base_times c.args.base c.loop-b.v (omega arith))

pub loop-b-preserved : goal.loop-b-preserved
loop-b-preserved c = rw c.from.ensures (c.loop-b.invariant ∙ from_more _ c.loop-b.b-index _ c.loop-b.v c.loop-b-test.true _ refl (sym c.is_digit.ensures ∙ c.if-not-is_digit.false))

pub returns : goal.returns
returns c = c.loop-b.invariant ∙ from_end _ c.loop-b.b-index _ c.loop-b.v c.loop-b-test.false
