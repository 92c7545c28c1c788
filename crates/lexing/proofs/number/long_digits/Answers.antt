use Prim.Native.Nat.{◌^◌}
use mathlib.Core.Path.{refl, sym, ap, ◌∙◌}
use native.Mathlib.Omega.{arith}
use Rattle.reading.specs.Number.{value_of, below}
use Rattle.words.specs.Quads.{as_wide}
use Rattle.lexing.specs.Quads.{as_mag}
use Rattle.lexing.proofs.Lexing.Digits.{digits-none, digits-some, from_end, from_bad, from_more, from_over, digit_range}
use Rattle.lexing.proofs.Lexing.Limbs.{four_zero, grown-value, grown-over}
use Rattle.lexing.proofs.Lexing.Mags.{mag_none, mag_is}
use Rattle.lexing.proofs.number.long_digits.Goals as goal

pub returns-then-t-eq0 : goal.returns-then-t-eq0
returns-then-t-eq0 c = mag_none _ (digits-none _ _ c.if-t-eq0.true)

pub loop-b-init : goal.loop-b-init
loop-b-init c =
    let z = four_zero _ c.from-q.ensures in
    (z.0, rw z.1 (ap (below (2 ^ 128)) (digits-some _ _ c.if-t-eq0.false)))

pub returns-then-not-is_digit : goal.returns-then-not-is_digit
returns-then-not-is_digit c = mag_none _ (from_bad c.args.t.now c.loop-b.b-index _ (value_of (as_wide c.loop-b.q)) c.loop-b-test.true _ refl (sym c.is_digit.ensures ∙ c.if-not-is_digit.true)) ∙ sym (ap as_mag c.loop-b.invariant.1)

pub overflow_sub-b : goal.overflow_sub-b
overflow_sub-b c = (digit_range c.args.base _ (sym c.is_digit.ensures ∙ c.if-not-is_digit.false)).0

pub grow-g-requires : goal.grow-g-requires
grow-g-requires c = omega (arith, c.from.ensures, digit_range c.args.base _ (sym c.is_digit.ensures ∙ c.if-not-is_digit.false))

pub returns-then-g-ne0 : goal.returns-then-g-ne0
returns-then-g-ne0 c = sym (ap as_mag (c.loop-b.invariant.1 ∙ ap (below (2 ^ 128)) (from_more c.args.t.now c.loop-b.b-index _ (value_of (as_wide c.loop-b.q)) c.loop-b-test.true _ refl (sym c.is_digit.ensures ∙ c.if-not-is_digit.false)) ∙ from_over _ (2 ^ 128) _ _ (omega arith) (grown-over _ _ _ _ _ (rw c.from.ensures at c.grow-g.ensures) c.if-g-ne0.true)))

pub loop-b-preserved : goal.loop-b-preserved
loop-b-preserved c =
    let next = grown-value _ _ _ _ _ (rw c.from.ensures at c.grow-g.ensures) c.if-g-ne0.false in
    (c.grow-g.ensures.fit, rw next (c.loop-b.invariant.1 ∙ ap (below (2 ^ 128)) (from_more c.args.t.now c.loop-b.b-index _ (value_of (as_wide c.loop-b.q)) c.loop-b-test.true _ refl (sym c.is_digit.ensures ∙ c.if-not-is_digit.false))))

pub returns : goal.returns
returns c = mag_is _ _ c.loop-b.invariant.0 (from_end c.args.t.now c.loop-b.b-index _ (value_of (as_wide c.loop-b.q)) c.loop-b-test.false) ∙ sym (ap as_mag c.loop-b.invariant.1)
