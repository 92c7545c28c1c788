use mathlib.Core.Bool.{not}
use mathlib.Core.Path.{refl, sym, ap, ◌∙◌}
use native.Mathlib.Omega.{arith}
use Rattle.reading.specs.Decimal.{no_digit}
use Rattle.reading.proofs.Bytes.{before_stop, before_more, before-end}
use Rattle.lexing.proofs.Lexing.Decimals.{no_digit_lem}
use Rattle.lexing.proofs.decimal.leading_digits.Goals as goal

pub returns-then-not-is_digit : goal.returns-then-not-is_digit
returns-then-not-is_digit c = (omega (arith, before_stop no_digit c.args.t.now c.loop-i.i (omega arith) (ap not (sym c.if-not-is_digit.true ∙ c.is_digit.ensures) ∙ no_digit_lem _ c.loop-i.i _ refl)), omega arith)

pub loop-i-preserved : goal.loop-i-preserved
loop-i-preserved c = omega (arith, before_more no_digit c.args.t.now c.loop-i.i (omega arith) (ap not (sym c.if-not-is_digit.false ∙ c.is_digit.ensures) ∙ no_digit_lem _ c.loop-i.i _ refl))

pub returns : goal.returns
returns c = (omega (arith, before-end no_digit c.args.t.now c.loop-i.i (omega arith)), omega arith)
