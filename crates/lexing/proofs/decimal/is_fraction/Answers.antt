use Prim.Native.Nat.{◌+◌}
use mathlib.Core.Path.{sym, ap, ◌∙◌}
use mathlib.Core.Bool.{not}
use native.Mathlib.Omega.{arith}
use borrow.Author.Tests.{eq-eqb}
use lib.Seq.{drop-drop}
use Rattle.reading.specs.Decimal.{leading_digits, is_exponent}
use Rattle.lexing.proofs.Lexing.Parts.{tail}
use Rattle.lexing.proofs.Lexing.Decimals.{fraction_end, fraction_alone, fraction_point, fraction_none, fraction_whole}
use Rattle.lexing.proofs.decimal.is_fraction.Goals as goal

pub returns-then-t-n : goal.returns-then-t-n
returns-then-t-n c = fraction_end _ _ c.if-t-n.true

pub returns-then-n-m-ne0 : goal.returns-then-n-m-ne0
returns-then-n-m-ne0 c =
    let t = c.args.t.now in
    let n = c.args.n in
    let m = c.leading_digits-m.result in
    fraction_point _ _ (omega arith) _ _ c.if-t-n-eq46.true (c.leading_digits-m.ensures.0 ∙ ap leading_digits (tail t (n + 1))) c.if-n-m-ne0.true
    (c.is_exponent.ensures ∙ ap is_exponent (tail t (n + 1 + m) ∙ sym (drop-drop m (n + 1) t)))

pub returns-else-n-m-ne0 : goal.returns-else-n-m-ne0
returns-else-n-m-ne0 c =
    ap not (eq-eqb _ 0 c.if-n-m-ne0.false)
    ∙ fraction_alone _ _ (omega arith) _ c.if-t-n-eq46.true (c.leading_digits-m.ensures.0 ∙ ap leading_digits (tail c.args.t.now (c.args.n + 1))) c.if-n-m-ne0.false

pub returns-then-n-ne0 : goal.returns-then-n-ne0
returns-then-n-ne0 c = fraction_whole _ _ (omega arith) _ c.if-t-n-eq46.false c.if-n-ne0.true (c.is_exponent-then-n-ne0.ensures ∙ ap is_exponent (tail c.args.t.now c.args.n))

pub returns-else-n-ne0 : goal.returns-else-n-ne0
returns-else-n-ne0 c = ap not (eq-eqb _ 0 c.if-n-ne0.false) ∙ fraction_none _ _ (omega arith) c.if-t-n-eq46.false c.if-n-ne0.false
