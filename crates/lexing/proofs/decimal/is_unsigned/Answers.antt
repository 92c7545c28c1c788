use Prim.Native.Nat.{ℕ}
use mathlib.Core.Path.{ap, ◌∙◌}
use lib.ListN.{drop}
use Rattle.reading.specs.Decimal.{is_fraction, is_unsigned_decimal}
use Rattle.lexing.proofs.decimal.is_unsigned.Goals as goal

pub returns : goal.returns
unfolding is_unsigned_decimal
returns c = c.is_fraction.ensures ∙ ap (λ (n : ℕ). is_fraction n (drop n c.args.t.now)) c.leading_digits-n.ensures.0
