use mathlib.Core.Path.{ap, ◌∙◌}
use Rattle.reading.specs.Decimal.{is_unsigned_decimal, is_decimal}
use Rattle.lexing.proofs.Lexing.Parts.{tail_at}
use Rattle.lexing.proofs.decimal.is_decimal.Goals as goal

pub returns : goal.returns
unfolding is_decimal
returns c = c.is_unsigned.ensures ∙ ap is_unsigned_decimal (tail_at c.args.t.now _ _ c.sign_bytes-k.ensures.0)
