use mathlib.Core.Path.{ap, ◌∙◌}
use Rattle.reading.specs.Decimal.{some_digits}
use Rattle.lexing.proofs.Lexing.Parts.{tail_at}
use Rattle.lexing.proofs.decimal.signed_digits.Goals as goal

pub returns : goal.returns
returns c = c.some_digits.ensures ∙ ap some_digits (tail_at c.args.t.now _ _ c.sign_bytes-k.ensures.0)
