use mathlib.Core.Path.{refl, ap, ◌∙◌}
use native.Mathlib.Omega.{arith}
use Rattle.writing.specs.Digits.{decimal}
use Rattle.writing.proofs.Wrote.{wrote_as}
use Rattle.writing.proofs.Quads.{word_value}
use Rattle.writing.proofs.decimal_word.Goals as goal

pub returns : goal.returns
returns c = wrote_as (ap decimal (word_value _ _ (omega arith) c.from-2.ensures ∙ c.from.ensures)) refl c.decimal.ensures
