use mathlib.Core.Path.{sym, ◌∙◌}
use Rattle.writing.proofs.Quads.{digit_low}
use Rattle.writing.proofs.one_digit.Goals as goal

pub returns-then-one_word : goal.returns-then-one_word
returns-then-one_word c = digit_low _ (sym c.one_word.ensures ∙ c.if-one_word.true)
