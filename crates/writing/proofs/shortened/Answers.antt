use mathlib.Core.Path.{sym, ◌∙◌}
use native.Mathlib.Omega.{arith}
use Rattle.writing.proofs.Quads.{tenth_low, tenth_words, word_value}
use Rattle.writing.proofs.shortened.Goals as goal

pub returns-then-one_word : goal.returns-then-one_word
returns-then-one_word c = rw (word_value _ _ (omega arith) c.from-then-one_word.ensures, c.from.ensures) (tenth_low _ (sym c.one_word.ensures ∙ c.if-one_word.true))

pub returns : goal.returns
returns c = tenth_words _ _ _ _ _ _ c.divided-x.ensures.0 c.divided-y.ensures.0 c.divided-z.ensures.0 c.divided-w.ensures.0 c.divided-w.ensures.1
