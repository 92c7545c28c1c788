use mathlib.Core.Path.{ap, ◌∙◌}
use native.Mathlib.Omega.{arith}
use Rattle.std.specs.Prelude.{Some}
use Rattle.lexing.proofs.Lexing.Mags.{word_in, word_out}
use Rattle.lexing.proofs.number.low_words.Goals as goal

pub returns-then-q-ne0 : goal.returns-then-q-ne0
returns-then-q-ne0 c = word_out _ (omega (arith, c.then-q-ne0.either))

pub returns : goal.returns
returns c = ap Some c.words_to_long.ensures ∙ word_in _ (omega arith) c.if-q-ne0.false c.if-q-ne0-2.false
