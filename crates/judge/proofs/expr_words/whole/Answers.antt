use mathlib.Core.Path.{refl}
use Rattle.reading.proofs.Picks.{pick_eq, pick_ne}
use Rattle.judge.proofs.expr_words.whole.Goals as goal

pub returns-then-end-words : goal.returns-then-end-words
returns-then-end-words c = pick_eq _ c.if-end-words.true refl

pub returns : goal.returns
returns c = pick_ne _ c.if-end-words.false refl
