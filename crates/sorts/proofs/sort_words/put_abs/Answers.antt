use mathlib.Core.Path.{refl}
use Rattle.reading.specs.Answer.{over}
use Rattle.sorts.specs.Rows.{abs_words}
use Rattle.sorts.proofs.RowWords.{abs_next}
use Rattle.sorts.proofs.sort_words.put_abs.Goals as goal

pub loop-i-init : goal.loop-i-init
unfolding abs_words over
loop-i-init c = refl

pub loop-i-preserved : goal.loop-i-preserved
loop-i-preserved c = let l = c.loop-i in abs_next l.i l.i _ _ _ _ refl l.invariant c.put.ensures c.put-in-loop-i.ensures
