use mathlib.Core.Path.{refl}
use Rattle.places.proofs.Puts.{puts_3}
use Rattle.places.proofs.expr_words.put3.Goals as goal

pub returns : goal.returns
returns c = record { is = refl; words = puts_3 _ _ _ _ _ c.put.ensures c.put-2.ensures c.put-3.ensures }
