use mathlib.Core.Path.{refl}
use Rattle.places.proofs.Puts.{puts_2}
use Rattle.places.proofs.expr_words.put2.Goals as goal

pub returns : goal.returns
returns c = record { is = refl; words = puts_2 _ _ _ _ c.put.ensures c.put-2.ensures }
