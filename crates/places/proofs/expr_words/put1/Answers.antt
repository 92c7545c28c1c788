use mathlib.Core.Path.{refl}
use Rattle.writing.specs.Laid.{laid}
use Rattle.places.proofs.expr_words.put1.Goals as goal

pub returns : goal.returns
unfolding laid
returns c = record { is = refl; words = c.put.ensures }
