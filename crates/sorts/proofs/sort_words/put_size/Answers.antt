use mathlib.Core.Path.{refl}
use mathlib.Core.List.{[], ◌∷◌}
use Rattle.sorts.proofs.Lend.{over-stored}
use Rattle.sorts.proofs.sort_words.put_size.Goals as goal

pub returns : goal.returns
returns c = (refl, rw (c.put-2.ensures, c.put.ensures) (over-stored (_ ∷ _ ∷ []) _))
