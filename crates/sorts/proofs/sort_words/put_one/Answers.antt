use mathlib.Core.Path.{refl, ◌∙◌}
use mathlib.Core.List.{[], ◌∷◌}
use Rattle.sorts.proofs.Lend.{over-stored}
use Rattle.sorts.proofs.sort_words.put_one.Goals as goal

pub returns : goal.returns
returns c = (refl, c.put.ensures ∙ over-stored (_ ∷ []) _)
