use mathlib.Core.List.{[], ◌∷◌}
use native.Mathlib.Omega.{arith}
use Rattle.places.proofs.Puts.{put_append}
use Rattle.places.proofs.expr_words.put_wide.Goals as goal

pub put2-requires : goal.put2-requires
put2-requires c = omega (arith, c.requires, c.put3-v.ensures.is)

pub returns : goal.returns
returns c = put_append (_ ∷ _ ∷ _ ∷ []) (_ ∷ _ ∷ []) c.put3-v.ensures c.put2.ensures
