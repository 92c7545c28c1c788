use Rattle.places.proofs.Puts.{put_append}
use mathlib.Core.List.{[], ◌∷◌}
use Rattle.binds.proofs.preds.put_kvar.Goals as goal

pub returns : goal.returns
returns c = put_append (64 ∷ c.args.name.start ∷ c.args.name.len ∷ []) (c.args.n ∷ []) c.put3-v.ensures c.put1.ensures
