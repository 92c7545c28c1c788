use lib.ListN.{length}
use mathlib.Core.Path.{◌≡◌}
use Rattle.binds.specs.PredWords.{NameRow}
use Rattle.binds.proofs.PredNames.{Naming}
use Rattle.binds.proofs.preds.names.Given as goal

abbrev pub invariant-loop-i : goal.invariant-loop-i
invariant-loop-i l = (length l.out ≡ length l.initial.out) × ((h : NameRow l.tree l.at l.n l.w) → Naming l.text l.tree l.at l.n l.w h l.initial.out l.out l._i l.p l.v)
