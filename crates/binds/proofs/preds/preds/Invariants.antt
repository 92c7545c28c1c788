use Rattle.scopes.specs.Scopes.{slots}
use lib.ListN.{length}
use mathlib.Core.Path.{◌≡◌}
use Prim.Native.Nat.{◌-◌, ◌+◌}
use Rattle.binds.specs.PredWords.{PredHere}
use Rattle.binds.proofs.PredLoop.{Reading}
use Rattle.binds.proofs.preds.preds.Given as goal

abbrev pub invariant-loop-p : goal.invariant-loop-p
invariant-loop-p l = (length l.out ≡ length l.initial.out) × (length l.scopes ≡ slots) × ((h : PredHere l.text l.tree l.at (l.w + 1) 0) → Reading l.text l.count l.tree l.at l.w l.end h l.initial.out l.out l.p l.v l.next l.n)

abbrev pub decreases-loop-p : goal.decreases-loop-p
decreases-loop-p l = l.end - l.p
