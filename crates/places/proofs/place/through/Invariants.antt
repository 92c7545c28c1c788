use Rattle.places.proofs.Spots.{Inwards}
use Rattle.places.specs.Spot.{Spot}
use lib.ListN.{length}
use Prim.Native.Nat.{◌-◌}
use Rattle.places.proofs.place.through.Given as goal

abbrev pub invariant-loop-p : goal.invariant-loop-p
invariant-loop-p l = (s : Spot l.tree l.at) → Inwards l.text l.tree l.at s l.p

abbrev pub decreases-loop-p : goal.decreases-loop-p
decreases-loop-p l = length l.tree - l.p
