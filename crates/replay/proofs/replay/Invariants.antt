use Rattle.replay.proofs.Tallying.{Tallying}
use lib.ListN.{length}
use Prim.Native.Nat.{◌-◌}
use Rattle.replay.proofs.replay.Given as goal

abbrev pub invariant-loop-at : goal.invariant-loop-at
invariant-loop-at l = Tallying l.lines l.at l.state

abbrev pub decreases-loop-at : goal.decreases-loop-at
decreases-loop-at l = length l.lines - l.at
