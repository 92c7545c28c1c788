use Prim.Native.Nat.{◌≤◌}
use mathlib.Core.Path.{◌≡◌}
use lib.ListN.{length}
use Rattle.judging.specs.Judge.{sort_at}
use Rattle.judging.specs.Ends.{end_of}
use Rattle.sortwords.proofs.SortWalk.{walk}
use Rattle.sortwords.proofs.sort_end.Given as goal

abbrev pub invariant-loop-pending : goal.invariant-loop-pending
invariant-loop-pending l = (end_of (sort_at l.limit l.words l.at) ≡ walk l.limit l.words l.left l.pending l.a) × (l.left ≤ length l.words)

abbrev pub decreases-loop-pending : goal.decreases-loop-pending
decreases-loop-pending l = l.left
