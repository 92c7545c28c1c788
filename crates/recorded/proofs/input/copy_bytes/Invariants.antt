use Prim.Native.Nat.{◌-◌, ◌≤◌}
use lib.ListN.{length, drop}
use Rattle.recorded.specs.Numbers.{most}
use Rattle.recorded.specs.Spelled.{bytes_once}
use Rattle.recorded.proofs.Storing.{Left}
use Rattle.recorded.proofs.input.copy_bytes.Given as goal

abbrev pub invariant-loop-i : goal.invariant-loop-i
invariant-loop-i l = (l.len ≤ most) × Left l.initial.text l.n (bytes_once (drop l.at l.lines)) l.text l.len (bytes_once (drop l.i l.lines))

abbrev pub decreases-loop-i : goal.decreases-loop-i
decreases-loop-i l = length l.lines - l.i
