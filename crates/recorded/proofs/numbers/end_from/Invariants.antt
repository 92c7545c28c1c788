use Prim.Native.Nat.{◌+◌, ◌≤◌, max}
use mathlib.Core.Path.{◌≡◌}
use lib.ListN.{length, drop}
use Rattle.recorded.specs.Fields.{up_to}
use Rattle.recorded.proofs.numbers.end_from.Given as goal

abbrev pub invariant-loop-i : goal.invariant-loop-i
invariant-loop-i l = (l.i ≤ max l.at (length l.lines)) × (l.at + up_to l.k (drop l.at l.lines) ≡ l.i + up_to l.k (drop l.i l.lines))
