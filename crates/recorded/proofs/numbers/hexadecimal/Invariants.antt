use Prim.Native.Nat.{◌-◌, ◌^◌, ◌≤◌, min}
use mathlib.Core.Path.{◌≡◌}
use lib.ListN.{drop}
use Rattle.recorded.specs.Numbers.{number_from}
use Rattle.recorded.proofs.numbers.hexadecimal.Given as goal

abbrev pub invariant-loop-i : goal.invariant-loop-i
invariant-loop-i l = (l.value ≤ (2 ^ 32 - 1)) × (min (2 ^ 32 - 1) (number_from 16 0 (drop l.at l.lines)) ≡ min (2 ^ 32 - 1) (number_from 16 l.value (drop l.i l.lines)))
