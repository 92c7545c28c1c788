use Prim.Native.Nat.{◌≤◌, min}
use mathlib.Core.Path.{◌≡◌}
use lib.ListN.{drop}
use Rattle.recorded.specs.Numbers.{number_from, most}
use Rattle.recorded.proofs.numbers.decimal.Given as goal

abbrev pub invariant-loop-i : goal.invariant-loop-i
invariant-loop-i l = (l.value ≤ most) × (min most (number_from 10 0 (drop l.at l.lines)) ≡ min most (number_from 10 l.value (drop l.i l.lines)))
