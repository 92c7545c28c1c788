use Prim.Native.Nat.{◌-◌, ◌≤◌}
use lib.ListN.{drop}
use Rattle.recorded.specs.Numbers.{most}
use Rattle.recorded.specs.Spelled.{bytes_once, again}
use Rattle.recorded.proofs.Storing.{Left}
use Rattle.recorded.proofs.input.repeat_bytes.Given as goal

abbrev pub invariant-loop : goal.invariant-loop
invariant-loop l = (l.len ≤ most) × Left l.initial.text l.n (again l.times (bytes_once (drop l.at l.lines))) l.text l.len (again (l.times - l.counter) (bytes_once (drop l.at l.lines)))
