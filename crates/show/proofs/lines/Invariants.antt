use Prim.Native.Nat.{◌-◌}
use lib.ListN.{get_or}
use Rattle.show.proofs.Going.{Going}
use Rattle.show.proofs.lines.Given as goal

abbrev pub invariant-loop : goal.invariant-loop
invariant-loop l = Going l.words l.initial.out l.out l.from (get_or l.words 0 0 - l.counter) l.at
