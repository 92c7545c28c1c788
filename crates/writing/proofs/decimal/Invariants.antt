use Prim.Native.Nat.{◌-◌}
use Rattle.reading.specs.Number.{value_of}
use Rattle.words.specs.Quads.{as_wide}
use Rattle.writing.proofs.Pieces.{Ended}
use Rattle.writing.proofs.decimal.Given as goal

abbrev pub invariant-loop-i : goal.invariant-loop-i
invariant-loop-i l = Ended (value_of (as_wide l.initial.rest)) l.initial.out l.place l.out (value_of (as_wide l.rest)) (l.i - 1)
