use Prim.Native.Nat.{◌+◌}
use mathlib.Core.Path.{◌≡◌}
use lib.ListN.{drop}
use Rattle.reading.specs.Bytes.{before, starts_with}
use Rattle.lexing.proofs.byte.find.Given as goal

abbrev pub invariant-loop-i : goal.invariant-loop-i
invariant-loop-i l = l.from + before (starts_with l.byte) (drop l.from l.text) ≡ l.i + before (starts_with l.byte) (drop l.i l.text)
