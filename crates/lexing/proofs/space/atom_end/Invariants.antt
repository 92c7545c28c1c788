use Prim.Native.Nat.{◌+◌}
use mathlib.Core.Path.{◌≡◌}
use lib.ListN.{drop}
use Rattle.reading.specs.Bytes.{before}
use Rattle.reading.specs.Space.{ends_atom}
use Rattle.lexing.proofs.space.atom_end.Given as goal

abbrev pub invariant-loop-i : goal.invariant-loop-i
invariant-loop-i l = l.from + before ends_atom (drop l.from l.text) ≡ l.i + before ends_atom (drop l.i l.text)
