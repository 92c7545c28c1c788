use Prim.Native.Nat.{◌≤◌, ◌+◌}
use mathlib.Core.Path.{◌≡◌}
use lib.ListN.{length, drop, get_or}
use Rattle.reading.specs.Bytes.{same_bytes}
use Rattle.lexing.proofs.byte.same.Given as goal

abbrev pub invariant-loop-i : goal.invariant-loop-i
invariant-loop-i l = (l.last + 1 ≡ length l.a) × (length l.a ≡ length l.b) × (get_or l.a l.last 0 ≡ get_or l.b l.last 0) × (l.i ≤ l.last) × (same_bytes l.a l.b ≡ same_bytes (drop l.i l.a) (drop l.i l.b))
