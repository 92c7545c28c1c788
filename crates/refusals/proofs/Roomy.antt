-- For every operation and text there is a call whose slices are long enough.
use Prim.Native.Nat.{ℕ, ◌*◌, ◌≤◌}
use mathlib.Core.List.{List}
use native.Mathlib.Omega.{arith}
use lib.ListN.{length, replicate, length-replicate}
use Rattle.session.specs.Session.{Op}
use Rattle.refusals.specs.Refusals.{per_byte, Roomy, roomy_call}

as_long : (n : ℕ) → n ≤ length {A = ℕ} (replicate n 0)
as_long n = omega (arith, length-replicate {A = ℕ} n 0)

pub roomy : (op : Op) (text : List ℕ) → Roomy (roomy_call op text)
roomy op text =
    record { tree = as_long ((per_byte op).tree * length text); draft = as_long ((per_byte op).draft * length text); out = as_long ((per_byte op).out * length text) }
