use Prim.Native.Nat.{◌+◌}
use mathlib.Core.Path.{◌≡◌}
use lib.ListN.{drop}
use Rattle.reading.specs.Bytes.{before}
use Rattle.reading.specs.Decimal.{no_digit}
use Rattle.lexing.proofs.decimal.leading_digits.Given as goal

abbrev pub invariant-loop-i : goal.invariant-loop-i
invariant-loop-i l = before no_digit l.t ≡ l.i + before no_digit (drop l.i l.t)
