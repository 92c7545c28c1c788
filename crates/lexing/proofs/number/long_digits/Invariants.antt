use Prim.Native.Nat.{◌^◌}
use mathlib.Core.Path.{◌≡◌}
use lib.ListN.{drop}
use Rattle.reading.specs.Number.{value_of, digits, below}
use Rattle.words.specs.Quads.{as_wide}
use Rattle.lexing.specs.Quads.{Fit}
use Rattle.lexing.proofs.Lexing.Digits.{digits_from}
use Rattle.lexing.proofs.number.long_digits.Given as goal

abbrev pub invariant-loop-b : goal.invariant-loop-b
invariant-loop-b l = Fit (as_wide l.q) × (below (2 ^ 128) (digits l.base l.t) ≡ below (2 ^ 128) (digits_from l.base (value_of (as_wide l.q)) (drop l.b-index l.t)))
