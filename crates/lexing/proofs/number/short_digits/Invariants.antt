use mathlib.Core.Path.{◌≡◌}
use lib.ListN.{drop}
use Rattle.reading.specs.Number.{digits}
use Rattle.lexing.proofs.Lexing.Digits.{digits_from}
use Rattle.lexing.proofs.number.short_digits.Given as goal

abbrev pub invariant-loop-b : goal.invariant-loop-b
invariant-loop-b l = digits l.base l.t ≡ digits_from l.base l.v (drop l.b-index l.t)
