use mathlib.Core.Path.{◌≡◌}
use lib.ListN.{drop}
use Rattle.reading.specs.Utf8.{inside, well_formed}
use Rattle.lexing.proofs.utf8.rest.Given as goal

abbrev pub invariant-loop-i : goal.invariant-loop-i
invariant-loop-i l = well_formed (inside l.lo l.hi l.more) (drop l.from l.text) ≡ well_formed (inside l.low l.high l.left) (drop l.i l.text)
