use mathlib.Core.Path.{◌≡◌}
use lib.ListN.{drop}
use Rattle.reading.specs.Utf8.{first, well_formed}
use Rattle.lexing.proofs.utf8.ascii_end.Given as goal

abbrev pub invariant-loop-i : goal.invariant-loop-i
invariant-loop-i l = well_formed first (drop l.from l.text) ≡ well_formed first (drop l.i l.text)
