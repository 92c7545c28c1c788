use mathlib.Core.Path.{◌≡◌}
use mathlib.Core.Bool.{◌&&◌}
use lib.ListN.{drop}
use Rattle.lexing.specs.Next.{all_ascii}
use Rattle.lexing.proofs.utf8.is_ascii.Given as goal

abbrev pub invariant-loop-b : goal.invariant-loop-b
invariant-loop-b l = all_ascii l.text ≡ (l.all && all_ascii (drop l.b-index l.text))
