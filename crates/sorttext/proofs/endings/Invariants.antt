use Prim.Native.Nat.{ℕ, ◌-◌, ◌≤◌}
use mathlib.Core.List.{List, []}
use lib.ListN.{length}
use Rattle.sorttext.specs.SortWalk.{Walk}
use Rattle.smtlevels.specs.Levels.{Within}
use Rattle.sorttext.proofs.EndTexts.{Toward}
use Rattle.sorttext.proofs.endings.Given as goal

abbrev pub invariant-loop-a : goal.invariant-loop-a
invariant-loop-a l = (l.k ≤ l.a) × ((es : List ℕ) → Walk l.words l.from [] l.at es → Toward l.words l.at l.left es l.a l.pending l.k l.bases l.known) × Within l.bases l.known

abbrev pub decreases-loop-a : goal.decreases-loop-a
decreases-loop-a l = length l.words - l.a
