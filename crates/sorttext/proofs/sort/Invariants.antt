use Prim.Native.Nat.{ℕ, ◌-◌}
use mathlib.Core.Path.{◌≡◌}
use lib.ListN.{length}
use Rattle.grammar.specs.Sort.{Sort}
use Rattle.judging.specs.Judge.{reads, sort_at}
use Rattle.smtlevels.specs.Levels.{Within}
use Rattle.sorttext.proofs.SortLoop.{State}
use Rattle.sorttext.proofs.sort.Given as goal

abbrev pub invariant-loop-left : goal.invariant-loop-left
invariant-loop-left l =
    (length l.out ≡ length l.initial.out) × Within l.bases l.known × ((limit : ℕ) (s : Sort) (n : ℕ) → sort_at limit l.words l.at ≡ reads s n → State l.text l.words l.at n s l.initial.out l.place l.out l.a l.p l.left l.bases l.known)

abbrev pub decreases-loop-left : goal.decreases-loop-left
decreases-loop-left l = length l.words - l.a
