use Prim.Native.Nat.{◌-◌}
use mathlib.Core.Path.{◌≡◌}
use Rattle.judging.specs.Judge.{binders_at}
use Rattle.judging.specs.Ends.{end_of}
use Rattle.sortwords.proofs.binders_end.Given as goal

abbrev pub invariant-loop : goal.invariant-loop
invariant-loop l = end_of (binders_at l.limit l.n l.words l.at) ≡ end_of (binders_at l.limit (l.n - l.counter) l.words l.a)
