use mathlib.Core.Path.{◌≡◌}
use Rattle.judging.specs.Ends.{end_of}
use Rattle.judge.proofs.ReadExpr.{siblings}
use Prim.Native.Nat.{◌+◌, ◌-◌, ◌*◌}
use Rattle.judge.proofs.expr_words.+expr_end_exprs_end.Given as goal

abbrev pub decreases-expr_end : goal.decreases-expr_end
decreases-expr_end l = l.room * 2

abbrev pub decreases-exprs_end : goal.decreases-exprs_end
decreases-exprs_end l = l.room * 2 + 1

abbrev pub invariant-exprs_end-loop : goal.invariant-exprs_end-loop
invariant-exprs_end-loop l = end_of (siblings l.limit l.room l.n l.words l.at) ≡ end_of (siblings l.limit l.room (l.n - l.counter) l.words l.a)
