use mathlib.Core.Path.{◌≡◌}
use lib.ListN.{length}
use Rattle.grammar.specs.Expr.{Exprs}
use Rattle.judging.specs.Judge.{reads}
use Rattle.flattening.specs.Operations.{no_text}
use Rattle.judge.proofs.ReadExpr.{siblings}
use Rattle.flatwriter.proofs.WriteSteps.{LeftExprs}
use Prim.Native.Nat.{ℕ, ◌+◌, ◌-◌, ◌*◌}
use Rattle.flatwriter.proofs.+all_arguments_chain_flat_flats.Given as goal

abbrev pub decreases-all_arguments : goal.decreases-all_arguments
decreases-all_arguments l = l.room * 4 + 3

abbrev pub decreases-chain : goal.decreases-chain
decreases-chain l = l.room * 4

abbrev pub decreases-flat : goal.decreases-flat
decreases-flat l = l.room * 4 + 1

abbrev pub decreases-flats : goal.decreases-flats
decreases-flats l = l.room * 4 + 2

abbrev pub invariant-flats-loop : goal.invariant-flats-loop
invariant-flats-loop l = (length l.out ≡ length l.initial.out) × ((es : Exprs) (m : ℕ) → siblings no_text l.room l.n l.words l.at ≡ reads es m → LeftExprs l.words l.room (l.n - l.counter) l.walked.next l.walked.place l.out l.initial.out l.place es m)
