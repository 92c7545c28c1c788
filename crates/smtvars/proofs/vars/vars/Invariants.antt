use Prim.Native.Nat.{ℕ, ◌-◌}
use mathlib.Core.Path.{◌≡◌}
use mathlib.Core.List.{List}
use lib.ListN.{length}
use Rattle.grammar.specs.Expr.{Binder}
use Rattle.judging.specs.Judge.{reads, binders_at}
use Rattle.smtvars.proofs.VarLoop.{Coming}
use Rattle.smtvars.proofs.vars.vars.Given as goal

abbrev pub invariant-loop-i : goal.invariant-loop-i
invariant-loop-i l = (length l.out ≡ length l.initial.out) × ((limit : ℕ) (bs : List Binder) (m : ℕ) → binders_at limit l.n l.words l.at ≡ reads bs m → Coming l.text l.words limit l.n bs m l.initial.out l.initial.p l.out l.a l.p (l.n - l.i))
