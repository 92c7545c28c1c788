use mathlib.Core.Path.{◌≡◌}
use lib.ListN.{length}
use Rattle.grammar.specs.Expr.{Exprs, enil, econs}
use Rattle.judging.specs.Judge.{reads, several, expr_deep}
use Rattle.smtlib.proofs.TermSteps.{LeftTerms}
use Prim.Native.Nat.{ℕ, ◌+◌, ◌-◌, ◌*◌}
use Rattle.smtlib.proofs.terms.+term_terms.Given as goal

abbrev pub decreases-term : goal.decreases-term
decreases-term l = l.room * 2

abbrev pub decreases-terms : goal.decreases-terms
decreases-terms l = l.room * 2 + 1

abbrev pub invariant-terms-loop-i : goal.invariant-terms-loop-i
invariant-terms-loop-i l = (length l.out ≡ length l.initial.out) × ((es : Exprs) (m : ℕ) → several (expr_deep (length l.text) l.room) enil econs l.n l.words l.at ≡ reads es m → LeftTerms l.text l.words l.room l.n (l.n - l.i) l.a l.p l.in_let l.out l.initial.out l.place es m)
