use Rattle.std.proofs.Common.{◌≡◌, length}
use Rattle.plans.specs.BinderWords.{BinderRow}
use Rattle.plans.proofs.BinderPairs.{Numbering}
use Rattle.plans.proofs.binders.binder_words.Given as goal

abbrev pub invariant-loop-i : goal.invariant-loop-i
invariant-loop-i l = (length l.out ≡ length l.initial.out) × ((h : BinderRow l.tree l.at l.n l.w) → Numbering l.text l.tree l.at l.n l.from l.w h l.initial.out l.out l._i l.p l.k l.v)
