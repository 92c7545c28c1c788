use Rattle.plans.specs.BinderWords.{BinderRow}
use Rattle.solutions.proofs.ParamNames.{Pairing}
use Rattle.solutions.proofs.parts.all_pairs.Given as goal

abbrev pub invariant-loop : goal.invariant-loop
invariant-loop l = (h : BinderRow l.tree l.at l.n 0) → Pairing l.tree l.at l.n h l.counter l.p
