use Rattle.compared.proofs.Comparing.{Filling}
use Rattle.compared.proofs.fill.Given as goal

abbrev pub invariant-loop-i : goal.invariant-loop-i
invariant-loop-i l = Filling l.initial.words l.words l.i
