use Rattle.reading.specs.Answer.{zeros}
use Rattle.compared.proofs.Comparing.{Comparing}
use Rattle.compared.proofs.is_zero.Given as goal

abbrev pub invariant-loop-w : goal.invariant-loop-w
invariant-loop-w l = Comparing l.words (zeros l.words) l.w-index
