use Rattle.reading.specs.Answer.{over}
use Rattle.compared.specs.Recorded.{filled}
use Rattle.compared.proofs.Comparing.{Comparing}
use Rattle.compared.proofs.is_answer.Given as goal

abbrev pub invariant-loop-i : goal.invariant-loop-i
invariant-loop-i l = Comparing l.out (over l.words (filled l.out)) l.i
