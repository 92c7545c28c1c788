use Rattle.show.proofs.Printing.{Lining}
use Rattle.show.proofs.line.Given as goal

abbrev pub invariant-loop-i : goal.invariant-loop-i
invariant-loop-i l = Lining l.words l.from l.to l.at l.initial.out l.out l.i l.a
