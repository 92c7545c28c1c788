use Rattle.writing.proofs.Pieces.{Copied}
use Rattle.flatwriter.proofs.copy.Given as goal

abbrev pub invariant-loop-i : goal.invariant-loop-i
invariant-loop-i l = Copied l.part l.initial.out l.place l.out l.i
