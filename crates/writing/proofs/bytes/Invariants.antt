use Rattle.writing.proofs.Pieces.{Copied}
use Rattle.writing.proofs.bytes.Given as goal

abbrev pub invariant-loop-i : goal.invariant-loop-i
invariant-loop-i l = Copied l.from l.initial.out l.place l.out l.i
