use lib.ListN.{replicate}
use Rattle.writing.specs.Wrote.{WroteBytes}
use Rattle.sorttext.proofs.closed.Given as goal

abbrev pub invariant-loop : goal.invariant-loop
invariant-loop l = WroteBytes l.initial.out l.place (replicate l.counter 41) l.out l.p
