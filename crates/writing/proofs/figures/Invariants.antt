use Rattle.reading.specs.Number.{value_of}
use Rattle.words.specs.Quads.{as_wide}
use Rattle.writing.proofs.Pieces.{Counted}
use Rattle.writing.proofs.figures.Given as goal

abbrev pub invariant-loop-rest : goal.invariant-loop-rest
invariant-loop-rest l = Counted (value_of (as_wide l.initial.rest)) (value_of (as_wide l.rest)) l.n

abbrev pub decreases-loop-rest : goal.decreases-loop-rest
decreases-loop-rest l = value_of (as_wide l.rest)
