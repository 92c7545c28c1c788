use mathlib.Core.Path.{◌≡◌}
use Rattle.reading.specs.Answer.{over}
use Rattle.sorts.specs.Rows.{abs_words}
use Rattle.sorts.proofs.sort_words.put_abs.Given as goal

abbrev pub invariant-loop-i : goal.invariant-loop-i
invariant-loop-i l = l.out ≡ over (abs_words 0 l.i) l.initial.out
