use Prim.Native.Nat.{◌-◌, ◌≤◌}
use lib.ListN.{length, drop}
use Rattle.recorded.specs.Numbers.{most}
use Rattle.recorded.specs.Spelled.{words_in}
use Rattle.recorded.proofs.Storing.{Left}
use Rattle.recorded.proofs.input.put_words.Given as goal

abbrev pub invariant-loop-at : goal.invariant-loop-at
invariant-loop-at l = (l.n ≤ most) × Left l.initial.words 0 (words_in (drop l.at l.lines)) l.words l.n (words_in (drop l.i l.lines))

abbrev pub decreases-loop-at : goal.decreases-loop-at
decreases-loop-at l = length l.lines - l.i
