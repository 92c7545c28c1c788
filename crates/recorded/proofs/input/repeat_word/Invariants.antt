use Prim.Native.Nat.{◌+◌, ◌-◌}
use mathlib.Core.List.{[], ◌∷◌}
use Rattle.recorded.specs.Spelled.{again}
use Rattle.recorded.proofs.Storing.{Left}
use Rattle.recorded.proofs.input.repeat_word.Given as goal

abbrev pub invariant-loop-i : goal.invariant-loop-i
invariant-loop-i l = Left l.initial.words l.n (again l.times (l.word ∷ [])) l.words l.i (again (l.n + l.times - l.i) (l.word ∷ []))
