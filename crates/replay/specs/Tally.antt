-- What is counted while lines are replayed.
use Rattle.std.specs.Prelude.{ℕ, zero, suc, ◌+◌, min, Bool, ◌≡◌, List, [], ◌∷◌, eqb, ltb, length}
use Rattle.reading.specs.Pick.{pick}
use Rattle.recorded.specs.Numbers.{most}
use Rattle.recorded.specs.Fields.{line_at}
use Rattle.replay.specs.Called.{is_right}
use Rattle.recorded.specs.declared.line.Line.{Line}
use Rattle.replay.specs.declared.State.{State}

-- One more, and no more than the largest number.
abbrev pub more : ℕ → ℕ
more n = min most (n + 1)

-- One answer more is counted, and if it is not the recorded one, one more that differs. The number of the first such is noted, counted from 1.
pub record Told (before : State) (same : Bool) (after : State) : Type 0 where
  pub reader : after.reader ≡ before.reader
  pub opened : after.opened ≡ before.opened
  pub kept : after.kept ≡ before.kept
  pub answers : after.answers ≡ more before.answers
  pub differing : after.differing ≡ pick same before.differing (more before.differing)
  pub first : after.first ≡ pick same before.first (pick (eqb before.differing 0) (more before.answers) before.first)

-- The same for a line: its answer is the recorded one, or differs.
pub record Stepped (lines : List ℕ) (line : Line) (before after : State) : Type 0 where
  pub answers : after.answers ≡ more before.answers
  pub differing : after.differing ≡ pick (is_right lines line) before.differing (more before.differing)
  pub first : after.first ≡ pick (is_right lines line) before.first (pick (eqb before.differing 0) (more before.answers) before.first)

-- The places where lines begin, from a place on, at most n of them.
unfoldable pub lines_from : ℕ → List ℕ → ℕ → List ℕ
lines_from zero text at = []
lines_from (suc n) text at = pick (ltb at (length text)) (at ∷ lines_from n text (line_at text at).next) []

-- Those of a whole text. It has no more lines than bytes.
abbrev pub lines_of : List ℕ → List ℕ
lines_of text = lines_from (length text) text 0

-- How many of the lines at these places have another answer than the recorded one.
unfoldable pub wrong : List ℕ → List ℕ → ℕ
wrong text [] = 0
wrong text (at ∷ ats) = pick (is_right text (line_at text at)) 0 1 + wrong text ats
