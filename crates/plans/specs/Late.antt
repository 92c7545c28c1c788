-- What is done between the binding of a let and its body: a number is laid in front of the binding's words, and a scope opened.
use Rattle.std.specs.Prelude.{ℕ, ◌+◌, ◌*◌, ◌≤◌, List, length, ◌==◌, ◌≢◌}
use Rattle.reading.specs.Pick.{pick}
use Rattle.grammar.specs.Sort.{two}
use Rattle.writing.specs.Laid.{laid}
use Rattle.places.specs.Outcome.{bound}

-- The output with the two words of a number at a place, unless the pair's place is 0.
unfoldable pub filled : ℕ → ℕ → ℕ → List ℕ → List ℕ
filled pair at k o = pick (pair == 0) o (laid o at (two k))

-- How many numbers are taken: one, unless the pair's place is 0.
unfoldable pub taken : ℕ → ℕ
taken pair = pick (pair == 0) 0 1

-- Room for one entry more, for one number more, and for its words.
pub record LateRoom (es : List ℕ) (d pair next at : ℕ) : Type 0 where
  pub entry : (pair ≢ 0) → 3 * d + 3 ≤ length es
  pub number : next ≤ bound
  pub place : at ≤ bound + 9
