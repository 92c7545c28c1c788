-- What a function says that lays words, or bytes, into a slice.
use Rattle.std.specs.Prelude.{ℕ, ◌+◌, ◌^◌, ◌≤◌, ◌<◌, ◌≡◌, List, length}
use Rattle.writing.specs.Laid.{laid}

-- One more than the largest count that a word holds.
abbrev pub most_count : ℕ
most_count = 2 ^ 32

-- Words are laid into the output l from a place on, and r is the place behind them. Where they do not fit, or where the largest count
-- among them takes more than a word, r is behind the end of the output.
pub record Wrote (l : List ℕ) (place : ℕ) (xs : List ℕ) (most : ℕ) (l' : List ℕ) (r : ℕ) : Type 0 where
  pub kept : length l' ≡ length l
  pub fits : r ≤ length l → (r ≡ place + length xs) × (most < most_count) × (l' ≡ laid l place xs)
  pub full : length l < r → place + length xs ≤ length l → most < most_count → ⊥

-- Bytes are laid: there are no counts among them.
abbrev pub WroteBytes : List ℕ → ℕ → List ℕ → List ℕ → ℕ → Type 0
WroteBytes l place xs l' r = Wrote l place xs 0 l' r
