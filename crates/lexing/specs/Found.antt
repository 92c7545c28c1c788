-- The place where something is found.
use Rattle.std.specs.Prelude.{ℕ, ◌+◌, ◌<◌, ◌≤◌, ◌≡◌, Bool, List, length, drop, Option, Some, None}
use Rattle.reading.specs.Bytes.{before}

-- The first place from `from` on where the text passes a test; or there is none.
abbrev pub FoundAt : (List ℕ → Bool) → List ℕ → ℕ → Option ℕ → Type 0
FoundAt test text from (Some i) = (i ≡ from + before test (drop from text)) × (i < length text)
FoundAt test text from None = length text ≤ from + before test (drop from text)
