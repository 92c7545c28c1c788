-- ASCII characters; what may follow a byte, and where a character ends, as the code has them.
use Rattle.std.specs.Prelude.{ℕ, ◌<◌, ◌≤◌, Bool, true, false, ◌&&◌, ◌≡◌, List, [], ◌∷◌, ltb, length, drop, Option, Some, None}
use Rattle.reading.specs.Utf8.{Expected, first, inside, wrong, well_formed}
use Rattle.lexing.specs.declared.utf8.Next.{Next}
use Rattle.lexing.specs.declared.utf8.Next.TheVariants.{First, Inside, Wrong}

-- Every character is an ASCII one.
unfoldable pub all_ascii : List ℕ → Bool
all_ascii [] = true
all_ascii (b ∷ s) = ltb b 0x80 && all_ascii s

abbrev pub expected : Next → Expected
expected First = first
expected (Inside lo hi n) = inside lo hi n
expected Wrong = wrong

-- Where such bytes are expected at a place, a character ends before a later one; or the text is not UTF-8.
abbrev pub CharacterEnds : Expected → List ℕ → ℕ → Option ℕ → Type 0
CharacterEnds e text at (Some next) = (at < next) × (next ≤ length text) × (well_formed e (drop at text) ≡ well_formed first (drop next text))
CharacterEnds e text at None = well_formed e (drop at text) ≡ false
