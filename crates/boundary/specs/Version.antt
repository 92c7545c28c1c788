-- The version of the interface: one more with each landing that changes a declaration or an answer.
use Rattle.std.specs.Prelude.{ℕ}

-- The first version had no function that tells it.
abbrev pub version : ℕ
version = 5
