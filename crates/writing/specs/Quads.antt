-- Numbers as the code has them.
use Rattle.std.specs.Prelude.{ℕ, ◌+◌, ◌*◌, ◌<◌, ◌≡◌}

-- A number has this tenth and this last digit.
pub record Tenths (n tenth last : ℕ) : Type 0 where
  pub sum : tenth * 10 + last ≡ n
  pub digit : last < 10
