-- Laws of numbers in four words.
use Prim.Native.Nat.{ℕ, ◌/◌, ◌%◌, ◌^◌, ◌<◌}
use mathlib.Core.Path.{◌≡◌}
use native.Mathlib.Omega.{arith}
use Rattle.reading.specs.Number.{Wide, wide_of}

-- The words of a number of 64 bits.
pub wide-small : (n : ℕ) → n < 2 ^ 64 → record { a = n % 2 ^ 32; b = n / 2 ^ 32; c = 0; d = 0 } ≡ wide_of n
unfolding wide_of
wide-small n h =
    let b : n / 2 ^ 32 % 2 ^ 32 ≡ n / 2 ^ 32 = omega arith in
    let c : n / 2 ^ 32 / 2 ^ 32 % 2 ^ 32 ≡ 0 = omega arith in
    let d : n / 2 ^ 32 / 2 ^ 32 / 2 ^ 32 % 2 ^ 32 ≡ 0 = omega arith in
    rw (b, c, d)
