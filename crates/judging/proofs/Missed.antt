-- A number that is none of several that follow one another, as a `match` tells it in its last arm.
use Prim.Native.Nat.{ℕ, zero, suc, ◌+◌, ◌≤◌}
use mathlib.Core.Path.{◌≡◌}
use native.Mathlib.Omega.{arith}

-- None of m numbers from n on, behind what else is known.
abbrev pub Missed : Type 0 → ℕ → ℕ → ℕ → Type 0
Missed B w n zero = B
Missed B w n (suc m) = Missed B w n m × (w ≡ n + m → ⊥)

pub before : (B : Type 0) (w n m : ℕ) → Missed B w n m → B
before B w n zero h = h
before B w n (suc m) h = before B w n m h.0

-- At least the first of them: behind the last.
pub above : (B : Type 0) (w n m : ℕ) → Missed B w n m → n ≤ w → n + m ≤ w
above B w n zero h l = omega (arith, l)
above B w n (suc m) h l = omega (arith, above B w n m h.0 l, h.1)
