-- What is said where a call is refused.
use Prim.Native.Nat.{ℕ}
use mathlib.Core.Bool.{Bool, true, false}
use mathlib.Core.Path.{◌≡◌, refl}
use native.Mathlib.Omega.{arith}
use Rattle.reading.specs.Pick.{pick}
use Rattle.reading.specs.Answer.{number, no_room, accepts, refuses, accepted, refused, said_of}

-- One number alone.
pub same_number : (k : ℕ) {r : ℕ} → refused k ≡ refused r → k ≡ r
same_number k e = cc

-- What has room is accepted; so what is refused has none, and that is 7.
pub lacking_room : {A : Type 0} (count : A → ℕ) (a : A) (t : Bool) {r : ℕ} → said_of (λ a. accepted (count a) 0) (pick t (accepts a 0) (refuses (number no_room))) ≡ refused r → (t ≡ false) × (number no_room ≡ r)
unfolding said_of pick
lacking_room count a true q = let z : ◌≡◌ {A = ℕ} 0 1 = cc in absurd (omega arith)
lacking_room count a false q = (refl, same_number (number no_room) q)
