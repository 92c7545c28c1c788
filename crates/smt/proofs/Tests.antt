-- Tests taken apart and put together.
use Prim.Native.Nat.{ℕ}
use mathlib.Core.Path.{◌≡◌, refl, sym}
use mathlib.Core.List.{List, [], ◌∷◌, ◌++◌}
use mathlib.Core.Bool.{Bool, true, false, ◌&&◌, ◌||◌, false≢true}
use Rattle.reading.specs.Pick.{pick}
use Rattle.smt.specs.Sexp.{every}

pub and_left : (a b : Bool) → (a && b) ≡ true → a ≡ true
and_left true b e = refl
and_left false b e = e

pub and_right : (a b : Bool) → (a && b) ≡ true → b ≡ true
and_right true b e = e
and_right false b e = cc

pub and_both : (a b : Bool) → a ≡ true → b ≡ true → (a && b) ≡ true
and_both true b e h = h
and_both false b e h = e

pub or_left : (a b : Bool) → a ≡ true → (a || b) ≡ true
or_left true b e = refl
or_left false b e = cc

pub or_right : (a b : Bool) → b ≡ true → (a || b) ≡ true
or_right true b e = refl
or_right false b e = e

pub every_append : (p : ℕ → Bool) (xs ys : List ℕ) → every p xs ≡ true → every p ys ≡ true → every p (xs ++ ys) ≡ true
every_append p [] ys h k = k
every_append p (x ∷ xs) ys h k =
    and_both (p x) (every p (xs ++ ys)) (and_left (p x) (every p xs) h) (every_append p xs ys (and_right (p x) (every p xs) h) k)

-- Each byte passes a test that follows from one that is made of each byte in turn.
pub all-every : (all : List ℕ → Bool) (q p : ℕ → Bool) → ((x : ℕ) (xs : List ℕ) → all (x ∷ xs) ≡ true → (q x ≡ true) × (all xs ≡ true)) → ((b : ℕ) → q b ≡ true → p b ≡ true) → (xs : List ℕ) → all xs ≡ true → every p xs ≡ true
all-every all q p apart f [] h = refl
all-every all q p apart f (x ∷ xs) h =
    let k = apart x xs h in
    and_both (p x) (every p xs) (f x k.0) (all-every all q p apart f xs k.1)

-- A pick that is true, by its test.
pub pick-and : (t x : Bool) → pick t x false ≡ true → (t ≡ true) × (x ≡ true)
unfolding pick
pick-and true x e = (refl, e)
pick-and false x e = absurd (false≢true e)

pub pick_unless : (t x : Bool) → pick t false x ≡ true → (t ≡ false) × (x ≡ true)
unfolding pick
pick_unless true x e = absurd (false≢true e)
pick_unless false x e = (refl, e)

pub pick_neither : (t x : Bool) → pick t false x ≡ false → t ≡ false → x ≡ false
unfolding pick
pick_neither true x e h = absurd (false≢true (sym h))
pick_neither false x e h = e

-- What holds of each where it is picked holds of the one that is picked.
pub pick_known : {A : Type 0} (t : Bool) (x y : A) (R : A → Type 0) → (t ≡ true → R x) → (t ≡ false → R y) → R (pick t x y)
unfolding pick
pick_known true x y R h k = h refl
pick_known false x y R h k = k refl
