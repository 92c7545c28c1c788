-- What holds of an answer, if it is one, and how that goes through the steps of a parser.
use Prim.Native.Nat.{ℕ}
use mathlib.Core.Path.{◌≡◌, refl}
use mathlib.Core.Bool.{Bool, true, false}
use lib.ListN.{length}
use mathlib.Core.List.{List, [], ◌∷◌}
use Rattle.reading.specs.Pick.{pick}
use Rattle.reading.specs.Bytes.{ascii, same_bytes, Maybe, nothing, just, Named, named, lookup}
use Rattle.reading.proofs.Bytes.{same_equal}
use Rattle.reading.specs.Answer.{Refusal, Ans, got, bad, and_then, check, Res, ok, no, chain, lifted}

abbrev pub Post : {A : Type 0} → Res A → (A → ℕ → Type 0) → Type 0
Post (ok a n) Q = Q a n
Post (no r) Q = Unit {0}

abbrev pub Every : {A : Type 0} → Ans A → (A → Type 0) → Type 0
Every (got a) Q = Q a
Every (bad r) Q = Unit {0}

pub chain_post : {A B : Type 0} (r : Res A) (f : A → ℕ → Res B) (Q : A → ℕ → Type 0) (R : B → ℕ → Type 0) → Post r Q → ((a : A) (n : ℕ) → Q a n → Post (f a n) R) → Post (chain r f) R
chain_post (ok a n) f Q R q k = k a n q
chain_post (no r) f Q R q k = tt

pub lifted_post : {A B : Type 0} (x : Ans A) (n : ℕ) (f : A → ℕ → Res B) (Q : A → Type 0) (R : B → ℕ → Type 0) → Every x Q → ((a : A) → Q a → Post (f a n) R) → Post (chain (lifted x n) f) R
lifted_post (got a) n f Q R q k = k a q
lifted_post (bad r) n f Q R q k = tt

-- Where nothing need be known of the value.
pub any_post : {A B : Type 0} (x : Ans A) (n : ℕ) (f : A → ℕ → Res B) (R : B → ℕ → Type 0) → ((a : A) → Post (f a n) R) → Post (chain (lifted x n) f) R
any_post (got a) n f R k = k a
any_post (bad r) n f R k = tt

-- An answer is known by its equation, and a test that passes by the test.
pub known-every : {A : Type 0} (x : Ans A) → Every x (λ a. x ≡ got a)
known-every (got a) = refl
known-every (bad r) = tt

pub check-every : (t : Bool) (r : Refusal) → Every (check t r) (λ _. t ≡ true)
check-every true r = refl
check-every false r = tt

pub then-every : {A B : Type 0} (x : Ans A) (f : A → Ans B) (Q : A → Type 0) (R : B → Type 0) → Every x Q → ((a : A) → Q a → Every (f a) R) → Every (and_then x f) R
then-every (got a) f Q R q k = k a q
then-every (bad r) f Q R q k = tt

pub any-every : {A B : Type 0} (x : Ans A) (f : A → Ans B) (R : B → Type 0) → ((a : A) → Every (f a) R) → Every (and_then x f) R
any-every (got a) f R k = k a
any-every (bad r) f R k = tt

-- What is known may be weakened.
pub map_post : {A : Type 0} (r : Res A) (Q R : A → ℕ → Type 0) → ((a : A) (n : ℕ) → Q a n → R a n) → Post r Q → Post r R
map_post (ok a n) Q R f q = f a n q
map_post (no r) Q R f q = tt

pub both_post : {A : Type 0} (r : Res A) (Q R : A → ℕ → Type 0) → Post r Q → Post r R → Post r (λ a n. Q a n × R a n)
both_post (ok a n) Q R q s = (q, s)
both_post (no r) Q R q s = tt

pub map-every : {A : Type 0} (x : Ans A) (Q R : A → Type 0) → ((a : A) → Q a → R a) → Every x Q → Every x R
map-every (got a) Q R f q = f a q
map-every (bad r) Q R f q = tt

-- What holds of the value that a name stands for in a table, if it stands there, by the name's length.
abbrev pub AllRows : {A : Type 0} → List (Named A) → (ℕ → A → Type 0) → Type 0
AllRows [] Q = Unit {0}
AllRows (named s a ∷ rows) Q = Q (length (ascii s)) a × AllRows rows Q

abbrev pub IfThere : {A : Type 0} → Maybe A → (A → Type 0) → Type 0
IfThere nothing Q = Unit {0}
IfThere (just a) Q = Q a

pub lookup-holds : {A : Type 0} (rows : List (Named A)) (w : List ℕ) (Q : ℕ → A → Type 0) → AllRows rows Q → IfThere (lookup rows w) (Q (length w))
unfolding lookup pick
lookup-holds [] w Q h = tt
lookup-holds (named s a ∷ rows) w Q h = go (same_bytes w (ascii s)) refl (lookup-holds rows w Q h.1)
  where
    go : (t : Bool) → same_bytes w (ascii s) ≡ t → IfThere (lookup rows w) (Q (length w)) → IfThere (pick t (just a) (lookup rows w)) (Q (length w))
    go true e k = rw (same_equal w (ascii s) e) h.0
    go false e k = k
