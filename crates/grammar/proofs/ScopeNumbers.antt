-- The numbers of the binders of a name in open scopes.
use Prim.Native.Nat.{ℕ, suc, ◌+◌, ◌≤◌, ◌<◌}
use mathlib.Core.Path.{◌≡◌, refl}
use mathlib.Core.Bool.{Bool, true, false}
use mathlib.Core.Logic.{◌⊎◌, inl, inr}
use mathlib.Core.List.{List, [], ◌∷◌, ◌++◌}
use native.Mathlib.Omega.{arith}
use lib.ListN.{length}
use Rattle.reading.specs.Pick.{pick}
use Rattle.reading.specs.Bytes.{Span, bytes_at, Maybe, nothing, just}
use Rattle.reading.proofs.Bytes.{same_equal, same_refl}
use Rattle.grammar.specs.Scope
use Rattle.grammar.specs.Scope.{Scope, or_else}
use Rattle.grammar.specs.Numbers.{In}
use Rattle.grammar.specs.Lets.{numbers_among, numbers_of, Apart}
use Rattle.grammar.proofs.AnswerHolds.{IfThere}
use Rattle.grammar.proofs.FreshNumbers.{in_left, in_right}

-- No scopes are apart; and scopes that are apart stay so when a scope is opened that takes the next numbers, and when numbers are taken.
pub apart_none : (n : ℕ) → Apart [] n
apart_none n = tt

pub apart-opened : (names : List Span) (sc : List Scope) (n : ℕ) → Apart sc n → Apart (record { names = names; first = n } ∷ sc) (n + length names)
apart-opened names sc n a = (omega arith, a)

pub apart-later : (sc : List Scope) (n m : ℕ) → n ≤ m → Apart sc n → Apart sc m
apart-later [] n m l a = tt
apart-later (s ∷ sc) n m l a = (omega (arith, a.0), a.1)

module _ (text : List ℕ) where
  in_either : (j : ℕ) (a b : List ℕ) → In j (a ++ b) → In j a ⊎ In j b
  in_either j [] b h = inr h
  in_either j (x ∷ a) b (inl e) = inl (inl e)
  in_either j (x ∷ a) b (inr h) = go (in_either j a b h)
    where
      go : In j a ⊎ In j b → In j (x ∷ a) ⊎ In j b
      go (inl k) = inl (inr k)
      go (inr k) = inr k

  -- A binder of the name among names: the first one, and then it has this name, or one of the others.
  first_or_other : (s y : Span) (ys : List Span) (k j : ℕ) → In j (numbers_among text s (y ∷ ys) k) → ((j ≡ k) × (Scope.same_name text s y ≡ true)) ⊎ In j (numbers_among text s ys (suc k))
  unfolding numbers_among pick
  first_or_other s y ys k j h = go (Scope.same_name text s y) refl h
    where
      go : (b : Bool) → Scope.same_name text s y ≡ b → In j (pick b (k ∷ numbers_among text s ys (suc k)) (numbers_among text s ys (suc k))) → ((j ≡ k) × (Scope.same_name text s y ≡ true)) ⊎ In j (numbers_among text s ys (suc k))
      go true e (inl i) = inl (i, e)
      go true e (inr i) = inr i
      go false e i = inr i

  in-run : (s : Span) (ys : List Span) (k j : ℕ) → In j (numbers_among text s ys k) → (k ≤ j) × (j < k + length ys)
  unfolding numbers_among
  in-run s [] k j h = absurd h
  in-run s (y ∷ ys) k j h = go (first_or_other s y ys k j h) (in-run s ys (suc k) j)
    where
      go : ((j ≡ k) × (Scope.same_name text s y ≡ true)) ⊎ In j (numbers_among text s ys (suc k)) → (In j (numbers_among text s ys (suc k)) → (suc k ≤ j) × (j < suc k + length ys)) → (k ≤ j) × (j < k + suc (length ys))
      go (inl e) f = (omega (arith, e.0), omega (arith, e.0))
      go (inr i) f = let r = f i in (omega (arith, r.0), omega (arith, r.1))

  -- Two names that one name is the same as are the same.
  same-both : (s x y : Span) → Scope.same_name text s y ≡ true → Scope.same_name text x y ≡ true → Scope.same_name text x s ≡ true
  unfolding Scope.same_name
  same-both s x y p q = rw (same_equal (bytes_at text x) (bytes_at text y) q, same_equal (bytes_at text s) (bytes_at text y) p) (same_refl (bytes_at text y))

  one_name : (s x : Span) (ys : List Span) (k j : ℕ) → In j (numbers_among text s ys k) → In j (numbers_among text x ys k) → Scope.same_name text x s ≡ true
  unfolding numbers_among
  one_name s x [] k j p q = absurd p
  one_name s x (y ∷ ys) k j p q = go (first_or_other s y ys k j p) (first_or_other x y ys k j q) (one_name s x ys (suc k) j)
    where
      go : ((j ≡ k) × (Scope.same_name text s y ≡ true)) ⊎ In j (numbers_among text s ys (suc k)) → ((j ≡ k) × (Scope.same_name text x y ≡ true)) ⊎ In j (numbers_among text x ys (suc k))
          → (In j (numbers_among text s ys (suc k)) → In j (numbers_among text x ys (suc k)) → Scope.same_name text x s ≡ true) → Scope.same_name text x s ≡ true
      go (inl e) (inl f) g = same-both s x y e.1 f.1
      go (inl e) (inr f) g = absurd (omega (arith, e.0, (in-run x ys (suc k) j f).0))
      go (inr e) (inl f) g = absurd (omega (arith, f.0, (in-run s ys (suc k) j e).0))
      go (inr e) (inr f) g = g e f

  -- What a name means is the number of a binder of the name.
  meant-among : (x : Span) (ys : List Span) (k : ℕ) → IfThere (Scope.number_among text x ys k) (λ j. In j (numbers_among text x ys k))
  unfolding Scope.number_among numbers_among pick
  meant-among x [] k = tt
  meant-among x (y ∷ ys) k = go (Scope.same_name text x y) (Scope.number_among text x ys (suc k)) (meant-among x ys (suc k))
    where
      go : (b : Bool) (m : Maybe ℕ) → IfThere m (λ j. In j (numbers_among text x ys (suc k)))
          → IfThere (pick b (just k) m) (λ j. In j (pick b (k ∷ numbers_among text x ys (suc k)) (numbers_among text x ys (suc k))))
      go true m h = inl refl
      go false m h = h

  pub meant_of : (x : Span) (sc : List Scope) → IfThere (Scope.number_in text x sc) (λ j. In j (numbers_of text x sc))
  unfolding Scope.number_in numbers_of
  meant_of x [] = tt
  meant_of x (s ∷ sc) = go (Scope.number_among text x s.names s.first) (Scope.number_in text x sc) (meant-among x s.names s.first) (meant_of x sc)
    where
      go : (a b : Maybe ℕ) → IfThere a (λ j. In j (numbers_among text x s.names s.first)) → IfThere b (λ j. In j (numbers_of text x sc))
          → IfThere (or_else a b) (λ j. In j (numbers_among text x s.names s.first ++ numbers_of text x sc))
      go nothing nothing h k = tt
      go nothing (just j) h k = in_right j (numbers_among text x s.names s.first) (numbers_of text x sc) k
      go (just i) b h k = in_left i (numbers_among text x s.names s.first) (numbers_of text x sc) h

  -- In scopes that are apart a number is below the next one, and that of one name only.
  pub apart_below : (s : Span) (sc : List Scope) (n j : ℕ) → Apart sc n → In j (numbers_of text s sc) → j < n
  unfolding numbers_of
  apart_below s [] n j a h = absurd h
  apart_below s (c ∷ sc) n j a h = go (in_either j (numbers_among text s c.names c.first) (numbers_of text s sc) h) (apart_below s sc c.first j a.1)
    where
      go : In j (numbers_among text s c.names c.first) ⊎ In j (numbers_of text s sc) → (In j (numbers_of text s sc) → j < c.first) → j < n
      go (inl i) f = omega (arith, a.0, (in-run s c.names c.first j i).1)
      go (inr i) f = omega (arith, a.0, f i)

  pub apart-name : (s x : Span) (sc : List Scope) (n j : ℕ) → Apart sc n → In j (numbers_of text s sc) → In j (numbers_of text x sc) → Scope.same_name text x s ≡ true
  unfolding numbers_of
  apart-name s x [] n j a p q = absurd p
  apart-name s x (c ∷ sc) n j a p q =
      go (in_either j (numbers_among text s c.names c.first) (numbers_of text s sc) p) (in_either j (numbers_among text x c.names c.first) (numbers_of text x sc) q) (apart-name s x sc c.first j a.1)
    where
      go : In j (numbers_among text s c.names c.first) ⊎ In j (numbers_of text s sc) → In j (numbers_among text x c.names c.first) ⊎ In j (numbers_of text x sc)
          → (In j (numbers_of text s sc) → In j (numbers_of text x sc) → Scope.same_name text x s ≡ true) → Scope.same_name text x s ≡ true
      go (inl i) (inl k) g = one_name s x c.names c.first j i k
      go (inl i) (inr k) g = absurd (omega (arith, (in-run s c.names c.first j i).0, apart_below x sc c.first j a.1 k))
      go (inr i) (inl k) g = absurd (omega (arith, (in-run x c.names c.first j k).0, apart_below s sc c.first j a.1 i))
      go (inr i) (inr k) g = g i k
