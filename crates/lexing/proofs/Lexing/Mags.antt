-- Laws of the numbers that the code has, or has not.
use Prim.Native.Nat.{ℕ, ◌+◌, ◌*◌, ◌^◌, ◌<◌, ◌≤◌}
use mathlib.Core.Bool.{Bool, true, false}
use mathlib.Core.Path.{◌≡◌, refl, sym, ap, ◌∙◌}
use native.Mathlib.Nat.{le_trans, pow-le-pow_right}
use native.Mathlib.Omega.{arith}
use lib.Dec.{ltb}
use borrow.Author.Tests.{ltb-true}
use Rattle.std.specs.Prelude.{Option, Some, None, Result, Ok, Err, OkIff}
use Rattle.std.specs.Result.{result_ok}
use Rattle.std.proofs.lemmas.Result.{OkIff-at_ok, OkIff-at_err}
use Rattle.reading.specs.Pick.{pick}
use Rattle.reading.specs.Bytes.{Maybe, nothing, just}
use Rattle.reading.specs.Number.{wide_of, value_of, below}
use Rattle.reading.proofs.Values.{value-back}
use Rattle.words.specs.declared.quad.Quad.{Quad}
use Rattle.words.specs.Quads.{as_quad, as_wide}
use Rattle.lexing.specs.Quads.{as_mag, as_word, number_of, Fit}
use Rattle.lexing.proofs.Lexing.Limbs.{wide_back, value-fits}
use Rattle.lexing.proofs.Lexing.Digits.{below-yes, below-no, below-below}

-- There is no number, or it is too big, or it is the words'.
pub mag_none : (m : Maybe ℕ) → m ≡ nothing → None ≡ as_mag (below (2 ^ 128) m)
unfolding below
mag_none m e = rw e

pub mag_is : (m : Maybe ℕ) (q : Quad) → Fit (as_wide q) → m ≡ just (value_of (as_wide q)) → Some q ≡ as_mag (below (2 ^ 128) m)
mag_is m q f e = rw (e, below-yes (2 ^ 128) (value_of (as_wide q)) (value-fits (as_wide q) f), wide_back (as_wide q) f)

-- A number of 64 bits.
pub mag_small : (m : Maybe ℕ) (n : ℕ) (q : Quad) → n < 2 ^ 64 → q ≡ as_quad (wide_of n) → m ≡ just n → Some q ≡ as_mag (below (2 ^ 128) m)
mag_small m n q h p e =
    let k : n < 2 ^ 128 = le_trans h (pow-le-pow_right {n = 2} (omega arith) {i = 64} {j = 128} (omega arith)) in
    rw (e, below-yes (2 ^ 128) n k, p)

-- The number that the words of a number stand for.
pub mag_back : (m : Maybe ℕ) → number_of (as_mag (below (2 ^ 128) m)) ≡ below (2 ^ 128) m
unfolding below pick
mag_back nothing = refl
mag_back (just n) = go (ltb n (2 ^ 128)) refl
  where
    go : (t : Bool) → ltb n (2 ^ 128) ≡ t → number_of (as_mag (pick t (just n) nothing)) ≡ pick t (just n) nothing
    go true e = ap just (value-back n (ltb-true n (2 ^ 128) e))
    go false e = refl

-- The number of four words, where only the lowest is not 0, or the lowest two.
module _ (q : Quad) where
  pub value-high : (q.b + q.c + q.d ≡ 0 → ⊥) → 2 ^ 32 ≤ value_of (as_wide q)
  unfolding value_of
  value-high h = omega arith

  pub value_higher : (q.c + q.d ≡ 0 → ⊥) → 2 ^ 64 ≤ value_of (as_wide q)
  unfolding value_of
  value_higher h = omega arith

  pub word_out : (0 < q.c + q.d) → None ≡ as_word (below (2 ^ 64) (just (value_of (as_wide q))))
  unfolding value_of
  word_out h =
      let n : 2 ^ 64 ≤ value_of (as_wide q) = omega arith in
      sym (ap as_word (below-no (2 ^ 64) (value_of (as_wide q)) n))

  pub word_in : Fit (as_wide q) → q.c ≡ 0 → q.d ≡ 0 → Some (q.a + q.b * 2 ^ 32) ≡ as_word (below (2 ^ 64) (just (value_of (as_wide q))))
  unfolding value_of
  word_in f c d =
      let n : ℕ = q.a + q.b * 2 ^ 32 in
      let e : value_of (as_wide q) ≡ n = omega arith in
      let h : n < 2 ^ 64 = omega (arith, f.a, f.b) in
      sym (ap (λ (x : ℕ). as_word (below (2 ^ 64) (just x))) e ∙ ap as_word (below-yes (2 ^ 64) n h))

-- A number that is there, or not.
abbrev pub number_in : Option ℕ → Maybe ℕ
number_in None = nothing
number_in (Some n) = just n

-- A number below a limit, and below a lower one.
pub narrowed : (low limit : ℕ) → low ≤ limit → (m : Maybe ℕ) (o : Option ℕ) → o ≡ as_word (below limit m) → below low (number_in o) ≡ below low m
narrowed low limit h m o e = ap (λ (x : Option ℕ). below low (number_in x)) e ∙ ap (below low) (back (below limit m)) ∙ below-below low limit h m
  where
    back : (x : Maybe ℕ) → number_in (as_word x) ≡ x
    back nothing = refl
    back (just n) = refl

-- A number that is tried for a limit.
pub tried : {E : Type 0} (r : Result ℕ E) (n limit : ℕ) (o : Option ℕ) → OkIff r (n < limit) n → o ≡ result_ok r → o ≡ as_word (below limit (just n))
tried {E} (Ok x) n limit o h e = let p = OkIff-at_ok {E = E} (Ok x) (n < limit) n x h refl in e ∙ ap Some p.1 ∙ sym (ap as_word (below-yes limit n p.0))
tried {E} (Err d) n limit o h e =
    let p = OkIff-at_err {E = E} (Err d) (n < limit) n d h refl in
    e ∙ sym (ap as_word (below-no limit n (omega (arith, p))))
