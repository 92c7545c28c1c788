-- What is written for And and Or, by the number of operands.
use Prim.Native.Nat.{ℕ, zero, suc}
use mathlib.Core.Path.{◌≡◌, refl}
use mathlib.Core.List.{List, []}
use native.Mathlib.Omega.{arith}
use Rattle.smtoperators.specs.Operators.{operator_text}
use Rattle.smtbools.specs.Bools.{folded_text}

module _ (unit name : List ℕ) where
  pub folded-none : (n : ℕ) → n ≡ 0 → unit ≡ folded_text unit name n
  unfolding folded_text
  folded-none zero e = refl
  folded-none (suc n) e = absurd (omega (arith, e))

  pub folded-one : (n : ℕ) → n ≡ 1 → [] ≡ folded_text unit name n
  unfolding folded_text
  folded-one zero e = absurd (omega (arith, e))
  folded-one (suc zero) e = refl
  folded-one (suc (suc n)) e = absurd (omega (arith, e))

  pub folded_more : (n : ℕ) → (n ≡ 0 → ⊥) → (n ≡ 1 → ⊥) → operator_text name ≡ folded_text unit name n
  unfolding folded_text
  folded_more zero h k = absurd (h refl)
  folded_more (suc zero) h k = absurd (k refl)
  folded_more (suc (suc n)) h k = refl
