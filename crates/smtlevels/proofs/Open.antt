-- Where open lists end, and what is to come behind a sort that has none inside it.
use Prim.Native.Nat.{ℕ, zero, suc, ◌+◌, ◌<◌}
use mathlib.Core.Path.{◌≡◌, refl, sym, ap, ◌∙◌}
use mathlib.Core.List.{List, [], ◌∷◌}
use native.Mathlib.Omega.{arith}
use borrow.Author.Tests.{eq-eqb, ne_eqb}
use Rattle.reading.specs.Pick.{pick}
use Rattle.grammar.specs.Numbers.{hit}
use Rattle.smtlevels.specs.Open.{total, ending, settled}

-- Equal numbers, or not.
pub hit-yes : (k x : ℕ) → k ≡ x → hit k x ≡ 1
unfolding pick
hit-yes k x e = rw (eq-eqb k x e) refl

pub hit-no : (k x : ℕ) → (k ≡ x → ⊥) → hit k x ≡ 0
unfolding pick
hit-no k x e = rw (ne_eqb k x e) refl

-- No list ends where more sorts are to come than in all.
pub ending-none : (left : ℕ) (cs : List ℕ) → total cs < left → ending left cs ≡ 0
unfolding ending total
ending-none left [] h = refl
ending-none left (c ∷ cs) h =
    let e : hit left (total cs) ≡ 0 = hit-no left (total cs) (λ q. omega (arith, h, q)) in
    omega (arith, e, ending-none left cs (omega (arith, h)))

-- The lists that have ended take no sorts with them, and do not end anywhere else.
settled-total : (cs : List ℕ) → total (settled cs) ≡ total cs
unfolding settled total
settled-total [] = refl
settled-total (zero ∷ cs) = omega (arith, settled-total cs)
settled-total (suc c ∷ cs) = refl

settled-ending : (left : ℕ) (cs : List ℕ) → (total cs ≡ left → ⊥) → ending left (settled cs) ≡ ending left cs
unfolding settled ending total
settled-ending left [] h = refl
settled-ending left (zero ∷ cs) h =
    let e : hit left (total cs) ≡ 0 = hit-no left (total cs) (λ q. h (omega (arith, q))) in
    omega (arith, e, settled-ending left cs (λ q. h (omega (arith, q))))
settled-ending left (suc c ∷ cs) h = refl

-- What is to come behind a sort that has none inside it.
module _ (cs : List ℕ) {c : ℕ} {ds : List ℕ} (e : settled cs ≡ suc c ∷ ds) where
  pub past-total : total cs ≡ suc c + total ds
  unfolding total
  past-total = sym (settled-total cs) ∙ ap total e

  pub past-here : {left : ℕ} → total cs ≡ left → ending left (c ∷ ds) ≡ 0
  unfolding ending
  past-here {left} h =
      let t : total ds < left = omega (arith, h, past-total) in
      let z : hit left (total ds) ≡ 0 = hit-no left (total ds) (λ q. omega (arith, t, q)) in
      omega (arith, z, ending-none left ds t)

  pub past-there : {left : ℕ} → (total cs ≡ left → ⊥) → ending left (c ∷ ds) ≡ ending left cs
  unfolding ending
  past-there {left} h = sym (ap (ending left) e) ∙ settled-ending left cs h
