-- The laws of the open lists that are known: one more, and fewer behind a sort without sorts inside it.
use Prim.Native.Nat.{ℕ, zero, suc, ◌+◌, ◌-◌, ◌≤◌, ◌<◌}
use mathlib.Core.Bool.{Bool, true, false}
use mathlib.Core.Path.{◌≡◌, refl, sym, ap, ◌∙◌}
use mathlib.Core.List.{List, [], ◌∷◌}
use native.Mathlib.Omega.{arith}
use lib.Dec.{eqb, ltb}
use lib.ListN.{length, set, get_or, length-set}
use lib.Seq.{get_or-set_same, get_or-set_other}
use borrow.Author.Tests.{eqb-true, eqb-false}
use Rattle.reading.specs.Pick.{pick}
use Rattle.reading.proofs.Picks.{pick_eq, pick_ne, pick_lt, pick_ge}
use Rattle.grammar.specs.Numbers.{hit}
use Rattle.smtlevels.specs.Open.{total, ending, settled}
use Rattle.smtlevels.specs.Levels.{Within, Known, standing, below, half}
use Rattle.smtlevels.proofs.Open.{hit-yes, hit-no, ending-none, past-total}

-- What holds whether a test for equal numbers tells the one or the other.
by_test : (a b x y : ℕ) (P : ℕ → Type 0) → (a ≡ b → P x) → ((a ≡ b → ⊥) → P y) → P (pick (eqb a b) x y)
unfolding pick
by_test a b x y P h k = go (eqb a b) refl
  where
    go : (t : Bool) → eqb a b ≡ t → P (pick t x y)
    go true e = h (eqb-true a b e)
    go false e = k (eqb-false a b e)

-- The same by other names.
pub within_as : {bases bases' : List ℕ} {known known' : ℕ} → bases' ≡ bases → known' ≡ known → Within bases known → Within bases' known'
within_as e f h = rw (e, f) h

-- What is known does not hang on the innermost list's own sorts, nor on what stands behind it in the array.
pub known_as : (bases : List ℕ) (k c d : ℕ) (cs : List ℕ) → Known bases k (c ∷ cs) → Known bases k (d ∷ cs)
known_as bases zero c d cs h = tt
known_as bases (suc k) c d cs h = h

known_kept : (bases : List ℕ) (i x k : ℕ) (cs : List ℕ) → k ≤ i → Known bases k cs → Known (set bases i x) k cs
known_kept bases i x zero cs h o = tt
known_kept bases i x (suc k) [] h o = o
known_kept bases i x (suc k) (c ∷ cs) h o = (get_or-set_other bases i k x 0 (λ e. omega (arith, h, e)) ∙ o.0, known_kept bases i x k cs (omega (arith, h)) o.1)

-- The inner half moves to the front of the array, so many of it.
pub record Moved (l₀ l : List ℕ) (i : ℕ) : Type 0 where
  pub long : length l ≡ length l₀
  pub front : (j : ℕ) → j < i → get_or l j 0 ≡ get_or l₀ (j + half) 0
  pub still : (j : ℕ) → i ≤ j → get_or l j 0 ≡ get_or l₀ j 0

pub moved_none : (l : List ℕ) → Moved l l 0
moved_none l = record { long = refl; front = λ j h. absurd (omega (arith, h)); still = λ j h. refl }

pub moved-one : (l₀ l : List ℕ) (i : ℕ) → i < length l → Moved l₀ l i → Moved l₀ (set l i (get_or l (i + half) 0)) (i + 1)
moved-one l₀ l i h m =
    record {
      long = length-set l i _ ∙ m.long;
      front = λ j g. go j g (eqb j i) refl;
      still = λ j g. get_or-set_other l i j _ 0 (λ e. omega (arith, g, e)) ∙ m.still j (omega (arith, g));
    }
  where
    go : (j : ℕ) → j < i + 1 → (t : Bool) → eqb j i ≡ t → get_or (set l i (get_or l (i + half) 0)) j 0 ≡ get_or l₀ (j + half) 0
    go j g true e = rw (eqb-true j i e) (get_or-set_same l i _ 0 h ∙ m.still (i + half) (omega arith))
    go j g false e = get_or-set_other l i j _ 0 (eqb-false j i e) ∙ m.front j (omega (arith, g, eqb-false j i e))

-- The lists that stand in the inner half, moved to the front of the array, are known as before.
pub moved-known : (l₀ l : List ℕ) (k n : ℕ) (cs : List ℕ) → ((j : ℕ) → j < half → get_or l j 0 ≡ get_or l₀ (half + j) 0) → n ≡ k + half → k ≤ half → Known l₀ n cs → Known l k cs
moved-known l₀ l zero n cs m e h o = tt
moved-known l₀ l (suc k) zero cs m e h o = absurd (omega (arith, e))
moved-known l₀ l (suc k) (suc n) [] m e h o = absurd o
moved-known l₀ l (suc k) (suc n) (c ∷ cs) m e h o =
    let f : half + k ≡ n = omega (arith, e) in
    (m k (omega (arith, h)) ∙ ap (λ j. get_or l₀ j 0) f ∙ o.0, moved-known l₀ l k n cs m (omega (arith, f)) (omega (arith, h)) o.1)

-- One list more.
pub known_more : (bases : List ℕ) (k c : ℕ) (cs : List ℕ) {base : ℕ} → k < length bases → base ≡ total cs → Known bases k cs → Known (set bases k base) (k + 1) (c ∷ cs)
known_more bases k c cs {base} h e o =
    let z : k + 1 ≡ suc k = omega arith in
    rw z (get_or-set_same bases k base 0 h ∙ e, known_kept bases k base k cs (omega arith) o)

-- Behind a sort without sorts inside it: those that stand are the innermost of the lists that have not ended.
pub standing-known : (bases : List ℕ) (left k : ℕ) (cs : List ℕ) → left ≡ total cs → Known bases k cs → Known bases (standing bases left k) (settled cs)
unfolding standing total settled
standing-known bases left zero cs e o = tt
standing-known bases left (suc k) [] e o = absurd o
standing-known bases left (suc k) (zero ∷ cs) e o =
    by_test (get_or bases k 0) left (standing bases left k) (suc k) (λ n. Known bases n (settled cs)) (λ f. standing-known bases left k cs (omega (arith, e)) o.1) (λ f. absurd (f (omega (arith, e, o.0))))
standing-known bases left (suc k) (suc c ∷ cs) e o =
    by_test (get_or bases k 0) left (standing bases left k) (suc k) (λ n. Known bases n (suc c ∷ cs)) (λ f. absurd (omega (arith, e, f, o.0))) (λ f. o)

-- The others have ended, and they are all that have if any stands.
standing-ends : (bases : List ℕ) (left k : ℕ) (cs : List ℕ) → left ≡ total cs → Known bases k cs → 0 < standing bases left k → standing bases left k + ending left cs ≡ k
unfolding standing total ending
standing-ends bases left zero cs e o h = absurd (omega (arith, h))
standing-ends bases left (suc k) [] e o h = absurd o
standing-ends bases left (suc k) (c ∷ cs) e o h =
    by_test (get_or bases k 0) left (standing bases left k) (suc k) (λ n. 0 < n → n + (hit left (total cs) + ending left cs) ≡ suc k)
    (λ f i. omega (arith, standing-ends bases left k cs (sym f ∙ o.0) o.1 i, hit-yes left (total cs) (sym f ∙ o.0)))
    (λ f i.
    let t : total cs < left = omega (arith, e, o.0, f) in
    omega (arith, hit-no left (total cs) (λ q. omega (arith, t, q)), ending-none left cs t))
    h

pub standing-count : (bases : List ℕ) (left k : ℕ) (cs : List ℕ) {rest : ℕ} → left ≡ total cs → Known bases k cs → rest ≡ standing bases left k → (rest ≡ 0 → ⊥) → k - rest ≡ ending left cs
standing-count bases left k cs e o h n = omega (arith, h, n, standing-ends bases left k cs e o (omega (arith, h, n)))

-- A list ends, or it does not.
pub standing_on : (bases : List ℕ) (left k : ℕ) → 0 < k → get_or bases (k - 1) 0 ≡ left → standing bases left (k - 1) ≡ standing bases left k
unfolding standing
standing_on bases left zero h e = absurd (omega (arith, h))
standing_on bases left (suc k) h e = let z : suc k - 1 ≡ k = omega arith in rw z (pick_eq _ (rw z at e) refl)

pub standing_here : (bases : List ℕ) (left k : ℕ) → 0 < k → (get_or bases (k - 1) 0 ≡ left → ⊥) → k ≡ standing bases left k
unfolding standing
standing_here bases left zero h e = absurd (omega (arith, h))
standing_here bases left (suc k) h e = let z : suc k - 1 ≡ k = omega arith in pick_ne _ (rw z at e) refl

pub standing-none : (bases : List ℕ) (left k : ℕ) → k ≤ 0 → 0 ≡ standing bases left k
unfolding standing
standing-none bases left zero h = refl
standing-none bases left (suc k) h = absurd (omega (arith, h))

-- The lists that end where fewer sorts than so many are to come: all of them where fewer are to come, and then one more.
module _ (left c : ℕ) (cs : List ℕ) where
  below-inner : total cs < left → c ∷ cs ≡ below left (c ∷ cs)
  unfolding below
  below-inner h = pick_lt _ h refl

  below_outer : left ≤ total cs → below left cs ≡ below left (c ∷ cs)
  unfolding below
  below_outer h = pick_ge _ h refl

below_all : (left : ℕ) (cs : List ℕ) → total cs < left → cs ≡ below left cs
unfolding below total
below_all left [] h = refl
below_all left (c ∷ cs) h = below-inner left c cs (omega (arith, h))

-- They are those that have not ended where just so many are to come, and those that end there are none of them.
pub below-settled : (left : ℕ) (cs : List ℕ) → left ≡ total cs → below left cs ≡ settled cs
unfolding below total settled
below-settled left [] e = refl
below-settled left (zero ∷ cs) e = sym (below_outer left zero cs (omega (arith, e))) ∙ below-settled left cs (omega (arith, e))
below-settled left (suc c ∷ cs) e = sym (below-inner left (suc c) cs (omega (arith, e)))

settled-below : (left : ℕ) (cs : List ℕ) → left ≤ total cs → below left cs ≡ below left (settled cs)
unfolding total settled
settled-below left [] h = refl
settled-below left (zero ∷ cs) h = sym (below_outer left zero cs (omega (arith, h))) ∙ settled-below left cs (omega (arith, h))
settled-below left (suc c ∷ cs) h = refl

below_as : (left c d : ℕ) (cs bases : List ℕ) (k : ℕ) → Known bases k (below left (c ∷ cs)) → Known bases k (below left (d ∷ cs))
unfolding below pick
below_as left c d cs bases k o = go (ltb (total cs) left) o
  where
    go : (t : Bool) → Known bases k (pick t (c ∷ cs) (below left cs)) → Known bases k (pick t (d ∷ cs) (below left cs))
    go true o = known_as bases k c d cs o
    go false o = o

-- The steps of a walk where only these are known.
all_known : (left : ℕ) (cs bases : List ℕ) (k : ℕ) → total cs < left → Known bases k (below left cs) → Known bases k cs
all_known left cs bases k h o = rw (sym (below_all left cs h)) at o

module _ (left c : ℕ) (cs bases : List ℕ) (k : ℕ) {p : ℕ} (q : p ≡ total cs) where
  pub outer_into : left ≤ p → Known bases k (below left cs) → Known bases k (below left (c ∷ cs))
  outer_into h o = rw (below_outer left c cs (omega (arith, q, h))) at o

  pub outer_past : {ds : List ℕ} → settled cs ≡ suc c ∷ ds → left ≤ p → Known bases k (below left cs) → Known bases k (below left (c ∷ ds))
  outer_past {ds} e h o = below_as left (suc c) c ds bases k (rw (settled-below left cs (omega (arith, q, h)) ∙ ap (below left) e) at o)

  pub inner-into : (bases' : List ℕ) (r : ℕ) → p < left → (Known bases k cs → Known bases' r (c ∷ cs)) → Known bases k (below left cs) → Known bases' r (below left (c ∷ cs))
  inner-into bases' r h f o =
      let t : total cs < left = omega (arith, q, h) in
      rw (below-inner left c cs t) at (f (all_known left cs bases k t o))

  pub inner-past : {ds : List ℕ} {r : ℕ} → settled cs ≡ suc c ∷ ds → p < left → r ≡ standing bases p k → Known bases k (below left cs) → Known bases r (below left (c ∷ ds))
  inner-past {ds} {r} e h f o =
      let x : Known bases r (settled cs) = rw f (standing-known bases p k cs q (all_known left cs bases k (omega (arith, q, h)) o)) in
      rw (below-inner left c ds (omega (arith, q, h, past-total cs e))) at (known_as bases r (suc c) c ds (rw e at x))
