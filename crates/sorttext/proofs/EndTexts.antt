-- How many lists end behind a sort is counted by walking there again.
use Prim.Native.Nat.{ℕ, suc, ◌+◌, ◌-◌, ◌≤◌, ◌<◌}
use mathlib.Core.Bool.{Bool, true, false}
use mathlib.Core.Path.{◌≡◌, refl, sym, ap, ◌∙◌}
use mathlib.Core.List.{List, [], ◌∷◌, ◌++◌, append-nil}
use native.Mathlib.Omega.{arith}
use lib.Dec.{eqb}
use lib.ListN.{length, replicate}
use borrow.Author.Tests.{eqb-true, eqb-false, eq-eqb, ne_eqb}
use Rattle.reading.specs.Pick.{pick}
use Rattle.reading.proofs.Picks.{pick_true, pick-false}
use Rattle.grammar.specs.Numbers.{hit}
use Rattle.smtlevels.specs.Open.{total, ending, settled}
use Rattle.smtlevels.proofs.Open.{hit-yes, hit-no, past-total, past-here, past-there}
use Rattle.sortnodes.specs.Told.{sort_node_at, size_of, inside_of}
use Rattle.sorttext.specs.SortWalk.{Step, into, past, Walk, here, more, end_text}
use Rattle.smtlevels.specs.Levels.{Known, below}
use Rattle.sortnodes.specs.declared.SortNode.{SortNode}
use Rattle.sortnodes.specs.declared.SortNode.TheVariants as told

-- A sort takes one word at least, and five at most before the sorts inside it.
pub size-some : (x : SortNode) → 0 < size_of x
size-some told.Int = omega arith
size-some told.Bool = omega arith
size-some told.Real = omega arith
size-some told.Str = omega arith
size-some (told.BitVec w) = omega arith
size-some (told.Array n) = omega arith
size-some (told.Data s n) = omega arith
size-some told.Other = omega arith

pub size_few : (x : SortNode) → size_of x ≤ 5
size_few told.Int = omega arith
size_few told.Bool = omega arith
size_few told.Real = omega arith
size_few told.Str = omega arith
size_few (told.BitVec w) = omega arith
size_few (told.Array n) = omega arith
size_few (told.Data s n) = omega arith
size_few told.Other = omega arith

-- A walk goes on.
step-on : {ws : List ℕ} {a b : ℕ} {cs ds : List ℕ} → Step ws a cs b ds → a < b
step-on {ws} {a} (into i e f) = omega (arith, size-some (sort_node_at ws a))
step-on {ws} {a} (past i e f) = omega (arith, size-some (sort_node_at ws a))

walk-on : {ws : List ℕ} {a b : ℕ} {cs ds : List ℕ} → Walk ws a cs b ds → a ≤ b
walk-on here = omega arith
walk-on (more s w) = omega (arith, step-on s, walk-on w)

-- From a place with so many sorts to come and so many lists that would end, the walk goes to a place and its lists.
pub record Toward (ws : List ℕ) (at left : ℕ) (es : List ℕ) (a pending k : ℕ) (bases : List ℕ) (held : ℕ) : Type 0 where
  pub levels : List ℕ
  pub walk : Walk ws a levels at es
  pub sum : pending ≡ total levels
  pub known : k ≡ ending left levels
  pub holds : Known bases held (below left levels)
  pub few : pending ≤ length ws

pub toward_start : {ws : List ℕ} {from at left : ℕ} {es : List ℕ} {bases : List ℕ} → Walk ws from [] at es → Toward ws at left es from 0 0 bases 0
unfolding total ending
toward_start w = record { levels = []; walk = w; sum = refl; known = refl; holds = tt; few = omega arith }

-- At the end.
module _ {ws : List ℕ} {at left : ℕ} {es : List ℕ} {a pending k : ℕ} {bases : List ℕ} {held : ℕ} (t : Toward ws at left es a pending k bases held) (h : at ≤ a) where
  arrived : t.levels ≡ es
  arrived = go t.walk h
    where
      go : {ws : List ℕ} {at : ℕ} {es cs : List ℕ} {a : ℕ} → Walk ws a cs at es → at ≤ a → cs ≡ es
      go here h = refl
      go (more s w) h = absurd (omega (arith, step-on s, walk-on w, h))

  pub toward_end : k ≡ ending left es
  toward_end = t.known ∙ ap (ending left) arrived

  pub toward_held : Known bases held (below left es)
  toward_held = rw arrived at t.holds

-- Before it: the place is inside the words, and there is a next one.
first_step : {P : Type 0} {ws : List ℕ} {a b : ℕ} {cs ds : List ℕ} → Walk ws a cs b ds → a < b → ((m : ℕ) (es : List ℕ) → Step ws a cs m es → Walk ws m es b ds → P) → P
first_step here h f = absurd (omega (arith, h))
first_step (more {b = m} {ds = es} s w) h f = f m es s w

step-inside : {ws : List ℕ} {a b : ℕ} {cs ds : List ℕ} → Step ws a cs b ds → a < length ws
step-inside (into i e f) = i
step-inside (past i e f) = i

pub toward_inside : {ws : List ℕ} {at left : ℕ} {es : List ℕ} {a pending k : ℕ} {bases : List ℕ} {held : ℕ} → Toward ws at left es a pending k bases held → a < at → a < length ws
toward_inside t h = first_step t.walk h λ m es s w. step-inside s

-- Into a sort.
into_next : {ws : List ℕ} {at left : ℕ} {es : List ℕ} {a b pending k : ℕ} {cs ds : List ℕ} → Step ws a cs b ds → Walk ws b ds at es → pending ≡ total cs → k ≡ ending left cs → (inside_of (sort_node_at ws a) ≡ 0 → ⊥) → {p' k' : ℕ} → p' ≡ pending + inside_of (sort_node_at ws a) - 1 → k' ≡ pick (eqb pending left) (k + 1) k
    → {bases : List ℕ} {held : ℕ} → ((c : ℕ) → Known bases held (below left (c ∷ cs))) → Toward ws at left es (a + size_of (sort_node_at ws a)) p' k' bases held
unfolding total ending pick
into_next {left = left} {pending = pending} {k = k} (into {m = m} {cs = cs} i e f) w p q z {k' = k'} g h o =
    record {
      levels = m ∷ cs;
      walk = w;
      sum = omega (arith, p, g, e);
      known = go (eqb pending left) refl h;
      holds = o m;
      few = omega (arith, p, g, e, f);
    }
  where
    go : (t : Bool) → eqb pending left ≡ t → k' ≡ pick t (k + 1) k → k' ≡ hit left (total cs) + ending left cs
    go true u v = omega (arith, v, q, hit-yes left (total cs) (sym (eqb-true pending left u) ∙ p))
    go false u v = omega (arith, v, q, hit-no left (total cs) (λ o. eqb-false pending left u (p ∙ sym o)))
into_next (past i e f) w p q z g h o = absurd (z e)

-- Past a sort.
past-known : (left pending c : ℕ) (cs ds : List ℕ) {k k' : ℕ} → settled cs ≡ suc c ∷ ds → pending ≡ total cs → k ≡ ending left cs → k' ≡ pick (eqb pending left) 0 k → k' ≡ ending left (c ∷ ds)
unfolding pick
past-known left pending c cs ds {k} {k'} e p q h = go (eqb pending left) refl h
  where
    go : (t : Bool) → eqb pending left ≡ t → k' ≡ pick t 0 k → k' ≡ ending left (c ∷ ds)
    go true u v = v ∙ sym (past-here cs e (sym p ∙ eqb-true pending left u))
    go false u v = v ∙ q ∙ sym (past-there cs e (λ o. eqb-false pending left u (p ∙ o)))

past_next : {ws : List ℕ} {at left : ℕ} {es : List ℕ} {a b pending k : ℕ} {cs ds : List ℕ} → Step ws a cs b ds → Walk ws b ds at es → pending ≡ total cs → k ≡ ending left cs → pending ≤ length ws → inside_of (sort_node_at ws a) ≡ 0 → {p' k' : ℕ} → p' ≡ pending - 1 → k' ≡ pick (eqb pending left) 0 k
    → {bases : List ℕ} {held : ℕ} → ((c : ℕ) (ds : List ℕ) → settled cs ≡ suc c ∷ ds → Known bases held (below left (c ∷ ds))) → Toward ws at left es (a + size_of (sort_node_at ws a)) p' k' bases held
unfolding total
past_next (into i e f) w p q r z g h o = absurd (omega (arith, z, e))
past_next {left = left} {pending = pending} (past {c = c} {cs = cs} {ds = ds} i e f) w p q r z g h o =
    record {
      levels = c ∷ ds;
      walk = w;
      sum = omega (arith, p, g, past-total cs f);
      known = past-known left pending c cs ds f p q h;
      holds = o c ds f;
      few = omega (arith, r, g);
    }

past-some : {ws : List ℕ} {a b : ℕ} {cs ds : List ℕ} → Step ws a cs b ds → inside_of (sort_node_at ws a) ≡ 0 → 0 < total cs
past-some (into i e f) z = absurd (omega (arith, z, e))
past-some (past {cs = cs} i e f) z = omega (arith, past-total cs f)

-- The same of what is told of a sort.
module _ {ws : List ℕ} {at left : ℕ} {es : List ℕ} {a pending k : ℕ} {bases : List ℕ} {held : ℕ} (t : Toward ws at left es a pending k bases held) (h : a < at) {x : SortNode} (e : x ≡ sort_node_at ws a) {n : ℕ} (f : n ≡ inside_of x) where
  pub toward_into : (n ≡ 0 → ⊥) → {z p' k' : ℕ} → z ≡ size_of x → p' ≡ pending + n - 1 → k' ≡ pick (eqb pending left) (k + 1) k
      → {bases' : List ℕ} {held' : ℕ} → ((c : ℕ) (cs : List ℕ) → pending ≡ total cs → Known bases held (below left cs) → Known bases' held' (below left (c ∷ cs))) → Toward ws at left es (a + z) p' k' bases' held'
  toward_into some {z} {p'} {k'} y g q o =
      let i : n ≡ inside_of (sort_node_at ws a) = f ∙ ap inside_of e in
      let j : z ≡ size_of (sort_node_at ws a) = y ∙ ap size_of e in
      rw j (first_step t.walk h λ m ds s w. into_next s w t.sum t.known (λ o. some (i ∙ o)) (rw i at g) q (λ c. o c _ t.sum t.holds))

  pub toward_past : n ≡ 0 → {z p' k' : ℕ} → z ≡ size_of x → p' ≡ pending - 1 → k' ≡ pick (eqb pending left) 0 k
      → {bases' : List ℕ} {held' : ℕ} → ((c : ℕ) (cs ds : List ℕ) → settled cs ≡ suc c ∷ ds → pending ≡ total cs → Known bases held (below left cs) → Known bases' held' (below left (c ∷ ds))) → Toward ws at left es (a + z) p' k' bases' held'
  toward_past none {z} {p'} {k'} y g q o =
      let i : inside_of (sort_node_at ws a) ≡ 0 = sym (ap inside_of e) ∙ sym f ∙ none in
      let j : z ≡ size_of (sort_node_at ws a) = y ∙ ap size_of e in
      rw j (first_step t.walk h λ m ds s w. past_next s w t.sum t.known t.few i g q (λ c ds e. o c _ ds e t.sum t.holds))

  pub toward_some : n ≡ 0 → 0 < pending
  toward_some none =
      let i : inside_of (sort_node_at ws a) ≡ 0 = sym (ap inside_of e) ∙ sym f ∙ none in
      first_step t.walk h λ m ds s w. omega (arith, past-some s i, t.sum)

-- The same by other names.
pub toward_as : {ws : List ℕ} {at left : ℕ} {es : List ℕ} {a pending k : ℕ} {bases bases' : List ℕ} {held held' : ℕ} → bases' ≡ bases → held' ≡ held → Toward ws at left es a pending k bases held → Toward ws at left es a pending k bases' held'
toward_as e f t = rw (e, f) t

-- What is written behind a sort, with nothing to come or with more.
module _ (cs : List ℕ) {k left : ℕ} (e : k ≡ ending left cs) (f : left ≡ total cs) where
  pub end-last : left ≡ 0 → replicate k 41 ≡ end_text cs
  unfolding end_text
  end-last h =
      let z : eqb (total cs) 0 ≡ true = eq-eqb (total cs) 0 (sym f ∙ h) in
      rw (e, f) (sym (append-nil _) ∙ ap (λ t. replicate (ending (total cs) cs) 41 ++ t) (pick_true _ z refl))

  pub end_more : (left ≡ 0 → ⊥) → replicate k 41 ++ (32 ∷ []) ≡ end_text cs
  unfolding end_text
  end_more h =
      let z : eqb (total cs) 0 ≡ false = ne_eqb (total cs) 0 (λ o. h (f ∙ o)) in
      rw (e, f) (ap (λ t. replicate (ending (total cs) cs) 41 ++ t) (pick-false _ z refl))
