-- The names of parameters: whether each tree is a pair, as the loop finds it, and the names and sorts as those of binders.
use Prim.Native.Nat.{ℕ, suc, ◌+◌, ◌≤◌, ◌<◌}
use mathlib.Core.Path.{◌≡◌, refl, sym, ap, ◌∙◌}
use mathlib.Core.Bool.{Bool, true, false, true≢false}
use mathlib.Core.List.{List, [], ◌∷◌, ◌++◌}
use native.Mathlib.Omega.{arith}
use lib.ListN.{length, drop}
use Rattle.reading.specs.Bytes.{Span}
use Rattle.reading.specs.Tree.{Tree, Trees, tnil, tcons, trees, tree_words, trees_words}
use Rattle.reading.specs.Answer.{Refusal, malformed, Ans, got, bad, and_then}
use Rattle.grammar.specs.Sort.{Sort}
use Rattle.grammar.specs.ParseExpr.{name_of, sort_in, Binders, binders}
use Rattle.grammar.specs.ParseSolution.{all_names, all_sorts}
use Rattle.sorts.specs.Rows.{is_got}
use Rattle.places.specs.Spot.{Spot}
use Rattle.plans.specs.BinderWords.{BinderRow}
use Rattle.places.proofs.FirstTree.{More, some, none_left}
use Rattle.plans.proofs.BinderPairs.{pair-bad}
use Rattle.places.proofs.Inside.{first-there, others-there}

-- ---- names

-- The rest of the names counts if the first tree is a pair.
names_more : (t : Tree) (ts : Trees) → is_got (name_of t) ≡ true → is_got (all_names (tcons t ts)) ≡ is_got (all_names ts)
unfolding all_names
names_more t ts e = go (name_of t) (all_names ts) e
  where
    go : (a : Ans Span) (b : Ans (List Span)) → is_got a ≡ true → is_got (and_then a λ s. and_then b λ ss. got (s ∷ ss)) ≡ is_got b
    go (got s) (got ss) h = refl
    go (got s) (bad r) h = refl
    go (bad r) b h = absurd (true≢false (sym h))

names-none : (t : Tree) (ts : Trees) → is_got (name_of t) ≡ false → all_names (tcons t ts) ≡ bad malformed
unfolding all_names
names-none t ts e = rw (pair-bad t e) refl

-- There is no refusal but 8.
pub names-bad : (ts : Trees) → is_got (all_names ts) ≡ false → all_names ts ≡ bad malformed
unfolding all_names
names-bad tnil h = absurd (true≢false h)
names-bad (tcons t ts) h = go (is_got (name_of t)) refl (names-bad ts)
  where
    go : (b : Bool) → is_got (name_of t) ≡ b → (is_got (all_names ts) ≡ false → all_names ts ≡ bad malformed) → all_names (tcons t ts) ≡ bad malformed
    go false e k = names-none t ts e
    go true e k = also (name_of t) e (k (sym (names_more t ts e) ∙ h))
      where
        also : (a : Ans Span) → is_got a ≡ true → all_names ts ≡ bad malformed → and_then a (λ s. and_then (all_names ts) λ ss. got (s ∷ ss)) ≡ bad malformed
        also (got s) g x = rw x refl
        also (bad r) g x = absurd (true≢false (sym g))

-- The names of trees that are all pairs.
pub record Some (ts : Trees) : Type 0 where
  pub names : List Span
  pub is : all_names ts ≡ got names

pub names-got : (ts : Trees) → is_got (all_names ts) ≡ true → Some ts
names-got ts h = go (all_names ts) refl h
  where
    go : (a : Ans (List Span)) → all_names ts ≡ a → is_got a ≡ true → Some ts
    go (got ss) e g = record { names = ss; is = e }
    go (bad r) e g = absurd (true≢false (sym g))

-- How far a loop over pairs has come.
pub record Pairing (ws : List ℕ) (at n : ℕ) (h : BinderRow ws at n 0) (i p : ℕ) : Type 0 where
  pub items : Trees
  pub words : drop p ws ≡ trees_words items ++ h.rest
  pub many : n ≡ i + trees items
  pub same : is_got (all_names h.items) ≡ is_got (all_names items)

module _ {ws : List ℕ} {at n : ℕ} {h : BinderRow ws at n 0} where
  pub pairing_start : Pairing ws at n h 0 at
  pairing_start = record { items = h.items; words = h.words; many = omega (arith, h.many); same = refl }

  module _ {i p : ℕ} (g : Pairing ws at n h i p) where
    -- All are pairs.
    pub pairing_end : n ≤ i → true ≡ is_got (all_names h.items)
    unfolding all_names
    pairing_end e = rw (g.same, none_left g.items (omega (arith, g.many))) refl

    module _ (l : i < n) where
      pub next-pair : More g.items
      next-pair = some g.items (omega (arith, g.many))

      next-words : drop p ws ≡ trees_words (tcons next-pair.first next-pair.others) ++ h.rest
      next-words = g.words ∙ ap (λ (t : Trees). trees_words t ++ h.rest) next-pair.is

      pub pair-words : drop p ws ≡ tree_words next-pair.first ++ (trees_words next-pair.others ++ h.rest)
      pair-words = first-there ws p next-pair.first next-pair.others h.rest next-words

      abbrev pub pair-spot : Spot ws p
      pair-spot = record { tree = next-pair.first; rest = trees_words next-pair.others ++ h.rest; words = pair-words }

      pair-count : trees g.items ≡ suc (trees next-pair.others)
      unfolding trees
      pair-count = ap trees next-pair.is

      -- One is none.
      pub pairing_bad : {r : Bool} → r ≡ is_got (name_of next-pair.first) → r ≡ false → false ≡ is_got (all_names h.items)
      pairing_bad x e = sym (g.same ∙ ap (λ (t : Trees). is_got (all_names t)) next-pair.is ∙ ap is_got (names-none next-pair.first next-pair.others (sym x ∙ e)))

      pub pairing_more : {r : Bool} {j : ℕ} → r ≡ is_got (name_of next-pair.first) → r ≡ true → j ≡ length (tree_words next-pair.first) → Pairing ws at n h (i + 1) (p + j)
      pairing_more {j = j} x e is = record {
        items = next-pair.others;
        words = others-there ws p next-pair.first next-pair.others h.rest next-words j is;
        many = omega (arith, g.many, pair-count);
        same = g.same ∙ ap (λ (t : Trees). is_got (all_names t)) next-pair.is ∙ names_more next-pair.first next-pair.others (sym x ∙ e);
      }

-- ---- names and sorts are those of binders

abbrev pub with_names : List Span → Ans (List Sort) → Ans Binders
with_names names a = and_then a λ os. got (record { names = names; sorts = os })

pub names-binders : (text : List ℕ) (ts : Trees) (names : List Span) → all_names ts ≡ got names → binders text ts ≡ with_names names (all_sorts text ts)
unfolding all_names all_sorts binders
names-binders text tnil names e = let z : [] ≡ names = cc in rw (sym z) refl
names-binders text (tcons t ts) names e = go (name_of t) (all_names ts) (names-binders text ts) e
  where
    rest : (s : Span) (ss : List Span) (a : Ans Sort) (b : Ans (List Sort))
        → and_then a (λ o. and_then (with_names ss b) λ bs. got (record { names = s ∷ bs.names; sorts = o ∷ bs.sorts })) ≡ with_names (s ∷ ss) (and_then a λ o. and_then b λ os. got (o ∷ os))
    rest s ss (got o) (got os) = refl
    rest s ss (got o) (bad r) = refl
    rest s ss (bad r) b = refl

    go : (a : Ans Span) (b : Ans (List Span)) → ((ns : List Span) → b ≡ got ns → binders text ts ≡ with_names ns (all_sorts text ts)) → and_then a (λ s. and_then b λ ss. got (s ∷ ss)) ≡ got names
        → and_then a (λ s. and_then (sort_in text t) λ o. and_then (binders text ts) λ bs. got (record { names = s ∷ bs.names; sorts = o ∷ bs.sorts }))
        ≡ with_names names (and_then (sort_in text t) λ o. and_then (all_sorts text ts) λ os. got (o ∷ os))
    go (got s) (got ss) ih x = let z : s ∷ ss ≡ names = cc in rw (sym z, ih ss refl) (rest s ss (sort_in text t) (all_sorts text ts))
    go (got s) (bad r) ih x = let z : ◌≡◌ {A = ℕ} 0 1 = cc in absurd (omega arith)
    go (bad r) b ih x = let z : ◌≡◌ {A = ℕ} 0 1 = cc in absurd (omega arith)

-- What was read.
pub record Split (names : List Span) (a : Ans (List Sort)) (bs : Binders) : Type 0 where
  pub sorts : a ≡ got bs.sorts
  pub same : names ≡ bs.names

pub split-got : (names : List Span) (a : Ans (List Sort)) (bs : Binders) → with_names names a ≡ got bs → Split names a bs
split-got names (got os) bs e =
    let z : record { names = names; sorts = os } ≡ bs = cc in
    record { sorts = ap (λ (b : Binders). got b.sorts) z; same = ap (λ (b : Binders). b.names) z }
split-got names (bad r) bs e = let z : ◌≡◌ {A = ℕ} 0 1 = cc in absurd (omega arith)

pub split-bad : (names : List Span) (a : Ans (List Sort)) (r : Refusal) → with_names names a ≡ bad r → a ≡ bad r
split-bad names (got os) r e = let z : ◌≡◌ {A = ℕ} 0 1 = cc in absurd (omega arith)
split-bad names (bad q) r e = cc
