-- What holds of items of a list, and of binders that are read from trees.
use Prim.Native.Nat.{ℕ, zero, suc, ◌+◌, ◌*◌, ◌≤◌}
use mathlib.Core.Path.{◌≡◌, refl, ap}
use mathlib.Core.List.{List, [], ◌∷◌}
use native.Mathlib.Omega.{arith}
use lib.ListN.{length, length-append}
use Rattle.reading.specs.Bytes.{Span}
use Rattle.reading.specs.Tree.{Tree, Trees, list, tnil, tcons, tree_words, trees_words, nesting, Within, AllWithin, weight, weights}
use Rattle.grammar.specs.Sort.{Sort, sort_words}
use Rattle.grammar.specs.ParseSort.{in_list, tree_at, parse_sort}
use Rattle.grammar.specs.Item.{words_of}
use Rattle.grammar.specs.Expr.{binder_items}
use Rattle.grammar.specs.Scope.{numbered}
use Rattle.grammar.specs.ParseExpr
use Rattle.grammar.specs.ParseExpr.{name_of}
use Rattle.grammar.specs.Shape.{BindersCoded}
use Rattle.reading.proofs.Weight.{weight-some}
use Rattle.grammar.proofs.Items.{words-front}
use Rattle.grammar.proofs.AnswerHolds.{Every, then-every, any-every, map-every}
use Rattle.grammar.proofs.SortOf.{SortOf, in_list_lem, sort_of_lem}
use Rattle.grammar.proofs.WalkKeeps.{BindersOf}

-- A tree that stands among others.
pub record TreeIn (ts : Trees) (t : Tree) : Type 0 where
  pub within : (limit : ℕ) → AllWithin ts limit → Within t limit
  pub weighs : weight t ≤ weights ts
  pub long : length (tree_words t) ≤ length (trees_words ts)

pub tree-at : (ts : Trees) (i : ℕ) → Every (tree_at ts i) (TreeIn ts)
unfolding tree_at weight tree_words
tree-at tnil i = tt
tree-at (tcons t ts) zero = record { within = λ limit w. w.0; weighs = omega arith; long = omega (arith, length-append (tree_words t) (trees_words ts)) }
tree-at (tcons t ts) (suc i) =
    map-every (tree_at ts i) (TreeIn ts) (TreeIn (tcons t ts)) (λ u h. record { within = λ limit w. h.within limit w.1; weighs = omega (arith, h.weighs); long = omega (arith, h.long, length-append (tree_words t) (trees_words ts)) }) (tree-at ts i)

-- A sort from an item of a list.
pub sort_from : (ts : Trees) (t : Tree) (o : Sort) → TreeIn ts t → SortOf t o → SortOf (list ts) o
unfolding weight tree_words
sort_from ts t o i s =
    record { coded = λ limit w. s.coded limit (i.within limit w); size = omega (arith, i.weighs, s.size); short = omega (arith, i.long, s.short) }

-- The sorts of binders, each read from one of these trees.
pub record SortsFrom (ts : Trees) (os : List Sort) : Type 0 where
  pub coded : (limit numbers k : ℕ) → AllWithin ts limit → k + length os ≤ numbers → BindersCoded (numbered k os) limit numbers
  pub size : (k : ℕ) → length (words_of (binder_items (numbered k os))) + length os ≤ 15 * weights ts
  pub few : length os ≤ weights ts

pub sorts-none : SortsFrom tnil []
unfolding numbered binder_items words_of weight
sorts-none = record { coded = λ limit numbers k w h. tt; size = λ k. omega arith; few = omega arith }

-- A binder's sort, with room for its number.
abbrev pub BinderSort : Tree → Sort → Type 0
BinderSort t o = SortOf t o × (length (sort_words o) + 31 ≤ 15 * weight t)

pub sorts-more : (t : Tree) (ts : Trees) (o : Sort) (os : List Sort) → BinderSort t o → SortsFrom ts os → SortsFrom (tcons t ts) (o ∷ os)
unfolding numbered binder_items words_of weight
sorts-more t ts o os p h =
    record {
      coded = λ limit numbers k w le. (omega arith, p.0.coded limit w.0, h.coded limit numbers (suc k) w.1 (omega arith));
      size = λ k. omega (arith, p.1, h.size (suc k), ap length (words-front (sort_words o) (binder_items (numbered (suc k) os))), length-append (sort_words o) (words_of (binder_items (numbered (suc k) os))));
      few = omega (arith, h.few, weight-some t);
    }

-- Names and sorts of a list of binders, as many of the one as of the other.
pub binders-made : (ts : Trees) (names : List Span) (os : List Sort) → length names ≡ length os → SortsFrom ts os → BindersOf (list ts) names os
unfolding weight nesting
binders-made ts names os e h =
    record { even = e; coded = h.coded; size = λ k. omega (arith, h.size k); few = omega (arith, h.few); nests = omega arith }

module _ (text : List ℕ) where
  -- The sort of a `(name sort)`, and that the parentheses leave room for a number.
  pub sort_in_lem : (t : Tree) → Every (ParseExpr.sort_in text t) (BinderSort t)
  unfolding ParseExpr.sort_in weight
  sort_in_lem t =
      then-every (in_list t) _ (λ ts. t ≡ list ts) _ (in_list_lem t) λ ts e.
      then-every (tree_at ts 1) _ (TreeIn ts) _ (tree-at ts 1) λ u i.
      map-every (parse_sort text u) (SortOf u) _ (λ o s. rw e (sort_from ts u o i s, omega (arith, s.size, i.weighs))) (sort_of_lem text u)

  binders_from : (ts : Trees) → Every (ParseExpr.binders text ts) (λ bs. (length bs.names ≡ length bs.sorts) × SortsFrom ts bs.sorts)
  unfolding ParseExpr.binders
  binders_from tnil = (refl, sorts-none)
  binders_from (tcons t ts) =
      any-every (name_of t) _ _ λ s.
      then-every (ParseExpr.sort_in text t) _ (BinderSort t) _ (sort_in_lem t) λ o p.
      then-every (ParseExpr.binders text ts) _ (λ bs. (length bs.names ≡ length bs.sorts) × SortsFrom ts bs.sorts) _ (binders_from ts) λ bs h.
      (ap suc h.0, sorts-more t ts o bs.sorts p h.1)

  -- The binders of a list of binders.
  pub binders_of : (ts : Trees) → Every (ParseExpr.binders text ts) (λ bs. BindersOf (list ts) bs.names bs.sorts)
  binders_of ts =
      map-every (ParseExpr.binders text ts) (λ bs. (length bs.names ≡ length bs.sorts) × SortsFrom ts bs.sorts) _ (λ bs h. binders-made ts bs.names bs.sorts h.0 h.1) (binders_from ts)
