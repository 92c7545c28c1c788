-- Pairs of a name and a sort, and the binders that they are read as.
use Rattle.std.proofs.Common.{◌≡◌, ℕ, suc, ◌+◌, ◌*◌, ◌/◌, ◌%◌, ◌^◌, ◌<◌, ◌≤◌, Bool, true, false, eqb, List, [], ◌∷◌, ◌++◌, length, get_or, drop, sym, refl, ap, ◌∙◌, subst, true≢false, append-nil, add-zero, arith, length-append, ne_eqb}
use Rattle.reading.specs.Bytes.{Span}
use Rattle.reading.specs.Tree.{symbol, quoted, integer, decimal, boolean, Tree, Trees, atom, list, tnil, tcons, trees, atom_words, tree_words, trees_words}
use Rattle.reading.specs.Answer.{malformed, Ans, got, bad, and_then}
use Rattle.grammar.specs.Sort.{Sort, sort_words, two}
use Rattle.grammar.specs.ParseSort.{in_list, in_atom, in_symbol, symbol_in, tree_at, parse_sort}
use Rattle.grammar.specs.Item.{raise, words_of}
use Rattle.grammar.specs.Expr.{binder_items}
use Rattle.grammar.specs.Scope.{numbered}
use Rattle.grammar.specs.ParseExpr.{name_of, sort_in, Binders, binders}
use Rattle.sorts.specs.Rows.{is_got}
use Rattle.places.specs.Spot.{Spot, Small}
use Rattle.scopes.specs.Scopes.{Named, none, more}
use Rattle.scopes.proofs.Variables.{low_wrapped, high_wrapped}
use Rattle.writing.specs.Laid.{laid}
use Rattle.places.specs.Outcome.{bound, Put, OutcomeAt, wrote_at, refused_at}
use Rattle.plans.specs.Plans.{factor}
use Rattle.plans.specs.BinderWords.{BinderRow, binders_words}
use Rattle.words.specs.declared.refusal.Refusal.{Refusal}
use Rattle.words.specs.declared.refusal.Refusal.TheVariants.{Malformed}
use Rattle.std.specs.Prelude.{Result, Ok, Err}
use Rattle.grammar.proofs.Items.{words-front}
use Rattle.grammar.proofs.Raise.{raise-front}
use Rattle.places.proofs.FirstTree.{More, some, none_left}
use Rattle.grammar.proofs.AnswerHolds.{Every}
use Rattle.places.proofs.SortPlace.{GotAt, got-at, bad-at, sort-short}
use Rattle.places.proofs.Puts.{put_append}
use Rattle.grammar.proofs.TreeHead.{no-list}
use Rattle.reading.proofs.TreeHead.{tree-two}
use Rattle.places.proofs.Spots.{word0, spot-within, two-there, as_list}
use Rattle.places.proofs.Inside.{items-there, first-there, first-spot, others-there, trees-size, Pair, pair_of}

-- ---- a pair

-- A tree is a symbol if its first word is 16.
symbol-got : (t : Tree) (rest : List ℕ) → eqb (get_or (tree_words t ++ rest) 0 0) 16 ≡ is_got (in_symbol t)
unfolding tree_words atom_words in_symbol in_atom symbol_in
symbol-got (atom (symbol s)) rest = refl
symbol-got (atom (quoted s)) rest = refl
symbol-got (atom (integer w)) rest = refl
symbol-got (atom (decimal s)) rest = refl
symbol-got (atom (boolean b)) rest = refl
symbol-got (list ts) rest = refl

module _ {ws : List ℕ} {at : ℕ} (p : Spot ws at) where
  pub pair-atom : (get_or ws at 0 ≡ 21 → ⊥) → false ≡ is_got (name_of p.tree)
  unfolding name_of
  pair-atom h = rw (no-list p.rest {ws = tree_words p.tree ++ p.rest} p.tree refl (λ k. h (word0 p ∙ k))) refl

  module _ (h : get_or ws at 0 ≡ 21) where
    pub pair-count : (get_or ws (at + 1) 0 ≡ 2 → ⊥) → false ≡ is_got (name_of p.tree)
    unfolding name_of in_list
    pair-count n = let l = as_list p h in rw (l.is, ne_eqb (trees l.items) 2 (λ e. n (l.many ∙ e))) refl

    module _ (n : get_or ws (at + 1) 0 ≡ 2) where
      pair : Pair (as_list p h).items
      pair = pair_of (as_list p h).items (sym (as_list p h).many ∙ n)

      pair-tree : p.tree ≡ list (tcons pair.first (tcons pair.second tnil))
      pair-tree = (as_list p h).is ∙ ap list pair.is

      pair-spot : Spot ws (at + 3)
      pair-spot =
          first-spot ws (at + 3) pair.first (tcons pair.second tnil) p.rest (items-there ws at (tcons pair.first (tcons pair.second tnil)) p.rest (p.words ∙ ap (λ (t : Tree). tree_words t ++ p.rest) pair-tree))

      pub pair-there : at + 5 ≤ length ws
      pair-there = omega (arith, spot-within pair-spot, tree-two pair-spot.tree)

      pub pair-name : eqb (get_or ws (at + 3) 0) 16 ≡ is_got (name_of p.tree)
      unfolding name_of in_list trees tree_at pair-spot
      pair-name = rw (pair-tree) (ap (λ (k : ℕ). eqb k 16) (word0 pair-spot) ∙ symbol-got pair.first pair-spot.rest)

-- A tree that is a pair.
pub record PairTree (t : Tree) : Type 0 where
  pub name : Span
  pub sort : Tree
  pub is : t ≡ list (tcons (atom (symbol name)) (tcons sort tnil))

data IsPair (t : Tree) : Type 0 where
  yes : PairTree t → IsPair t
  not : name_of t ≡ bad malformed → IsPair t

is-pair : (t : Tree) → IsPair t
unfolding name_of in_list in_symbol in_atom symbol_in tree_at trees
is-pair (atom a) = not refl
is-pair (list tnil) = not refl
is-pair (list (tcons t tnil)) = not refl
is-pair (list (tcons (atom (symbol s)) (tcons u tnil))) = yes (record { name = s; sort = u; is = refl })
is-pair (list (tcons (atom (quoted s)) (tcons u tnil))) = not refl
is-pair (list (tcons (atom (integer w)) (tcons u tnil))) = not refl
is-pair (list (tcons (atom (decimal s)) (tcons u tnil))) = not refl
is-pair (list (tcons (atom (boolean b)) (tcons u tnil))) = not refl
is-pair (list (tcons (list ts) (tcons u tnil))) = not refl
is-pair (list (tcons t (tcons u (tcons v ts)))) = not (rw (ne_eqb (suc (suc (suc (trees ts)))) 2 (λ k. omega arith)) refl)

pair-got : (t : Tree) → is_got (name_of t) ≡ true → PairTree t
pair-got t h = go (is-pair t)
  where
    go : IsPair t → PairTree t
    go (yes x) = x
    go (not e) = absurd (true≢false (sym h ∙ ap is_got e))

pub pair-bad : (t : Tree) → is_got (name_of t) ≡ false → name_of t ≡ bad malformed
unfolding name_of in_list in_symbol in_atom symbol_in tree_at trees
pair-bad t h = go (is-pair t)
  where
    go : IsPair t → name_of t ≡ bad malformed
    go (yes x) = absurd (true≢false (sym (ap (λ (u : Tree). is_got (name_of u)) x.is) ∙ h))
    go (not e) = e

-- Its sort stands behind six words.
module _ {ws : List ℕ} {at : ℕ} (p : Spot ws at) (x : PairTree p.tree) where
  pub sort-there : drop (at + 6) ws ≡ tree_words x.sort ++ (trees_words tnil ++ p.rest)
  unfolding tree_words atom_words
  sort-there =
      let six : at + 6 ≡ at + 3 + 3 = omega arith in
      let items = items-there ws at (tcons (atom (symbol x.name)) (tcons x.sort tnil)) p.rest (p.words ∙ ap (λ (t : Tree). tree_words t ++ p.rest) x.is) in
      ap (λ (k : ℕ). drop k ws) six
      ∙ first-there ws (at + 3 + 3) x.sort tnil p.rest (others-there ws (at + 3) (atom (symbol x.name)) (tcons x.sort tnil) p.rest items 3 refl)

  abbrev pub sort-spot : Spot ws (at + 6)
  sort-spot = record { tree = x.sort; rest = trees_words tnil ++ p.rest; words = sort-there }

pair_size : (t : Tree) (x : PairTree t) → length (tree_words t) ≡ 6 + length (tree_words x.sort)
unfolding tree_words atom_words
pair_size t x =
    let z : length (tree_words t) ≡ suc (suc (suc (suc (suc (suc (length (tree_words x.sort ++ []))))))) = ap (λ (u : Tree). length (tree_words u)) x.is in
    omega (arith, ap length (append-nil (tree_words x.sort)))

-- ---- binders

-- A pair in front of others.
abbrev with_pair : Span → Ans Sort → Ans Binders → Ans Binders
with_pair s a b = and_then a λ o. and_then b λ bs. got (record { names = s ∷ bs.names; sorts = o ∷ bs.sorts })

binders-more : (text : List ℕ) (t : Tree) (x : PairTree t) (ts : Trees) → binders text (tcons t ts) ≡ with_pair x.name (parse_sort text x.sort) (binders text ts)
unfolding binders sort_in name_of in_list in_symbol in_atom symbol_in tree_at trees
binders-more text t x ts = rw x.is refl

binders-bad : (text : List ℕ) (t : Tree) (ts : Trees) → name_of t ≡ bad malformed → binders text (tcons t ts) ≡ bad malformed
unfolding binders
binders-bad text t ts e = rw e refl

words_more : (c n : ℕ) (s : Span) (o : Sort) (bs : Binders) → binders_words c n (record { names = s ∷ bs.names; sorts = o ∷ bs.sorts }) ≡ (two (c + n) ++ sort_words o) ++ binders_words c (suc n) bs
unfolding numbered binder_items raise words_of
words_more c n s o bs =
    ap (λ (l : List ℕ). two (c + n) ++ l) (ap words_of (raise-front c (sort_words o) (binder_items (numbered (suc n) bs.sorts))) ∙ words-front (sort_words o) (raise c (binder_items (numbered (suc n) bs.sorts))))

-- What is known of binders that were read: they are pairs of these names, there are as many, and how many words they and their numbers come to.
pub record ReadFrom (ts : Trees) (bs : Binders) : Type 0 where
  pub named : Named ts bs.names
  pub many : length bs.sorts ≡ trees ts
  pub short : (c n : ℕ) → length (binders_words c n bs) + trees ts ≤ factor * length (trees_words ts)

pub read_from : (text : List ℕ) (ts : Trees) → Every (binders text ts) (ReadFrom ts)
unfolding binders trees tree_words numbered binder_items raise words_of
read_from text tnil = record { named = none; many = refl; short = λ c n. omega arith }
read_from text (tcons t ts) = go (is-pair t) (read_from text ts)
  where
    both : (x : PairTree t) (a : Ans Sort) → parse_sort text x.sort ≡ a → (b : Ans Binders) → Every b (ReadFrom ts) → Every (with_pair x.name a b) (ReadFrom (tcons t ts))
    both x (bad r) e b h = tt
    both x (got o) e (bad r) h = tt
    both x (got o) e (got bs) h =
        record {
          named = subst (λ (u : Tree). Named (tcons u ts) (x.name ∷ bs.names)) (sym x.is) (more {us = tcons x.sort tnil} h.named);
          many = ap suc h.many;
          short = λ c n. omega (arith, ap length (words_more c n x.name o bs), length-append (two (c + n) ++ sort_words o) (binders_words c (suc n) bs), length-append (two (c + n)) (sort_words o), sort-short text x.sort e, h.short c (suc n), pair_size t x, trees-size t ts);
        }

    go : IsPair t → Every (binders text ts) (ReadFrom ts) → Every (binders text (tcons t ts)) (ReadFrom (tcons t ts))
    go (yes x) h = rw (binders-more text t x ts) (both x (parse_sort text x.sort) refl (binders text ts) h)
    go (not e) h = rw (binders-bad text t ts e) tt

-- ---- the loop over binders

wrapped_more : (v k k' : ℕ) → k ≡ v % 2 ^ 64 → k' ≡ (k + 1) % 2 ^ 64 → k' ≡ suc v % 2 ^ 64
wrapped_more v k k' p q = omega arith

-- A binder's words, and then the others'.
out-binder : (c n : ℕ) (s : Span) {a : Ans Sort} {b : Ans Binders} {m m₁ m₂ o'' : List ℕ} {v u z : ℕ} {q : Result ℕ Refusal}
    → Put m v (two (c + n)) m₁ u → GotAt sort_words a u m₁ m₂ z → OutcomeAt (binders_words c (suc n)) b z m₂ o'' q → OutcomeAt (binders_words c n) (with_pair s a b) v m o'' q
out-binder c n s {m = m} {m₂ = m₂} {o'' = o''} {v = v} {z = z} p g (wrote_at {a = bs} d l) =
    let w = words_more c n s g.value bs in
    let put : Put m v ((two (c + n) ++ sort_words g.value) ++ binders_words c (suc n) bs) o'' (z + length (binders_words c (suc n) bs))
    = put_append (two (c + n) ++ sort_words g.value) (binders_words c (suc n) bs) (put_append (two (c + n)) (sort_words g.value) p g.put) (record { is = refl; words = l }) in
    rw g.is (wrote_at (d ∙ ap Ok (put.is ∙ ap (λ (ws : List ℕ). v + length ws) (sym w))) (put.words ∙ ap (laid m v) (sym w)))
out-binder c n s p g (refused_at d) = rw g.is (refused_at d)

pub record Numbering (text ws : List ℕ) (at n from w : ℕ) (h : BinderRow ws at n w) (o m : List ℕ) (i p k v : ℕ) : Type 0 where
  pub items : Trees
  pub words : drop p ws ≡ trees_words items ++ h.rest
  pub many : n ≡ i + trees items
  pub fewer : length (trees_words items) ≤ length (trees_words h.items)
  pub room : v + factor * length (trees_words items) ≤ w + factor * length (trees_words h.items)
  pub num : (count next : ℕ) → from ≡ (count + next) % 2 ^ 64 → k ≡ (count + (next + i)) % 2 ^ 64
  pub goes : (count next : ℕ) → from ≡ (count + next) % 2 ^ 64 → (o'' : List ℕ) (q : Result ℕ Refusal)
      → OutcomeAt (binders_words count (next + i)) (binders text items) v m o'' q → OutcomeAt (binders_words count next) (binders text h.items) w o o'' q

module _ {text ws : List ℕ} {at n from w : ℕ} {h : BinderRow ws at n w} {o : List ℕ} where
  pub numbering_start : Numbering text ws at n from w h o o 0 at from w
  numbering_start = record {
    items = h.items;
    words = h.words;
    many = omega (arith, h.many);
    fewer = omega arith;
    room = omega arith;
    num = λ count next e. e ∙ rw (add-zero next) refl;
    goes = λ count next e o'' q y. rw (add-zero next) at y;
  }

  module _ {m : List ℕ} {i p k v : ℕ} (g : Numbering text ws at n from w h o m i p k v) where
    -- All are read.
    pub numbering_end : n ≤ i → (count next : ℕ) → from ≡ (count + next) % 2 ^ 64 → OutcomeAt (binders_words count next) (binders text h.items) w o m (Ok v)
    unfolding binders numbered binder_items raise words_of laid
    numbering_end e count next d =
        let z : g.items ≡ tnil = none_left g.items (omega (arith, g.many)) in
        let y : OutcomeAt (binders_words count (next + i)) (binders text tnil) v m m (Ok v) = wrote_at (ap Ok (sym (add-zero v))) refl in
        g.goes count next d m (Ok v) (rw z y)

    module _ (l : i < n) where
      pub next-binder : More g.items
      next-binder = some g.items (omega (arith, g.many))

      next-words : drop p ws ≡ trees_words (tcons next-binder.first next-binder.others) ++ h.rest
      next-words = g.words ∙ ap (λ (t : Trees). trees_words t ++ h.rest) next-binder.is

      pub binder-words : drop p ws ≡ tree_words next-binder.first ++ (trees_words next-binder.others ++ h.rest)
      binder-words = first-there ws p next-binder.first next-binder.others h.rest next-words

      abbrev pub binder-spot : Spot ws p
      binder-spot = record { tree = next-binder.first; rest = trees_words next-binder.others ++ h.rest; words = binder-words }

      binder-size : length (trees_words g.items) ≡ length (tree_words next-binder.first) + length (trees_words next-binder.others)
      binder-size = ap (λ (t : Trees). length (trees_words t)) next-binder.is ∙ trees-size next-binder.first next-binder.others

      binder-count : trees g.items ≡ suc (trees next-binder.others)
      unfolding trees
      binder-count = ap trees next-binder.is

      -- No pair.
      pub numbering_bad : {r : Bool} → r ≡ is_got (name_of next-binder.first) → r ≡ false → (count next : ℕ) → from ≡ (count + next) % 2 ^ 64
          → OutcomeAt (binders_words count next) (binders text h.items) w o m (Err Malformed)
      numbering_bad x e count next d =
          g.goes count next d m (Err Malformed)
          (rw (ap (binders text) next-binder.is ∙ binders-bad text next-binder.first next-binder.others (pair-bad next-binder.first (sym x ∙ e))) (refused_at refl))

      module _ {r : Bool} (x : r ≡ is_got (name_of next-binder.first)) (e : r ≡ true) where
        pub the_pair : PairTree next-binder.first
        the_pair = pair-got next-binder.first (sym x ∙ e)

        abbrev pub its_sort : Spot ws (p + 6)
        its_sort = sort-spot binder-spot the_pair

        -- Two words more have room.
        pub binder-room : v + 2 ≤ bound
        binder-room = omega (arith, g.room, h.room, binder-size, tree-two next-binder.first)

        pub sort-few : length (tree_words the_pair.sort) < 2 ^ 32
        sort-few = omega (arith, h.small, g.fewer, binder-size, pair_size next-binder.first the_pair)

        abbrev pub sort-small : Small ws (p + 6)
        sort-small = record { spot = its_sort; small = sort-few }

        pub sort-within : p + 8 ≤ length ws
        sort-within = omega (arith, two-there its_sort)

        binders-here : binders text g.items ≡ with_pair the_pair.name (parse_sort text the_pair.sort) (binders text next-binder.others)
        binders-here = ap (binders text) next-binder.is ∙ binders-more text next-binder.first the_pair next-binder.others

        module _ {a b : ℕ} (la : a ≡ k % 2 ^ 32) (hb : b ≡ k / 2 ^ 32 % 2 ^ 32) {m₁ m₂ : List ℕ} {u : ℕ} (put : Put m v (a ∷ b ∷ []) m₁ u) {s : Result ℕ Refusal} (y : OutcomeAt sort_words (parse_sort text the_pair.sort) u m₁ m₂ s) where
          -- No sort.
          pub numbering_refused : {f : Refusal} {o'' : List ℕ} → s ≡ Err f → (count next : ℕ) → from ≡ (count + next) % 2 ^ 64 → OutcomeAt (binders_words count next) (binders text h.items) w o o'' (Err f)
          numbering_refused {f} {o''} d count next c =
              let z = bad-at y d in
              g.goes count next c o'' (Err f) (rw (binders-here, z.is) (refused_at (ap Err z.same)))

          pub numbering_more : {z k' j : ℕ} → s ≡ Ok z → k' ≡ (k + 1) % 2 ^ 64 → j ≡ length (tree_words next-binder.first) → Numbering text ws at n from w h o m₂ (i + 1) (p + j) k' z
          numbering_more {k' = k'} {j = j} d ke is =
              let t = got-at y d in
              record {
                items = next-binder.others;
                words = others-there ws p next-binder.first next-binder.others h.rest next-words j is;
                many = omega (arith, g.many, binder-count);
                fewer = omega (arith, g.fewer, binder-size);
                room = omega (arith, g.room, binder-size, put.is, t.put.is, pair_size next-binder.first the_pair, sort-short text the_pair.sort t.is);
                num = λ count next c.
                    (let one : suc (count + (next + i)) ≡ count + (next + (i + 1)) = omega arith in
                    wrapped_more (count + (next + i)) k k' (g.num count next c) ke ∙ ap (λ (x : ℕ). x % 2 ^ 64) one);
                goes = λ count next c o'' q x.
                    (let kk = g.num count next c in
                    let la' : a ≡ (count + (next + i)) % 2 ^ 32 = la ∙ sym (low_wrapped (count + (next + i)) k kk) in
                    let hb' : b ≡ (count + (next + i)) / 2 ^ 32 % 2 ^ 32 = hb ∙ sym (high_wrapped (count + (next + i)) k kk) in
                    let put' : Put m v (two (count + (next + i))) m₁ u = rw (la', hb') at put in
                    let one : next + (i + 1) ≡ suc (next + i) = omega arith in
                    g.goes count next c o'' q (rw binders-here (out-binder count (next + i) the_pair.name put' t (rw one at x))));
              }
