-- The names of scopes: walks over the pairs of a list of binders, and searches in the open scopes.
use Rattle.std.proofs.Common.{◌≡◌, ℕ, zero, suc, ◌+◌, ◌-◌, ◌*◌, ◌%◌, ◌^◌, ◌<◌, ◌≤◌, Bool, true, false, ltb, List, [], ◌∷◌, ◌++◌, length, get_or, drop, sym, refl, ap, ◌∙◌, append_assoc, add-zero, arith, drop-drop, drop_at, ltb-false, ltb-true, le-ltb, lt-ltb}
use Rattle.std.specs.Option.{is_some}
use mathlib.Core.Bool.{true≢false}
use Rattle.reading.specs.Pick.{pick}
use Rattle.reading.specs.Bytes.{Span, nothing, just}
use Rattle.reading.specs.Tree.{Tree, Trees, atom_words, symbol, atom, list, tnil, tcons, trees, tree_words, trees_words}
use Rattle.grammar.specs.Scope.{Scope, same_name, number_among, number_in, is_among, repeated}
use Rattle.places.specs.Spot.{Spot}
use Rattle.scopes.specs.Scopes.{Named, none, more, Pairs, IsScope, Opened, OpenScopes, place_among, PlacedAt, Meant}
use Rattle.std.specs.Prelude.{Option, Some, None}
use Rattle.places.proofs.Spots.{word, word0, spot-within, list-size}

-- The span of the name of a pair.
abbrev pub span_at : List ℕ → ℕ → Span
span_at ws p = record { start = get_or ws (p + 4) 0; len = get_or ws (p + 5) 0 }

pub record PairAt (ws : List ℕ) (p n : ℕ) (names : List Span) : Type 0 where
  pub left : Pairs ws (p + (get_or ws (p + 2) 0 + 3)) (n - 1)
  pub is : names ≡ span_at ws p ∷ left.names
  pub six : p + 6 ≤ length ws
  pub fits : p + (get_or ws (p + 2) 0 + 3) ≤ length ws

pair-at : (ws : List ℕ) (p n : ℕ) (pairs : Trees) (names : List Span) (rest : List ℕ) → Named pairs names → drop p ws ≡ trees_words pairs ++ rest → n ≡ length names → 0 < n → PairAt ws p n names
unfolding tree_words atom_words
pair-at ws p n tnil [] rest none e m h = absurd (omega arith)
pair-at ws p n (tcons t ts) (s ∷ ss) rest (more {us = us} x) e m h =
    let t : Tree = list (tcons (atom (symbol s)) us) in
    let w : drop p ws ≡ tree_words t ++ (trees_words ts ++ rest) = e ∙ append_assoc (tree_words t) (trees_words ts) rest in
    let sp : Spot ws p = record { tree = t; rest = trees_words ts ++ rest; words = w } in
    let k : get_or ws (p + 2) 0 + 3 ≡ length (tree_words t) = list-size sp (word0 sp) in
    let z : get_or ws (p + 2) 0 ≡ suc (suc (suc (length (trees_words us)))) = word sp 2 in
    record {
      left = record {
        names = ss;
        pairs = ts;
        rest = rest;
        words = sym (drop-drop (get_or ws (p + 2) 0 + 3) p ws) ∙ ap (drop (get_or ws (p + 2) 0 + 3)) w ∙ drop_at (tree_words t) (trees_words ts ++ rest) (get_or ws (p + 2) 0 + 3) (sym k);
        named = x;
        many = omega arith;
      };
      is = rw (word sp 4, word sp 5);
      six = omega (arith, spot-within sp, k);
      fits = omega (arith, spot-within sp, k);
    }
pair-at ws p n tnil (s ∷ ss) rest x e m h = elim x [ ]
pair-at ws p n (tcons t ts) [] rest x e m h = elim x [ ]

pub first-pair : {ws : List ℕ} {p n : ℕ} (h : Pairs ws p n) → 0 < n → PairAt ws p n h.names
first-pair {ws} {p} {n} h l = pair-at ws p n h.pairs h.names h.rest h.named h.words h.many l

pub named-trees : (pairs : Trees) (names : List Span) → Named pairs names → trees pairs ≡ length names
unfolding trees
named-trees tnil [] none = refl
named-trees (tcons t ts) (s ∷ ss) (more x) = ap suc (named-trees ts ss x)
named-trees tnil (s ∷ ss) x = elim x [ ]
named-trees (tcons t ts) [] x = elim x [ ]

-- ---- a search among names

pub record Walk (text ws : List ℕ) (at n : ℕ) (h : Pairs ws at n) (s : Span) (i p : ℕ) : Type 0 where
  pub left : Pairs ws p (n - i)
  pub place : place_among text s h.names ≡ i + place_among text s left.names
  pub within : i ≤ n

module _ (text ws : List ℕ) (at n : ℕ) (h : Pairs ws at n) (s : Span) where
  pub walk_start : Walk text ws at n h s 0 at
  walk_start = record {
    left = record { names = h.names; pairs = h.pairs; rest = h.rest; words = h.words; named = h.named; many = omega (arith, h.many) };
    place = omega arith;
    within = omega arith;
  }

  module _ (i p : ℕ) (x : Walk text ws at n h s i p) where
    pub walk_all : n ≤ i → i ≡ place_among text s h.names
    unfolding place_among pick
    walk_all e = omega (arith, x.place, ap (place_among text s) (nil_names x.left.names (omega (arith, x.left.many))))
      where
        nil_names : (l : List Span) → length l ≡ 0 → l ≡ []
        nil_names [] k = refl
        nil_names (y ∷ ys) k = absurd (omega arith)

    pub walk_end : n ≤ i → n ≤ place_among text s h.names
    unfolding place_among pick
    walk_end e = omega (arith, x.place, ap (place_among text s) (nil_names x.left.names (omega (arith, x.left.many))))
      where
        nil_names : (l : List Span) → length l ≡ 0 → l ≡ []
        nil_names [] k = refl
        nil_names (y ∷ ys) k = absurd (omega arith)

    module _ (l : i < n) where
      pub walk_pair : PairAt ws p (n - i) x.left.names
      walk_pair = first-pair x.left (omega arith)

      pub walk-hit : same_name text s (span_at ws p) ≡ true → (i ≡ place_among text s h.names) × (i < n)
      unfolding place_among pick
      walk-hit e =
          let z : place_among text s x.left.names ≡ 0 = ap (place_among text s) walk_pair.is ∙ rw e refl in
          (omega (arith, x.place), l)

      pub walk_more : same_name text s (span_at ws p) ≡ false → (q : ℕ) → q ≡ p + (get_or ws (p + 2) 0 + 3) → Walk text ws at n h s (i + 1) q
      unfolding place_among pick
      walk_more e q is =
          let z : place_among text s x.left.names ≡ suc (place_among text s walk_pair.left.names) = ap (place_among text s) walk_pair.is ∙ rw e refl in
          rw is
          (record {
            left = record { names = walk_pair.left.names; pairs = walk_pair.left.pairs; rest = walk_pair.left.rest; words = walk_pair.left.words; named = walk_pair.left.named; many = omega (arith, walk_pair.left.many) };
            place = omega (arith, x.place);
            within = omega arith;
          })

-- ---- repeated names

place-within : (text : List ℕ) (s : Span) (xs : List Span) → place_among text s xs ≤ length xs
unfolding place_among pick
place-within text s [] = omega arith
place-within text s (x ∷ xs) = go (same_name text s x) (place-within text s xs)
  where
    go : (t : Bool) → place_among text s xs ≤ length xs → pick t 0 (suc (place_among text s xs)) ≤ suc (length xs)
    go true h = omega arith
    go false h = omega arith

pub ltb-suc : (a b : ℕ) → ltb (suc a) (suc b) ≡ ltb a b
ltb-suc a b = go (ltb a b) refl
  where
    go : (t : Bool) → ltb a b ≡ t → ltb (suc a) (suc b) ≡ ltb a b
    go true e = let h = ltb-true a b e in lt-ltb (suc a) (suc b) (omega arith) ∙ sym e
    go false e = let h = ltb-false a b e in le-ltb (suc a) (suc b) (omega arith) ∙ sym e

pub is_in : (text : List ℕ) (s : Span) (xs : List Span) → is_among text s xs ≡ ltb (place_among text s xs) (length xs)
unfolding place_among is_among pick
is_in text s [] = refl
is_in text s (x ∷ xs) = go (same_name text s x) (is_in text s xs)
  where
    go : (t : Bool) → is_among text s xs ≡ ltb (place_among text s xs) (length xs) → pick t true (is_among text s xs) ≡ ltb (pick t 0 (suc (place_among text s xs))) (suc (length xs))
    go true h = sym (lt-ltb 0 (suc (length xs)) (omega arith))
    go false h = h ∙ sym (ltb-suc (place_among text s xs) (length xs))

pub record Left (text ws : List ℕ) (names : List Span) (n i p : ℕ) : Type 0 where
  pub left : Pairs ws p (n - i)
  pub same : repeated text names ≡ repeated text left.names
  pub within : i ≤ n

module _ (text ws : List ℕ) (names : List Span) (n : ℕ) where
  pub left-start : {k : ℕ} (h : Pairs ws k n) → h.names ≡ names → Left text ws names n 0 k
  left-start h e = record {
    left = record { names = h.names; pairs = h.pairs; rest = h.rest; words = h.words; named = h.named; many = omega (arith, h.many) };
    same = ap (repeated text) (sym e);
    within = omega arith;
  }

  module _ (i p : ℕ) (x : Left text ws names n i p) where
    pub left_end : n ≤ i → false ≡ repeated text names
    unfolding repeated pick
    left_end e = sym (x.same ∙ ap (repeated text) (nil_names x.left.names (omega (arith, x.left.many))))
      where
        nil_names : (l : List Span) → length l ≡ 0 → l ≡ []
        nil_names [] k = refl
        nil_names (y ∷ ys) k = absurd (omega arith)

    module _ (l : i < n) where
      pub left-pair : PairAt ws p (n - i) x.left.names
      left-pair = first-pair x.left (omega arith)

      module _ (q : ℕ) (is : q ≡ p + (get_or ws (p + 2) 0 + 3)) where
        pub left-many : n - (i + 1) ≡ length left-pair.left.names
        left-many = omega (arith, left-pair.left.many)

        abbrev pub left-rest : Pairs ws q (n - (i + 1))
        left-rest = record { names = left-pair.left.names; pairs = left-pair.left.pairs; rest = left-pair.left.rest; words = rw is left-pair.left.words; named = left-pair.left.named; many = left-many }

        pub left-hit : (r : Option ℕ) → PlacedAt (place_among text (span_at ws p) left-pair.left.names) (n - (i + 1)) r → is_some r ≡ true → true ≡ repeated text names
        unfolding repeated pick
        left-hit None e h = absurd (true≢false (sym h))
        left-hit (Some r) e h =
            let z : is_among text (span_at ws p) left-pair.left.names ≡ true = is_in text (span_at ws p) left-pair.left.names ∙ lt-ltb (place_among text (span_at ws p) left-pair.left.names) (length left-pair.left.names) (omega (arith, left-many)) in
            sym (x.same ∙ ap (repeated text) left-pair.is ∙ rw z refl)

        pub left-more : (r : Option ℕ) → PlacedAt (place_among text (span_at ws p) left-pair.left.names) (n - (i + 1)) r → is_some r ≡ false → Left text ws names n (i + 1) q
        unfolding repeated pick
        left-more (Some r) e h = absurd (true≢false h)
        left-more None e h =
            let z : is_among text (span_at ws p) left-pair.left.names ≡ false = is_in text (span_at ws p) left-pair.left.names ∙ le-ltb (place_among text (span_at ws p) left-pair.left.names) (length left-pair.left.names) (omega (arith, left-many)) in
            record { left = left-rest; same = x.same ∙ ap (repeated text) left-pair.is ∙ rw z refl; within = omega arith }

-- The number of a name by its place.
number-place : (text : List ℕ) (s : Span) (xs : List Span) (k : ℕ) → number_among text s xs k ≡ pick (ltb (place_among text s xs) (length xs)) (just (k + place_among text s xs)) nothing
unfolding number_among place_among pick
number-place text s [] k = refl
number-place text s (x ∷ xs) k = go (same_name text s x) (number-place text s xs (suc k))
  where
    here : ltb 0 (suc (length xs)) ≡ true
    here = lt-ltb 0 (suc (length xs)) (omega arith)

    go : (t : Bool) → number_among text s xs (suc k) ≡ pick (ltb (place_among text s xs) (length xs)) (just (suc k + place_among text s xs)) nothing
        → pick t (just k) (number_among text s xs (suc k)) ≡ pick (ltb (pick t 0 (suc (place_among text s xs))) (suc (length xs))) (just (k + pick t 0 (suc (place_among text s xs)))) nothing
    go true h = rw here (ap just (sym (add-zero k)))
    go false h =
        let e : suc k + place_among text s xs ≡ k + suc (place_among text s xs) = omega arith in
        h ∙ ap (λ (j : ℕ). pick (ltb (place_among text s xs) (length xs)) (just j) nothing) e ∙ ap (λ (t : Bool). pick t (just (k + suc (place_among text s xs))) nothing) (sym (ltb-suc (place_among text s xs) (length xs)))

number-hit : (text : List ℕ) (s : Span) (xs : List Span) (k : ℕ) → place_among text s xs < length xs → number_among text s xs k ≡ just (k + place_among text s xs)
unfolding pick
number-hit text s xs k h = number-place text s xs k ∙ rw (lt-ltb (place_among text s xs) (length xs) h) refl

number-miss : (text : List ℕ) (s : Span) (xs : List Span) (k : ℕ) → length xs ≤ place_among text s xs → number_among text s xs k ≡ nothing
unfolding pick
number-miss text s xs k h = number-place text s xs k ∙ rw (le-ltb (place_among text s xs) (length xs) h) refl

-- ---- a search in scopes

pub record Top (ws es : List ℕ) (d : ℕ) (fs : List Scope) : Type 0 where
  pub scope : Scope
  pub below : List Scope
  pub is : fs ≡ scope ∷ below
  pub entry : IsScope ws (get_or es (3 * (d - 1)) 0) (get_or es (3 * (d - 1) + 1) 0) (get_or es (3 * (d - 1) + 2) 0) scope
  pub holds : Opened ws es (d - 1) below

top : (ws es : List ℕ) (d : ℕ) (fs : List Scope) → 0 < d → Opened ws es d fs → Top ws es d fs
top ws es zero fs h o = absurd (omega arith)
top ws es (suc d) [] h o = absurd o
top ws es (suc d) (f ∷ fs) h o =
    let e : suc d - 1 ≡ d = omega arith in
    record { scope = f; below = fs; is = refl; entry = rw e o.0; holds = rw e o.1 }

pub record Search (text ws es : List ℕ) (depth : ℕ) (h : OpenScopes ws es depth) (name : Span) (d : ℕ) : Type 0 where
  pub scopes : List Scope
  pub holds : Opened ws es d scopes
  pub same : number_in text name h.scopes ≡ number_in text name scopes
  pub within : 3 * d ≤ length es

module _ (text ws es : List ℕ) (depth : ℕ) (h : OpenScopes ws es depth) (name : Span) where
  pub search_start : Search text ws es depth h name depth
  search_start = record { scopes = h.scopes; holds = h.holds; same = refl; within = h.within }

  module _ (d : ℕ) (x : Search text ws es depth h name d) where
    pub search_end : (count : ℕ) → d ≤ 0 → Meant count (number_in text name h.scopes) None
    unfolding number_in
    search_end count e = rw x.same (go d x.scopes (omega arith) x.holds)
      where
        go : (k : ℕ) (fs : List Scope) → k ≡ 0 → Opened ws es k fs → Meant count (number_in text name fs) None
        go zero [] e o = refl
        go zero (f ∷ fs) e o = absurd o
        go (suc k) [] e o = absurd o
        go (suc k) (f ∷ fs) e o = absurd (omega arith)

    module _ (l : 0 < d) where
      pub search_top : Top ws es d x.scopes
      search_top = top ws es d x.scopes l x.holds

      pub search_pairs : {a n : ℕ} → a ≡ get_or es (3 * (d - 1)) 0 → n ≡ get_or es (3 * (d - 1) + 1) 0 → Pairs ws a n
      search_pairs e f = rw (e, f) search_top.entry.place

      module _ (r : Option ℕ) {a n : ℕ} (e : a ≡ get_or es (3 * (d - 1)) 0) (f : n ≡ get_or es (3 * (d - 1) + 1) 0) (k : ((p : Pairs ws a n) → PlacedAt (place_among text name p.names) n r)) where
        search_place : PlacedAt (place_among text name search_top.scope.names) n r
        search_place = rw search_top.entry.names (go a n e f k)
          where
            go : (a n : ℕ) → a ≡ get_or es (3 * (d - 1)) 0 → n ≡ get_or es (3 * (d - 1) + 1) 0 → ((p : Pairs ws a n) → PlacedAt (place_among text name p.names) n r) → PlacedAt (place_among text name search_top.entry.place.names) n r
            go a n e f k = rw f ((rw (e, f) at k) search_top.entry.place)

        search_many : n ≡ length search_top.scope.names
        search_many = f ∙ search_top.entry.place.many ∙ ap length (sym search_top.entry.names)

        pub search_hit : (count : ℕ) {i j : ℕ} → r ≡ Some i → j ≡ (count + (get_or es (3 * (d - 1) + 2) 0 + i)) % 2 ^ 64 → Meant count (number_in text name h.scopes) (Some j)
        unfolding number_in
        search_hit count u p =
            let q = rw u at search_place in
            rw (x.same, search_top.is, number-hit text name search_top.scope.names search_top.scope.first (omega (arith, q.0, q.1, search_many))) (ap Some (p ∙ rw (search_top.entry.first, q.0) refl))

        pub search_more : r ≡ None → Search text ws es depth h name (d - 1)
        unfolding number_in
        search_more u =
            let q = rw u at search_place in
            record {
              scopes = search_top.below;
              holds = search_top.holds;
              same = x.same ∙ ap (number_in text name) search_top.is ∙ rw (number-miss text name search_top.scope.names search_top.scope.first (omega (arith, q, search_many))) refl;
              within = omega (arith, x.within);
            }

-- a sum that wraps in two steps
pub wraps : (count a b k x i : ℕ) → i ≡ b → k ≡ (a + i) % 2 ^ 64 → x ≡ (count + k) % 2 ^ 64 → x ≡ (count + (a + b)) % 2 ^ 64
wraps count a b k x i e p q = omega arith
