-- The plan of an exists, as facts on lists.
use Rattle.std.proofs.Common.{◌≡◌, ℕ, suc, ◌+◌, ◌*◌, ◌^◌, ◌<◌, ◌≤◌, max, false, eqb, List, [], ◌∷◌, ◌++◌, length, get_or, drop, sym, refl, ap, ◌∙◌, arith, ne_eqb}
use native.Mathlib.Nat.{le-max_left, le-max_right}
use Rattle.reading.specs.Pick.{pick}
use Rattle.reading.specs.Bytes.{Span}
use Rattle.reading.specs.Tree.{symbol, Tree, Trees, atom, list, tnil, tcons, trees, atom_words, tree_words, trees_words, nesting, nestings}
use Rattle.reading.specs.Answer.{Refusal as Met, malformed, got, bad, no}
use Rattle.grammar.specs.Sort.{Sort}
use Rattle.grammar.specs.ParseSort.{in_list}
use Rattle.grammar.specs.Item.{raise, words_of}
use Rattle.grammar.specs.Expr.{k_exists, kind_items}
use Rattle.grammar.specs.Scope.{Scope, numbered}
use Rattle.grammar.specs.ParseExpr
use Rattle.grammar.specs.ParseExpr.{Binders, binders, child_at, nested_at}
use Rattle.grammar.specs.Written.{W, kind_words, told, ahead, after, operands_w, no_last, end_w}
use Rattle.places.specs.Spot.{Spot}
use Rattle.scopes.specs.Scopes.{inner}
use Rattle.places.specs.Outcome.{bound, Put}
use Rattle.plans.specs.Late.{filled}
use Rattle.plans.specs.Plans.{Parsed, refused, Listed, PlannedList, factor, most}
use Rattle.plans.specs.BinderWords.{BinderRow, binders_words}
use Rattle.words.specs.declared.refusal.Refusal.{Refusal}
use Rattle.words.specs.declared.refusal.Refusal.TheVariants.{Malformed}
use Rattle.std.specs.Prelude.{Ok, Err}
use Rattle.plans.specs.declared.plan.Plan.TheVariants.{Go}
use Rattle.grammar.proofs.FormsWritten.{children-count, exists-told}
use Rattle.places.proofs.Puts.{put_append}
use Rattle.plans.proofs.Laid.{out-ahead}
use Rattle.places.proofs.SortPlace.{GotAt, BadAt, every_got}
use Rattle.plans.proofs.BinderPairs.{ReadFrom, read_from}
use Rattle.grammar.proofs.TreeHead.{no-list}
use Rattle.places.proofs.Spots.{word0, spot-within, as_list, IsList}
use Rattle.scopes.proofs.ScopeNames.{named-trees}
use Rattle.places.proofs.Inside.{ListNode, list-spot, list-many, list-words, items-there, first-there, others-there, trees-size, list_length, Pair, pair_of, child-tree}

-- ---- what the form writes

module _ (text : List ℕ) (count : ℕ) (t : Tree) (sc : List Scope) (n : ℕ) where
  exists-count : (us : Trees) → (trees us ≡ 2 → ⊥) → told count (ParseExpr.exists_form text (ParseExpr.children text (tcons t us)) sc n) ≡ no malformed
  unfolding ParseExpr.exists_form ParseExpr.child
  exists-count us h = rw (ne_eqb (suc (length (ParseExpr.children text us))) 3 (λ e. h (omega (arith, children-count text us)))) refl

  exists-atom : (v b : Tree) → in_list v ≡ bad malformed → told count (ParseExpr.exists_form text (ParseExpr.children text (tcons t (tcons v (tcons b tnil)))) sc n) ≡ no malformed
  unfolding ParseExpr.exists_form ParseExpr.child child_at
  exists-atom v b h = rw (child-tree text v, h) refl

  exists-bad : (ps : Trees) (b : Tree) {e : Met} → binders text ps ≡ bad e → told count (ParseExpr.exists_form text (ParseExpr.children text (tcons t (tcons (list ps) (tcons b tnil)))) sc n) ≡ no e
  unfolding ParseExpr.exists_form ParseExpr.child ParseExpr.list_child child_at in_list
  exists-bad ps b h = rw h refl

  exists-got : (ps : Trees) (b : Tree) {bs : Binders} → binders text ps ≡ got bs
      → told count (ParseExpr.exists_form text (ParseExpr.children text (tcons t (tcons (list ps) (tcons b tnil)))) sc n)
      ≡ ahead (kind_words count (k_exists (numbered n bs.sorts)) 1) (after (operands_w text count (tcons b tnil) 1 (record { names = bs.names; first = n } ∷ sc) (n + length bs.sorts)) (λ m. end_w text count no_last (record { names = bs.names; first = n } ∷ sc) bs.names m))
  unfolding ParseExpr.exists_form ParseExpr.child ParseExpr.list_child child_at nested_at in_list
  exists-got ps b {bs} h = rw h (exists-told text count bs.names bs.sorts (tcons b tnil) sc n)

pub numbered-length : (n : ℕ) (ss : List Sort) → length (numbered n ss) ≡ length ss
unfolding numbered
numbered-length n [] = refl
numbered-length n (s ∷ ss) = ap suc (numbered-length (suc n) ss)

head-words : (count n : ℕ) (bs : Binders) → kind_words count (k_exists (numbered n bs.sorts)) 1 ≡ (51 ∷ length bs.sorts ∷ []) ++ binders_words count n bs
unfolding kind_items raise words_of
head-words count n bs = ap (λ (k : ℕ). 51 ∷ k ∷ binders_words count n bs) (numbered-length n bs.sorts)

-- ---- what the code knows of an exists

module _ {text ws : List ℕ} {at w next : ℕ} {s : Span} {us : Trees} (h : Listed text ws at w next (tcons (atom (symbol s)) us)) where
  abbrev pub told_of : ℕ → Trees → W
  told_of count vs = told count (ParseExpr.exists_form text (ParseExpr.children text (tcons (atom (symbol s)) vs)) h.scopes next)

  abbrev pub whole : Tree
  whole = list (tcons (atom (symbol s)) us)

  pub ex_many : get_or ws (at + 1) 0 ≡ suc (trees us)
  unfolding trees
  ex_many = list-many ws at (tcons (atom (symbol s)) us) h.rest h.words

  ex_length : length (tree_words whole) ≡ 6 + length (trees_words us)
  unfolding tree_words atom_words
  ex_length = let z : length (tree_words whole) ≡ suc (suc (suc (suc (suc (suc (length (trees_words us))))))) = refl in omega arith

  pub ex_there : at + 6 ≤ length ws
  ex_there = omega (arith, ex_length, spot-within (list-spot ws at (tcons (atom (symbol s)) us) h.rest h.words))

  ex_deep : nesting whole ≡ suc (nestings us)
  unfolding nesting
  ex_deep = let z : nesting whole ≡ suc (max 0 (nestings us)) = refl in omega (arith, le-max_left 0 (nestings us))

  ex_behind : drop (at + 6) ws ≡ trees_words us ++ h.rest
  unfolding tree_words atom_words
  ex_behind =
      let six : at + 6 ≡ at + 3 + 3 = omega arith in
      ap (λ (k : ℕ). drop k ws) six ∙ others-there ws (at + 3) (atom (symbol s)) us h.rest (items-there ws at (tcons (atom (symbol s)) us) h.rest h.words) 3 refl

  -- Not three items.
  pub ex_count : (count : ℕ) {o o' : List ℕ} → (get_or ws (at + 1) 0 ≡ 3 → ⊥) → Parsed (told_of count us) w o o' (most w next whole) (Err Malformed)
  ex_count count n = rw (exists-count text count (atom (symbol s)) h.scopes next us (λ e. n (omega (arith, ex_many)))) (refused refl)

  module _ (three : get_or ws (at + 1) 0 ≡ 3) where
    pub ex_pair : Pair us
    ex_pair = pair_of us (omega (arith, ex_many))

    vars-there : drop (at + 6) ws ≡ trees_words (tcons ex_pair.first (tcons ex_pair.second tnil)) ++ h.rest
    vars-there = ex_behind ∙ ap (λ (t : Trees). trees_words t ++ h.rest) ex_pair.is

    pub vars-words : drop (at + 6) ws ≡ tree_words ex_pair.first ++ (trees_words (tcons ex_pair.second tnil) ++ h.rest)
    vars-words = first-there ws (at + 6) ex_pair.first (tcons ex_pair.second tnil) h.rest vars-there

    abbrev pub vars-spot : Spot ws (at + 6)
    vars-spot = record { tree = ex_pair.first; rest = trees_words (tcons ex_pair.second tnil) ++ h.rest; words = vars-words }

    -- The binders are no list.
    pub ex_atom : (count : ℕ) {o o' : List ℕ} → (get_or ws (at + 6) 0 ≡ 21 → ⊥) → Parsed (told_of count us) w o o' (most w next whole) (Err Malformed)
    ex_atom count k =
        rw (ap (told_of count) ex_pair.is
        ∙ exists-atom text count (atom (symbol s)) h.scopes next ex_pair.first ex_pair.second (no-list vars-spot.rest ex_pair.first refl (λ e. k (word0 vars-spot ∙ e))))
        (refused refl)

    module _ {m f : ℕ} (n : ListNode ws (at + 6) m f) where
      pub ex_list : IsList ws (at + 6) ex_pair.first
      ex_list = as_list vars-spot n.kind

      vars-many : m ≡ trees ex_list.items
      vars-many = n.many ∙ ex_list.many

      binders-there : drop (at + 6) ws ≡ tree_words (list ex_list.items) ++ (trees_words (tcons ex_pair.second tnil) ++ h.rest)
      binders-there = vars-words ∙ ap (λ (t : Tree). tree_words t ++ (trees_words (tcons ex_pair.second tnil) ++ h.rest)) ex_list.is

      vars-length : length (tree_words ex_pair.first) ≡ 3 + length (trees_words ex_list.items)
      vars-length = ap (λ (t : Tree). length (tree_words t)) ex_list.is ∙ list_length ex_list.items

      us_length : length (trees_words us) ≡ 3 + length (trees_words ex_list.items) + length (trees_words (tcons ex_pair.second tnil))
      us_length = omega (arith, ap (λ (t : Trees). length (trees_words t)) ex_pair.is, trees-size ex_pair.first (tcons ex_pair.second tnil), vars-length)

      pub pairs-there : drop f ws ≡ trees_words ex_list.items ++ (trees_words (tcons ex_pair.second tnil) ++ h.rest)
      pairs-there = ap (λ (i : ℕ). drop i ws) n.first ∙ items-there ws (at + 6) ex_list.items (trees_words (tcons ex_pair.second tnil) ++ h.rest) binders-there

      module _ (fit : (i : ℕ) → get_or ws i 0 < 2 ^ 32) {k v : ℕ} (ks : k ≡ m) (vs : v ≡ w + 2) where
        pub row_small : length (trees_words ex_list.items) < 2 ^ 32
        row_small = omega (arith, fit (at + 6 + 2), list-words ws (at + 6) ex_list.items (trees_words (tcons ex_pair.second tnil) ++ h.rest) binders-there)

        pub row-many : k ≡ trees ex_list.items
        row-many = ks ∙ vars-many

        pub row_room : v + factor * length (trees_words ex_list.items) ≤ bound
        row_room = omega (arith, h.room, ex_length, us_length)

        abbrev pub ex_row : BinderRow ws f k v
        ex_row = record { items = ex_list.items; rest = trees_words (tcons ex_pair.second tnil) ++ h.rest; words = pairs-there; many = row-many; small = row_small; room = row_room }

      told-list : (count : ℕ) → told_of count us ≡ told_of count (tcons (list ex_list.items) (tcons ex_pair.second tnil))
      told-list count = ap (told_of count) (ex_pair.is ∙ ap (λ (t : Tree). tcons t (tcons ex_pair.second tnil)) ex_list.is)

      -- The binders are refused.
      pub ex_bad : (count : ℕ) {o o' : List ℕ} {r : Refusal} → BadAt (binders text ex_list.items) r → Parsed (told_of count us) w o o' (most w next whole) (Err r)
      ex_bad count b = rw (told-list count ∙ exists-bad text count (atom (symbol s)) h.scopes next ex_list.items ex_pair.second b.is) (refused (ap Err b.same))

      -- They are read: the body is left to do.
      pub ex_go : (count : ℕ) {o o₁ o₂ : List ℕ} {v u j fresh : ℕ} → Put o w (51 ∷ m ∷ []) o₁ v → GotAt (binders_words count next) (binders text ex_list.items) v o₁ o₂ u
          → j ≡ length (tree_words ex_pair.first) → fresh ≡ m
          → PlannedList text count ws at w next (tcons (atom (symbol s)) us) h (told_of count us) o o₂
          (Ok (Go (record { first = at + 6 + j; have = 1; want = 1; last = 0; plain = false; names = f; fresh = fresh; pair = 0; words = u })))
      unfolding inner pick trees nestings filled
      ex_go count {o} {o₂ = o₂} {u = u} {j = j} {fresh = fresh} p g js fr =
          let bs = g.value in
          let r : ReadFrom ex_list.items bs = every_got (ReadFrom ex_list.items) (read_from text ex_list.items) g.is in
          let kn : m ≡ length bs.sorts = vars-many ∙ sym r.many in
          let fn : fresh ≡ length bs.sorts = fr ∙ kn in
          let ne : eqb f 0 ≡ false = ne_eqb f 0 (λ z. omega (arith, n.first)) in
          let ns : nestings us ≡ max (nesting ex_pair.first) (max (nesting ex_pair.second) 0) = ap nestings ex_pair.is in
          let all : Put o w ((51 ∷ m ∷ []) ++ binders_words count next bs) o₂ u = put_append (51 ∷ m ∷ []) (binders_words count next bs) p g.put in
          let hd : kind_words count (k_exists (numbered next bs.sorts)) 1 ≡ (51 ∷ m ∷ []) ++ binders_words count next bs
          = head-words count next bs ∙ ap (λ (i : ℕ). (51 ∷ i ∷ []) ++ binders_words count next bs) (sym kn) in
          record {
            items = tcons ex_pair.second tnil;
            rest = h.rest;
            words = others-there ws (at + 6) ex_pair.first (tcons ex_pair.second tnil) h.rest vars-there j js;
            many = refl;
            beyond = omega arith;
            final = no_last;
            ends = (refl, refl);
            bind = record {
              names = bs.names;
              pairs = ex_list.items;
              rest = trees_words (tcons ex_pair.second tnil) ++ h.rest;
              words = pairs-there;
              named = r.named;
              many = fr ∙ vars-many ∙ named-trees ex_list.items bs.names r.named;
            };
            shallow = omega (arith, h.shallow, ex_deep, ns, le-max_right (nesting ex_pair.first) (max (nesting ex_pair.second) 0));
            end_shallow = omega (arith, h.shallow, ex_deep);
            room = omega (arith, p.is, g.put.is, r.short count next, r.many, fn, ex_length, us_length);
            goes = λ o'' q i c y.
                rw (told-list count ∙ exists-got text count (atom (symbol s)) h.scopes next ex_list.items ex_pair.second g.is, hd)
                (out-ahead ((51 ∷ m ∷ []) ++ binders_words count next bs) all.words all.is (rw (ne, fn) at y));
          }
