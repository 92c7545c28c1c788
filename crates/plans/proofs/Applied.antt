-- The plan of an application, as facts on lists.
use Rattle.std.proofs.Common.{◌≡◌, ℕ, suc, ◌+◌, ◌-◌, ◌*◌, ◌^◌, ◌<◌, ◌≤◌, max, true, false, List, [], ◌∷◌, ◌++◌, length, get_or, drop, sym, refl, ap, ◌∙◌, true≢false, add-zero, arith, get_or-drop}
use native.Mathlib.Nat.{le-max_left, le-max_right}
use Rattle.reading.specs.Limits.{max_lists}
use Rattle.reading.specs.Pick.{pick}
use Rattle.reading.specs.Bytes.{ascii, same_bytes, bytes_at}
use Rattle.reading.specs.Tree.{symbol, quoted, integer, decimal, boolean, Tree, Trees, atom, list, tnil, tcons, trees, atom_words, tree_words, trees_words, nesting, nestings}
use Rattle.reading.specs.Answer.{Refusal as Met, malformed, got, bad, no}
use Rattle.grammar.specs.Sort.{Sort, sort_words}
use Rattle.grammar.specs.ParseSort.{in_list, tree_at, parse_sort}
use Rattle.grammar.specs.Scope.{Scope, repeated}
use Rattle.grammar.specs.ParseExpr
use Rattle.grammar.specs.ParseExpr.{is_apply, is_apply_atom, child_at, nested_at}
use Rattle.grammar.specs.Written.{W, told, ahead, after, operands_w, Last, no_last, seen_last, end_w}
use Rattle.places.specs.Spot.{Spot, Small}
use Rattle.scopes.specs.Scopes.{inner}
use Rattle.places.specs.Outcome.{bound, Put}
use Rattle.plans.specs.Late.{filled}
use Rattle.plans.specs.Plans.{Parsed, refused, Listed, PlannedList, EndsAt, end_nesting, end_size, factor, most}
use Rattle.words.specs.declared.refusal.Refusal.{Refusal}
use Rattle.words.specs.declared.refusal.Refusal.TheVariants.{Malformed}
use Rattle.std.specs.Prelude.{Ok, Err}
use Rattle.plans.specs.declared.plan.Plan.TheVariants.{Go}
use Rattle.plans.specs.declared.plan.Run.{Run}
use Rattle.grammar.proofs.FormsWritten.{after-done, as_told, call-told}
use Rattle.places.proofs.Puts.{put_append}
use Rattle.plans.proofs.ListPlans.{unbound}
use Rattle.plans.proofs.Laid.{out-ahead}
use Rattle.places.proofs.FirstTree.{More, some, none_left}
use Rattle.places.proofs.SortPlace.{GotAt, BadAt, sort-short}
use Rattle.reading.proofs.TreeHead.{is-symbol, tree-two}
use Rattle.grammar.proofs.TreeHead.{no-list}
use Rattle.places.proofs.Spots.{word0, spot-within, as_list, IsList}
use Rattle.places.proofs.Inside.{ListNode, list-many, list-words, items-there, first-there, others-there, trees-size, list_length, child-tree}

-- ---- the symbol `apply`

not-apply : (text : List ℕ) (t : Tree) (rest : List ℕ) → (get_or (tree_words t ++ rest) 0 0 ≡ 16 → ⊥) → false ≡ is_apply text t
unfolding is_apply is_apply_atom tree_words atom_words
not-apply text (atom (symbol s)) rest h = absurd (h refl)
not-apply text (atom (quoted s)) rest h = refl
not-apply text (atom (integer w)) rest h = refl
not-apply text (atom (decimal s)) rest h = refl
not-apply text (atom (boolean b)) rest h = refl
not-apply text (list ts) rest h = refl

module _ (text : List ℕ) {ws : List ℕ} {at : ℕ} (p : Spot ws at) where
  pub apply-other : (get_or ws at 0 ≡ 16 → ⊥) → false ≡ is_apply text p.tree
  apply-other h = not-apply text p.tree p.rest (λ e. h (word0 p ∙ e))

  module _ (h : get_or ws at 0 ≡ 16) where
    the_symbol : p.tree ≡ atom (symbol (record { start = get_or ws (at + 1) 0; len = get_or ws (at + 2) 0 }))
    the_symbol =
        is-symbol p.rest {ws = drop at ws} p.tree p.words (get_or-drop at ws 0 0 ∙ ap (λ (k : ℕ). get_or ws k 0) (add-zero at) ∙ h)
        ∙ rw (get_or-drop at ws 1 0, get_or-drop at ws 2 0) refl

    pub symbol-there : at + 3 ≤ length ws
    unfolding tree_words atom_words
    symbol-there = let z : length (tree_words p.tree) ≡ 3 = ap (λ (t : Tree). length (tree_words t)) the_symbol in omega (arith, spot-within p)

    pub apply-here : same_bytes (bytes_at text (record { start = get_or ws (at + 1) 0; len = get_or ws (at + 2) 0 })) (ascii "apply") ≡ is_apply text p.tree
    unfolding is_apply is_apply_atom
    apply-here = rw the_symbol refl

-- It has three words.
apply-three : (text : List ℕ) (t : Tree) → is_apply text t ≡ true → length (tree_words t) ≡ 3
unfolding is_apply is_apply_atom tree_words atom_words
apply-three text (atom (symbol s)) h = refl
apply-three text (atom (quoted s)) h = absurd (true≢false (sym h))
apply-three text (atom (integer w)) h = absurd (true≢false (sym h))
apply-three text (atom (decimal s)) h = absurd (true≢false (sym h))
apply-three text (atom (boolean b)) h = absurd (true≢false (sym h))
apply-three text (list ts) h = absurd (true≢false (sym h))

-- ---- what the form writes

module _ (text : List ℕ) (count : ℕ) (us : Trees) (sc : List Scope) (n : ℕ) where
  app-atom : (t : Tree) → in_list t ≡ bad malformed → told count (ParseExpr.apply_form text (ParseExpr.children text (tcons t us)) sc n) ≡ no malformed
  unfolding ParseExpr.apply_form ParseExpr.child child_at
  app-atom t h = rw (child-tree text t, h) refl

  app-short : (ts : Trees) → trees ts < 2 → told count (ParseExpr.apply_form text (ParseExpr.children text (tcons (list ts) us)) sc n) ≡ no malformed
  unfolding ParseExpr.apply_form ParseExpr.child ParseExpr.list_child child_at in_list tree_at trees
  app-short tnil h = refl
  app-short (tcons t tnil) h = refl
  app-short (tcons t (tcons u ts)) h = absurd (omega arith)

  module _ (a b : Tree) where
    module _ (h : is_apply text b ≡ true) where
      apply-short : told count (ParseExpr.apply_form text (ParseExpr.children text (tcons (list (tcons a (tcons b tnil))) us)) sc n) ≡ no malformed
      unfolding ParseExpr.apply_form ParseExpr.as_form ParseExpr.child ParseExpr.list_child child_at in_list tree_at pick
      apply-short = rw h refl

      module _ (c : Tree) (ts : Trees) where
        apply-bad : {e : Met} → parse_sort text c ≡ bad e → told count (ParseExpr.apply_form text (ParseExpr.children text (tcons (list (tcons a (tcons b (tcons c ts)))) us)) sc n) ≡ no e
        unfolding ParseExpr.apply_form ParseExpr.as_form ParseExpr.child ParseExpr.list_child child_at in_list tree_at pick
        apply-bad e = rw (h, e) refl

        apply-got : {o : Sort} → parse_sort text c ≡ got o → told count (ParseExpr.apply_form text (ParseExpr.children text (tcons (list (tcons a (tcons b (tcons c ts)))) us)) sc n) ≡ ahead (38 ∷ 1 ∷ 0 ∷ sort_words o) (operands_w text count us 1 sc n)
        unfolding ParseExpr.apply_form ParseExpr.as_form ParseExpr.child ParseExpr.list_child nested_at child_at in_list tree_at pick
        apply-got {o} e = rw (h, e) (as_told text count o us sc n)

    apply-call : (ts : Trees) → is_apply text b ≡ false
        → told count (ParseExpr.apply_form text (ParseExpr.children text (tcons (list (tcons a (tcons b ts))) us)) sc n)
        ≡ ahead (38 ∷ 0 ∷ trees us ∷ []) (after (operands_w text count us (trees us) sc n) (λ m. told count ((ParseExpr.child text (list (tcons a (tcons b ts)))).nested sc m)))
    unfolding ParseExpr.apply_form ParseExpr.child ParseExpr.list_child child_at in_list tree_at pick
    apply-call ts h = rw h (call-told text count (list (tcons a (tcons b ts))) us sc n)

-- ---- what the code knows of an application

-- So many of the items from a place on, and perhaps the head behind them.
abbrev pub app_run : ℕ → ℕ → ℕ → ℕ → ℕ → Run
app_run first have want last u = record { first = first; have = have; want = want; last = last; plain = false; names = 0; fresh = 0; pair = 0; words = u }

module _ {text ws : List ℕ} {at w next : ℕ} {t : Tree} {us : Trees} (h : Listed text ws at w next (tcons t us)) where
  abbrev pub told_of : ℕ → Tree → W
  told_of count u = told count (ParseExpr.apply_form text (ParseExpr.children text (tcons u us)) h.scopes next)

  ap-there : drop (at + 3) ws ≡ trees_words (tcons t us) ++ h.rest
  ap-there = items-there ws at (tcons t us) h.rest h.words

  pub ap-many : get_or ws (at + 1) 0 ≡ suc (trees us)
  unfolding trees
  ap-many = list-many ws at (tcons t us) h.rest h.words

  ap-length : length (tree_words (list (tcons t us))) ≡ 3 + length (tree_words t) + length (trees_words us)
  ap-length = omega (arith, list_length (tcons t us), trees-size t us)

  -- Three words more have room.
  pub ap-room : w + 3 ≤ bound
  ap-room = omega (arith, h.room, ap-length)

  ap-deep : nesting (list (tcons t us)) ≡ suc (max (nesting t) (nestings us))
  unfolding nesting
  ap-deep = refl

  pub ap-head : drop (at + 3) ws ≡ tree_words t ++ (trees_words us ++ h.rest)
  ap-head = first-there ws (at + 3) t us h.rest ap-there

  abbrev pub head-spot : Spot ws (at + 3)
  head-spot = record { tree = t; rest = trees_words us ++ h.rest; words = ap-head }

  pub ap-within : at + 3 + length (tree_words t) ≤ length ws
  ap-within = spot-within head-spot

  pub ap-two : at + 5 ≤ length ws
  ap-two = omega (arith, ap-within, tree-two t)

  -- The head is no list.
  pub ap-atom : (count : ℕ) {o o' : List ℕ} → (get_or ws (at + 3) 0 ≡ 21 → ⊥) → Parsed (told_of count t) w o o' (most w next (list (tcons t us))) (Err Malformed)
  ap-atom count k = rw (app-atom text count us h.scopes next t (no-list head-spot.rest t refl (λ e. k (word0 head-spot ∙ e)))) (refused refl)

  -- Its words are laid, and so many of the other items are left to do, and perhaps the head.
  module _ (count : ℕ) {o o' : List ℕ} {u j have : ℕ} (hd : List ℕ) (p : Put o w hd o' u) (js : j ≡ length (tree_words t)) (hs : have ≡ get_or ws (at + 1) 0 - 1) where
    ap-run : (want last : ℕ) (final : Last) → EndsAt ws at w (app_run (at + 3 + j) have want last u) final → h.depth + 1 + end_nesting final ≤ max_lists → length hd + factor * end_size final ≤ factor * (3 + length (tree_words t))
        → told_of count t ≡ ahead hd (after (operands_w text count us want h.scopes next) (λ m. end_w text count final h.scopes [] m))
        → PlannedList text count ws at w next (tcons t us) h (told_of count t) o o' (Ok (Go (app_run (at + 3 + j) have want last u)))
    unfolding inner pick filled
    ap-run want last final ends deep short eq =
        record {
          items = us;
          rest = h.rest;
          words = others-there ws (at + 3) t us h.rest ap-there j js;
          many = omega (arith, hs, ap-many);
          beyond = omega arith;
          final = final;
          ends = ends;
          bind = unbound ws;
          shallow = omega (arith, h.shallow, ap-deep, le-max_right (nesting t) (nestings us));
          end_shallow = deep;
          room = omega (arith, p.is, ap-length, short);
          goes = λ o'' q m c y. rw eq (out-ahead hd p.words p.is (rw (add-zero next) at y));
        }

  module _ {m f : ℕ} (n : ListNode ws (at + 3) m f) where
    pub ap-list : IsList ws (at + 3) t
    ap-list = as_list head-spot n.kind

    -- It has less than two items.
    pub ap-short : (count : ℕ) {o o' : List ℕ} → m < 2 → Parsed (told_of count t) w o o' (most w next (list (tcons t us))) (Err Malformed)
    ap-short count l = rw (ap (told_of count) ap-list.is ∙ app-short text count us h.scopes next ap-list.items (omega (arith, n.many, ap-list.many))) (refused refl)

    module _ (two : 2 ≤ m) where
      pub in_first_lem : More ap-list.items
      in_first_lem = some ap-list.items (omega (arith, n.many, ap-list.many))

      in_count : m ≡ suc (trees in_first_lem.others)
      unfolding trees
      in_count = n.many ∙ ap-list.many ∙ ap trees in_first_lem.is

      pub in_second : More in_first_lem.others
      in_second = some in_first_lem.others (omega (arith, in_count))

      in_many : m ≡ suc (suc (trees in_second.others))
      unfolding trees
      in_many = in_count ∙ ap (λ (ts : Trees). suc (trees ts)) in_second.is

      in_tree : t ≡ list (tcons in_first_lem.first (tcons in_second.first in_second.others))
      in_tree = ap-list.is ∙ ap list (in_first_lem.is ∙ ap (tcons in_first_lem.first) in_second.is)

      in_head : drop (at + 3) ws ≡ tree_words (list (tcons in_first_lem.first (tcons in_second.first in_second.others))) ++ (trees_words us ++ h.rest)
      in_head = ap-head ∙ ap (λ (u : Tree). tree_words u ++ (trees_words us ++ h.rest)) in_tree

      in-there : drop f ws ≡ trees_words (tcons in_first_lem.first (tcons in_second.first in_second.others)) ++ (trees_words us ++ h.rest)
      in-there = ap (λ (i : ℕ). drop i ws) n.first ∙ items-there ws (at + 3) (tcons in_first_lem.first (tcons in_second.first in_second.others)) (trees_words us ++ h.rest) in_head

      pub in_words : drop f ws ≡ tree_words in_first_lem.first ++ (trees_words (tcons in_second.first in_second.others) ++ (trees_words us ++ h.rest))
      in_words = first-there ws f in_first_lem.first (tcons in_second.first in_second.others) (trees_words us ++ h.rest) in-there

      abbrev pub inner-spot : Spot ws f
      inner-spot = record { tree = in_first_lem.first; rest = trees_words (tcons in_second.first in_second.others) ++ (trees_words us ++ h.rest); words = in_words }

      in-length : length (tree_words t) ≡ 3 + length (tree_words in_first_lem.first) + length (tree_words in_second.first) + length (trees_words in_second.others)
      in-length =
          omega (arith, ap (λ (u : Tree). length (tree_words u)) in_tree, list_length (tcons in_first_lem.first (tcons in_second.first in_second.others)), trees-size in_first_lem.first (tcons in_second.first in_second.others), trees-size in_second.first in_second.others)

      -- A call: the head comes behind the other items.
      pub in_call : (count : ℕ) {o o' : List ℕ} {u j have want : ℕ} → is_apply text in_second.first ≡ false → Put o w (38 ∷ 0 ∷ (get_or ws (at + 1) 0 - 1) ∷ []) o' u → j ≡ length (tree_words t) → have ≡ get_or ws (at + 1) 0 - 1 → want ≡ get_or ws (at + 1) 0 - 1
          → PlannedList text count ws at w next (tcons t us) h (told_of count t) o o' (Ok (Go (app_run (at + 3 + j) have want (at + 3) u)))
      unfolding end_w
      in_call count {want = want} x p js hs wants =
          let others : get_or ws (at + 1) 0 - 1 ≡ trees us = omega (arith, ap-many) in
          let told_as : told_of count t ≡ ahead (38 ∷ 0 ∷ (get_or ws (at + 1) 0 - 1) ∷ []) (after (operands_w text count us want h.scopes next) (λ m. told count ((ParseExpr.child text t).nested h.scopes m)))
          = ap (told_of count) in_tree ∙ apply-call text count us h.scopes next in_first_lem.first in_second.first in_second.others x
          ∙ ap (λ (u : Tree). ahead (38 ∷ 0 ∷ trees us ∷ []) (after (operands_w text count us (trees us) h.scopes next) (λ m. told count ((ParseExpr.child text u).nested h.scopes m)))) (sym in_tree)
          ∙ rw (others, wants ∙ others) refl in
          ap-run count (38 ∷ 0 ∷ (get_or ws (at + 1) 0 - 1) ∷ []) p js hs want (at + 3) (seen_last t)
          (record { rest = trees_words us ++ h.rest; words = ap-head; beyond = omega arith }, refl, refl)
          (omega (arith, h.shallow, ap-deep, le-max_left (nesting t) (nestings us))) (omega arith) told_as

      module _ {j : ℕ} (js : j ≡ length (tree_words in_first_lem.first)) where
        second-there : drop (f + j) ws ≡ trees_words (tcons in_second.first in_second.others) ++ (trees_words us ++ h.rest)
        second-there = others-there ws f in_first_lem.first (tcons in_second.first in_second.others) (trees_words us ++ h.rest) in-there j js

        pub second-words : drop (f + j) ws ≡ tree_words in_second.first ++ (trees_words in_second.others ++ (trees_words us ++ h.rest))
        second-words = first-there ws (f + j) in_second.first in_second.others (trees_words us ++ h.rest) second-there

        abbrev pub second-spot : Spot ws (f + j)
        second-spot = record { tree = in_second.first; rest = trees_words in_second.others ++ (trees_words us ++ h.rest); words = second-words }

        module _ (x : is_apply text in_second.first ≡ true) where
          -- The sort is missing.
          pub in_short : (count : ℕ) {o o' : List ℕ} → m < 3 → Parsed (told_of count t) w o o' (most w next (list (tcons t us))) (Err Malformed)
          in_short count q =
              let z : in_second.others ≡ tnil = none_left in_second.others (omega (arith, in_many)) in
              rw (ap (told_of count) (in_tree ∙ ap (λ (ts : Trees). list (tcons in_first_lem.first (tcons in_second.first ts))) z) ∙ apply-short text count us h.scopes next in_first_lem.first in_second.first x) (refused refl)

          module _ (three : 3 ≤ m) where
            pub in_third : More in_second.others
            in_third = some in_second.others (omega (arith, in_many))

            third-there : drop (f + j + 3) ws ≡ trees_words (tcons in_third.first in_third.others) ++ (trees_words us ++ h.rest)
            third-there =
                others-there ws (f + j) in_second.first in_second.others (trees_words us ++ h.rest) second-there 3 (sym (apply-three text in_second.first x))
                ∙ ap (λ (ts : Trees). trees_words ts ++ (trees_words us ++ h.rest)) in_third.is

            pub third-words : drop (f + j + 3) ws ≡ tree_words in_third.first ++ (trees_words in_third.others ++ (trees_words us ++ h.rest))
            third-words = first-there ws (f + j + 3) in_third.first in_third.others (trees_words us ++ h.rest) third-there

            abbrev pub third-spot : Spot ws (f + j + 3)
            third-spot = record { tree = in_third.first; rest = trees_words in_third.others ++ (trees_words us ++ h.rest); words = third-words }

            third-length : length (tree_words in_third.first) + 3 ≤ length (tree_words t)
            third-length = omega (arith, in-length, ap (λ (ts : Trees). length (trees_words ts)) in_third.is, trees-size in_third.first in_third.others)

            pub third-few : ((i : ℕ) → get_or ws i 0 < 2 ^ 32) → length (tree_words in_third.first) < 2 ^ 32
            third-few fit =
                omega (arith, fit (at + 3 + 2), list-words ws (at + 3) (tcons in_first_lem.first (tcons in_second.first in_second.others)) (trees_words us ++ h.rest) in_head, third-length, ap (λ (u : Tree). length (tree_words u)) in_tree, list_length (tcons in_first_lem.first (tcons in_second.first in_second.others)))

            abbrev pub third-small : ((i : ℕ) → get_or ws i 0 < 2 ^ 32) → Small ws (f + j + 3)
            third-small fit = record { spot = third-spot; small = third-few fit }

            in_three : t ≡ list (tcons in_first_lem.first (tcons in_second.first (tcons in_third.first in_third.others)))
            in_three = in_tree ∙ ap (λ (ts : Trees). list (tcons in_first_lem.first (tcons in_second.first ts))) in_third.is

            -- The sort is refused.
            pub in_bad : (count : ℕ) {o o' : List ℕ} {r : Refusal} → BadAt (parse_sort text in_third.first) r → Parsed (told_of count t) w o o' (most w next (list (tcons t us))) (Err r)
            in_bad count b = rw (ap (told_of count) in_three ∙ apply-bad text count us h.scopes next in_first_lem.first in_second.first x in_third.first in_third.others b.is) (refused (ap Err b.same))

            -- It is read: the function is left to do.
            pub in_apply : (count : ℕ) {o o₁ o₂ : List ℕ} {v u i have : ℕ} → Put o w (38 ∷ 1 ∷ 0 ∷ []) o₁ v → GotAt sort_words (parse_sort text in_third.first) v o₁ o₂ u → i ≡ length (tree_words t) → have ≡ get_or ws (at + 1) 0 - 1
                → PlannedList text count ws at w next (tcons t us) h (told_of count t) o o₂ (Ok (Go (app_run (at + 3 + i) have 1 0 u)))
            unfolding end_w repeated pick
            in_apply count p g is hs =
                let z : length (38 ∷ 1 ∷ 0 ∷ sort_words g.value) ≡ suc (suc (suc (length (sort_words g.value)))) = refl in
                ap-run count (38 ∷ 1 ∷ 0 ∷ sort_words g.value) (put_append (38 ∷ 1 ∷ 0 ∷ []) (sort_words g.value) p g.put) is hs 1 0 no_last (refl, refl)
                (omega (arith, h.shallow, ap-deep)) (omega (arith, third-length, sort-short text in_third.first g.is))
                (ap (told_of count) in_three ∙ apply-got text count us h.scopes next in_first_lem.first in_second.first x in_third.first in_third.others g.is
                ∙ ap (ahead (38 ∷ 1 ∷ 0 ∷ sort_words g.value)) (sym (after-done (operands_w text count us 1 h.scopes next))))
