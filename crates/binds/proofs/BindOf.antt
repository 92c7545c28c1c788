-- A bind, as facts on lists: a name, its sort, and predicates.
use Prim.Native.Nat.{ℕ, suc, ◌+◌, ◌*◌, ◌^◌, ◌≤◌, ◌<◌, max}
use mathlib.Core.Path.{◌≡◌, refl, sym, ap, ◌∙◌}
use mathlib.Core.List.{List, [], ◌∷◌, ◌++◌}
use native.Mathlib.Omega.{arith}
use native.Mathlib.Nat.{le-max_left, le-max_right}
use lib.ListN.{length, get_or, drop, length-append}
use Rattle.reading.specs.Limits.{max_lists}
use Rattle.reading.specs.Bytes.{Span}
use Rattle.reading.specs.Tree.{symbol, quoted, integer, decimal, boolean, Tree, Trees, atom, list, tnil, tcons, trees, atom_words, tree_words, trees_words, nesting, nestings}
use Rattle.reading.specs.Answer.{Refusal as Met, malformed, got, bad, Res, ok, no, chain}
use Rattle.grammar.specs.Sort.{Sort, sort_words}
use Rattle.grammar.specs.ParseSort.{in_list, in_atom, in_symbol, symbol_in, tree_at, parse_sort}
use Rattle.grammar.specs.Item.{raise, words_of}
use Rattle.grammar.specs.Expr.{Pred, bind_items}
use Rattle.grammar.specs.Scope.{var_of}
use Rattle.grammar.specs.ParseExpr.{child}
use Rattle.grammar.specs.ParseBind.{parse_bind}
use Rattle.grammar.specs.Written.{told_of, ahead}
use Rattle.places.specs.Spot.{Spot, Small}
use Rattle.places.specs.Outcome.{bound, Put}
use Rattle.plans.specs.Plans.{Parsed, refused}
use Rattle.plans.specs.Whole.{Whole}
use Rattle.binds.specs.PredWords.{PredHere, counted_preds}
use Rattle.plans.specs.declared.progress.Progress.{Progress}
use Rattle.std.specs.Prelude.{Result, Err}
use Rattle.words.specs.declared.refusal.Refusal.{Refusal}
use Rattle.words.specs.declared.refusal.Refusal.TheVariants.{Malformed}
use Rattle.words.specs.Refusals.{refusal_of}
use Rattle.grammar.proofs.Items.{words-front}
use Rattle.grammar.proofs.Raise.{raise-front}
use Rattle.places.proofs.Puts.{put_append}
use Rattle.plans.proofs.Laid.{out-ahead}
use Rattle.places.proofs.FirstTree.{More, some, none_left}
use Rattle.places.proofs.SortPlace.{GotAt, BadAt, sort-short}
use Rattle.binds.proofs.ListHead.{the_list, list-trees, the_items, whole_is, head-spot, others-words}
use Rattle.binds.proofs.PredNames.{symbol-here, symbol-three}
use Rattle.grammar.proofs.TreeHead.{no-list, no_symbol}
use Rattle.reading.proofs.TreeHead.{alone}
use Rattle.places.proofs.Spots.{word0}
use Rattle.places.proofs.Inside.{ListNode, first-there, trees-size}

-- ---- what a tree is as a bind

module _ (text : List ℕ) (n : ℕ) where
  -- No list, or one without items.
  parse_atom : (t : Tree) → in_list t ≡ bad malformed → parse_bind text t n ≡ no malformed
  unfolding parse_bind
  parse_atom t e = rw e refl

  parse_none : parse_bind text (list tnil) n ≡ no malformed
  unfolding parse_bind in_list tree_at
  parse_none = refl

  -- The first item is no list of two.
  parse_no_pair : (t : Tree) (us : Trees) → in_list t ≡ bad malformed → parse_bind text (list (tcons t us)) n ≡ no malformed
  unfolding parse_bind in_list tree_at
  parse_no_pair t us e = rw e refl

  parse_short : (ps us : Trees) → trees ps < 2 → parse_bind text (list (tcons (list ps) us)) n ≡ no malformed
  unfolding parse_bind in_list tree_at in_symbol in_atom symbol_in trees
  parse_short tnil us l = refl
  parse_short (tcons (atom (symbol s)) tnil) us l = refl
  parse_short (tcons (atom (quoted s)) tnil) us l = refl
  parse_short (tcons (atom (integer v)) tnil) us l = refl
  parse_short (tcons (atom (decimal s)) tnil) us l = refl
  parse_short (tcons (atom (boolean b)) tnil) us l = refl
  parse_short (tcons (list ts) tnil) us l = refl
  parse_short (tcons t (tcons u ts)) us l = absurd (omega arith)

  -- Its first item is no name.
  parse_no_name : (t : Tree) (vs us : Trees) → in_symbol t ≡ bad malformed → parse_bind text (list (tcons (list (tcons t vs)) us)) n ≡ no malformed
  unfolding parse_bind in_list tree_at
  parse_no_name t vs us e = rw e refl

  module _ (s : Span) (v : Tree) (vs us : Trees) where
    -- A name and a tree that is to be a sort.
    abbrev named : Tree
    named = list (tcons (list (tcons (atom (symbol s)) (tcons v vs))) us)

    parse_no_sort : {e : Met} → parse_sort text v ≡ bad e → parse_bind text named n ≡ no e
    unfolding parse_bind in_list tree_at in_symbol in_atom symbol_in
    parse_no_sort e = rw e refl

    module _ {o : Sort} (e : parse_sort text v ≡ got o) where
      -- No predicate, and a tree that is to be predicates.
      parse_one : us ≡ tnil → parse_bind text named n ≡ no malformed
      unfolding parse_bind in_list tree_at in_symbol in_atom symbol_in
      parse_one z = rw (e, z) refl

      parse_preds : (t : Tree) (ts : Trees) → us ≡ tcons t ts → parse_bind text named n ≡ chain ((child text t).preds n) (λ ps m. ok (record { name = var_of s; sort = o; preds = ps }) m)
      unfolding parse_bind in_list tree_at in_symbol in_atom symbol_in
      parse_preds t ts z = rw (e, z) refl

-- The words of a bind: its name and sort, and then its predicates'.
bind-words : (c : ℕ) (s : Span) (o : Sort) (ps : List Pred) → words_of (raise c (bind_items (record { name = var_of s; sort = o; preds = ps }))) ≡ ((s.start ∷ s.len ∷ []) ++ sort_words o) ++ words_of (raise c (counted_preds ps))
unfolding bind_items raise words_of
bind-words c s o ps =
    ap (λ (l : List ℕ). s.start ∷ s.len ∷ l) (ap words_of (raise-front c (sort_words o) (counted_preds ps)) ∙ words-front (sort_words o) (raise c (counted_preds ps)))

bind-told : (c : ℕ) (s : Span) (o : Sort) (r : Res (List Pred)) → told_of bind_items c (chain r (λ ps m. ok (record { name = var_of s; sort = o; preds = ps }) m)) ≡ ahead ((s.start ∷ s.len ∷ []) ++ sort_words o) (told_of counted_preds c r)
bind-told c s o (ok ps m) = ap (λ (l : List ℕ). ok l m) (bind-words c s o ps)
bind-told c s o (no e) = refl

-- ---- the bind that the code reads

module _ {text ws : List ℕ} (h : Whole text ws) where
  pub whole_words : ws ≡ tree_words h.tree ++ []
  whole_words = alone h.tree h.words

  abbrev pub whole-spot : Spot ws 0
  whole-spot = record { tree = h.tree; rest = []; words = whole_words }

  -- What is said of the call.
  abbrev Said : ℕ → List ℕ → List ℕ → Result Progress Refusal → Type 0
  Said count o o' r = Parsed (told_of bind_items count (parse_bind text h.tree 0)) 0 o o' bound r

  said-no : (count : ℕ) {o o' : List ℕ} (e : Met) → parse_bind text h.tree 0 ≡ no e → (k : Refusal) → k ≡ refusal_of e → Said count o o' (Err k)
  said-no count e x k d = rw x (refused (ap Err d))

  -- No list.
  pub bind-atom : (count : ℕ) {o o' : List ℕ} → (get_or ws 0 0 ≡ 21 → ⊥) → Said count o o' (Err Malformed)
  bind-atom count k = said-no count malformed (parse_atom text 0 h.tree (no-list [] h.tree whole_words k)) Malformed refl

  module _ {k f : ℕ} (n : ListNode ws 0 k f) where
    -- No items.
    pub bind-none : (count : ℕ) {o o' : List ℕ} → k ≡ 0 → Said count o o' (Err Malformed)
    bind-none count z =
        said-no count malformed
        (ap (λ (t : Tree). parse_bind text t 0) ((the_list whole-spot n).is ∙ ap list (none_left (the_list whole-spot n).items (sym (list-trees whole-spot n) ∙ z))) ∙ parse_none text 0)
        Malformed
        refl

    module _ (z : k ≡ 0 → ⊥) where
      abbrev first : Tree
      first = (the_items whole-spot n z).first

      abbrev others : Trees
      others = (the_items whole-spot n z).others

      abbrev pub pair-spot : Spot ws f
      pair-spot = head-spot whole-spot n z

      pub bind-no-pair : (count : ℕ) {o o' : List ℕ} → (get_or ws f 0 ≡ 21 → ⊥) → Said count o o' (Err Malformed)
      bind-no-pair count m =
          said-no count malformed
          (ap (λ (t : Tree). parse_bind text t 0) (whole_is whole-spot n z)
          ∙ parse_no_pair text 0 first others (no-list (trees_words others ++ []) first refl (λ e. m (word0 pair-spot ∙ e))))
          Malformed
          refl

      module _ {m g : ℕ} (n' : ListNode ws f m g) where
        pub bind-short : (count : ℕ) {o o' : List ℕ} → m < 2 → Said count o o' (Err Malformed)
        bind-short count l =
            said-no count malformed
            (ap (λ (t : Tree). parse_bind text t 0) (whole_is whole-spot n z ∙ ap (λ (t : Tree). list (tcons t others)) (the_list pair-spot n').is)
            ∙ parse_short text 0 (the_list pair-spot n').items others (omega (arith, list-trees pair-spot n')))
            Malformed
            refl

        module _ (two : 2 ≤ m) where
          pub some-name : m ≡ 0 → ⊥
          some-name e = omega arith

          abbrev pub name-spot : Spot ws g
          name-spot = head-spot pair-spot n' some-name

          abbrev behind : Trees
          behind = (the_items pair-spot n' some-name).others

          pair_is : h.tree ≡ list (tcons (list (tcons name-spot.tree behind)) others)
          pair_is = whole_is whole-spot n z ∙ ap (λ (t : Tree). list (tcons t others)) (whole_is pair-spot n' some-name)

          pub bind-no-name : (count : ℕ) {o o' : List ℕ} → (get_or ws g 0 ≡ 16 → ⊥) → Said count o o' (Err Malformed)
          bind-no-name count y =
              said-no count malformed
              (ap (λ (t : Tree). parse_bind text t 0) pair_is ∙ parse_no_name text 0 name-spot.tree behind others (no_symbol name-spot.rest name-spot.tree refl (λ e. y (word0 name-spot ∙ e))))
              Malformed
              refl

          module _ (y : get_or ws g 0 ≡ 16) where
            abbrev name : Span
            name = record { start = get_or ws (g + 1) 0; len = get_or ws (g + 2) 0 }

            items-many : trees (the_list pair-spot n').items ≡ suc (trees behind)
            unfolding trees
            items-many = ap trees (the_items pair-spot n' some-name).is

            pub the_sort : More (the_items pair-spot n' some-name).others
            the_sort = some behind (omega (arith, list-trees pair-spot n', items-many))

            pub sort-words : drop (g + 3) ws ≡ tree_words the_sort.first ++ (trees_words the_sort.others ++ (trees_words others ++ []))
            sort-words =
                first-there ws (g + 3) the_sort.first the_sort.others (trees_words others ++ [])
                (others-words pair-spot n' some-name 3 (sym (symbol-three name-spot y)) ∙ ap (λ (t : Trees). trees_words t ++ (trees_words others ++ [])) the_sort.is)

            named-is : h.tree ≡ list (tcons (list (tcons (atom (symbol name)) (tcons the_sort.first the_sort.others))) others)
            named-is =
                pair_is ∙ ap (λ (t : Tree). list (tcons (list (tcons t behind)) others)) (symbol-here name-spot y)
                ∙ ap (λ (t : Trees). list (tcons (list (tcons (atom (symbol name)) t)) others)) the_sort.is

            whole-size : 9 + length (tree_words the_sort.first) + length (trees_words others) ≤ length ws
            unfolding tree_words atom_words
            whole-size =
                let a : length ws ≡ suc (suc (suc (suc (suc (suc (suc (suc (suc (length ((tree_words the_sort.first ++ trees_words the_sort.others) ++ trees_words others)))))))))) = ap length h.words ∙ ap (λ (t : Tree). length (tree_words t)) named-is in
                omega (arith, length-append (tree_words the_sort.first ++ trees_words the_sort.others) (trees_words others), length-append (tree_words the_sort.first) (trees_words the_sort.others))

            pub sort-few : length (tree_words the_sort.first) < 2 ^ 32
            sort-few = omega (arith, whole-size, h.small)

            abbrev pub sort-small : Small ws (g + 3)
            sort-small = record { spot = record { tree = the_sort.first; rest = trees_words the_sort.others ++ (trees_words others ++ []); words = sort-words }; small = sort-few }

            -- No sort.
            pub bind-no-sort : (count : ℕ) {o o' : List ℕ} {e : Refusal} → BadAt (parse_sort text the_sort.first) e → Said count o o' (Err e)
            bind-no-sort count {e = e} b =
                said-no count b.why (ap (λ (t : Tree). parse_bind text t 0) named-is ∙ parse_no_sort text 0 name the_sort.first the_sort.others others b.is) e b.same

            module _ {o₁ o₂ : List ℕ} {v u : ℕ} (vs : v ≡ 2) (q : GotAt sort_words (parse_sort text the_sort.first) v o₁ o₂ u) where
              others-many : trees (the_list whole-spot n).items ≡ suc (trees others)
              unfolding trees
              others-many = ap trees (the_items whole-spot n z).is

              -- No predicate.
              pub bind-one : (count : ℕ) {o o' : List ℕ} → k < 2 → Said count o o' (Err Malformed)
              bind-one count l =
                  said-no count malformed
                  (ap (λ (t : Tree). parse_bind text t 0) named-is ∙ parse_one text 0 name the_sort.first the_sort.others others q.is (none_left others (omega (arith, list-trees whole-spot n, others-many))))
                  Malformed
                  refl

              module _ (l : 2 ≤ k) where
                pub the_pred : More (the_items whole-spot n z).others
                the_pred = some others (omega (arith, list-trees whole-spot n, others-many))

                pred-size : length (trees_words others) ≡ length (tree_words the_pred.first) + length (trees_words the_pred.others)
                pred-size = ap (λ (t : Trees). length (trees_words t)) the_pred.is ∙ trees-size the_pred.first the_pred.others

                pub pred-words : {j : ℕ} → j ≡ length (tree_words first) → drop (f + j) ws ≡ tree_words the_pred.first ++ (trees_words the_pred.others ++ [])
                pred-words {j} e =
                    first-there ws (f + j) the_pred.first the_pred.others [] (others-words whole-spot n z j e ∙ ap (λ (t : Trees). trees_words t ++ []) the_pred.is)

                pub pred-nests : nesting the_pred.first ≤ max_lists
                unfolding nesting
                pred-nests =
                    let a : nesting h.tree ≡ suc (max (nesting first) (max (nesting the_pred.first) (nestings the_pred.others))) = ap nesting (whole_is whole-spot n z ∙ ap (λ (t : Trees). list (tcons first t)) the_pred.is) in
                    omega (arith, h.nests, le-max_right (nesting first) (max (nesting the_pred.first) (nestings the_pred.others)), le-max_left (nesting the_pred.first) (nestings the_pred.others))

                pub pred-small : length (tree_words the_pred.first) < 2 ^ 32
                pred-small = omega (arith, whole-size, h.small, pred-size)

                pub pred-room : u + 1 + 0 + 32 * length (tree_words the_pred.first) ≤ bound
                pred-room = omega (arith, whole-size, h.small, pred-size, q.put.is, sort-short text the_sort.first q.is)

                abbrev pub pred-here : {j : ℕ} → j ≡ length (tree_words first) → PredHere text ws (f + j) (u + 1) 0
                pred-here e = record {
                  spot = record { tree = the_pred.first; rest = trees_words the_pred.others ++ []; words = pred-words e };
                  nests = pred-nests;
                  small = pred-small;
                  room = pred-room;
                  bytes = h.bytes;
                }

                -- The predicates decide.
                pub bind-preds : (count : ℕ) {o o₃ : List ℕ} {r : Result Progress Refusal} → Put o 0 (get_or ws (g + 1) 0 ∷ get_or ws (g + 2) 0 ∷ []) o₁ v
                    → Parsed (told_of counted_preds count ((child text the_pred.first).preds 0)) u o₂ o₃ bound r → Said count o o₃ r
                bind-preds count {o} p x =
                    let hd = (get_or ws (g + 1) 0 ∷ get_or ws (g + 2) 0 ∷ []) ++ sort_words q.value in
                    let all : Put o 0 hd o₂ u = put_append (get_or ws (g + 1) 0 ∷ get_or ws (g + 2) 0 ∷ []) (sort_words q.value) p q.put in
                    rw (ap (λ (t : Tree). parse_bind text t 0) named-is ∙ parse_preds text 0 name the_sort.first the_sort.others others q.is the_pred.first the_pred.others the_pred.is, bind-told count name q.value ((child text the_pred.first).preds 0))
                    (out-ahead hd all.words all.is x)
