-- The parts of a solution: its parameters, which are pairs of a name and a sort, and its body under them.
use Prim.Native.Nat.{ℕ, suc, ◌+◌, ◌^◌, ◌≤◌, ◌<◌, max}
use mathlib.Core.Path.{◌≡◌, refl, sym, ap, ◌∙◌}
use mathlib.Core.Bool.{Bool, true, false}
use mathlib.Core.List.{List, [], ◌∷◌, ◌++◌}
use native.Mathlib.Omega.{arith}
use native.Mathlib.Nat.{zero-add, le-max_left, le-max_right}
use lib.ListN.{length, get_or, drop}
use borrow.Author.Tests.{ne_eqb}
use Rattle.reading.specs.Limits.{max_lists}
use Rattle.reading.specs.Bytes.{Span}
use Rattle.reading.specs.Tree.{Tree, Trees, list, tnil, tcons, trees, tree_words, trees_words, nesting}
use Rattle.reading.specs.Answer.{Refusal as Met, malformed, Ans, got, bad, Res, ok, no, chain, lifted}
use Rattle.grammar.specs.Item.{raise, words_of}
use Rattle.grammar.specs.Expr.{Expr, expr_items, Solution}
use Rattle.grammar.specs.ParseSort.{in_list, tree_at}
use Rattle.grammar.specs.Scope.{numbered, distinct}
use Rattle.grammar.specs.ParseExpr
use Rattle.grammar.specs.ParseExpr.{Binders, binders}
use Rattle.grammar.specs.ParseSolution.{all_names, all_sorts, parse_solution}
use Rattle.sorts.specs.Rows.{is_got}
use Rattle.places.specs.Spot.{Spot}
use Rattle.writing.specs.Laid.{laid}
use Rattle.places.specs.Outcome.{Put}
use Rattle.grammar.specs.Item.{raised_words}
use Rattle.grammar.specs.Expr.{param_items}
use Rattle.plans.specs.BinderWords.{BinderRow, binders_words}
use Rattle.plans.specs.Whole.{Whole}
use Rattle.solutions.specs.PartsWords.{BodyHere, body_of, BodyDone, body_wrote, body_refused, PartsDone, parts_wrote, parts_refused}
use Rattle.solutions.specs.declared.parts.Parts.{Parts}
use Rattle.std.specs.Prelude.{Result, Ok, Err}
use Rattle.words.specs.declared.refusal.Refusal.{Refusal}
use Rattle.words.specs.declared.refusal.Refusal.TheVariants as refusal
use Rattle.places.proofs.Puts.{put_append}
use Rattle.places.proofs.SortPlace.{GotAt, BadAt, every_got}
use Rattle.plans.proofs.BinderPairs.{ReadFrom, read_from}
use Rattle.plans.proofs.ExistsForm.{numbered-length}
use Rattle.reading.proofs.TreeHead.{Three, three-trees, alone}
use Rattle.grammar.proofs.TreeHead.{no-list}
use Rattle.places.proofs.Spots.{word0, spot-within, as_list, IsList}
use Rattle.scopes.proofs.ScopeNames.{named-trees}
use Rattle.places.proofs.Inside.{ListNode, items-there, first-there, others-there, list_length}
use Rattle.solutions.proofs.ParamNames.{Some, names-bad, names-got, names-binders, split-got, split-bad}

-- ---- what a solution is

-- The parameters take the first numbers.
abbrev made : Binders → Expr → Solution
made bs x = record { params = numbered 0 bs.sorts; body = x }

module _ (text : List ℕ) where
  solution-atom : (t : Tree) → in_list t ≡ bad malformed → parse_solution text t 0 ≡ no malformed
  unfolding parse_solution
  solution-atom t e = rw e refl

  solution-count : (ts : Trees) → (trees ts ≡ 3 → ⊥) → parse_solution text (list ts) 0 ≡ no malformed
  unfolding parse_solution in_list
  solution-count ts h = rw (ne_eqb (trees ts) 3 h) refl

  module _ (a : Tree) where
    solution-params : (b e : Tree) → in_list b ≡ bad malformed → parse_solution text (list (tcons a (tcons b (tcons e tnil)))) 0 ≡ no malformed
    unfolding parse_solution in_list trees tree_at
    solution-params b e h = rw h refl

    module _ (ps : Trees) (e : Tree) where
      abbrev solution : Res Solution
      solution = parse_solution text (list (tcons a (tcons (list ps) (tcons e tnil)))) 0

      solution-names : all_names ps ≡ bad malformed → solution ≡ no malformed
      unfolding parse_solution in_list trees tree_at
      solution-names h = rw h refl

      module _ {names : List Span} (n : all_names ps ≡ got names) where
        solution-sorts : {r : Met} → binders text ps ≡ bad r → solution ≡ no r
        unfolding parse_solution in_list trees tree_at
        solution-sorts {r} h = rw (n, split-bad names (all_sorts text ps) r (sym (names-binders text ps names n) ∙ h)) refl

        solution-body : {bs : Binders} → binders text ps ≡ got bs
            → solution ≡ chain (body_of text e bs.names (length bs.sorts)) (λ x m. ok (made bs x) m)
        unfolding parse_solution in_list trees tree_at body_of
        solution-body {bs} h =
            let s = split-got names (all_sorts text ps) bs (sym (names-binders text ps names n) ∙ h) in
            rw (n, s.sorts, s.same, zero-add (length bs.sorts)) (go ((ParseExpr.child text e).plainly (record { names = bs.names; first = 0 } ∷ []) (length bs.sorts)))
          where
            behind : (x : Expr) (m : ℕ) (d : Ans (Unit {0}))
                → chain (lifted d m) (λ _ k. ok (made bs x) k)
                ≡ chain (chain (lifted d m) (λ _ k. ok x k)) (λ y k. ok (made bs y) k)
            behind x m (got u) = refl
            behind x m (bad r) = refl

            go : (r : Res Expr)
                → chain r (λ x m. chain (lifted (distinct text bs.names) m) (λ _ k. ok (made bs x) k))
                ≡ chain (chain r (λ x m. chain (lifted (distinct text bs.names) m) (λ _ k. ok x k))) (λ y k. ok (made bs y) k)
            go (ok x m) = behind x m (distinct text bs.names)
            go (no q) = refl

-- ---- the whole

-- The words of the parameters, behind how many they are.
params-words : (count : ℕ) (bs : Binders) (e : Expr) → raised_words param_items count (made bs e) ≡ (length bs.sorts ∷ []) ++ binders_words count 0 bs
unfolding raise words_of
params-words count bs e = ap (λ (k : ℕ). k ∷ binders_words count 0 bs) (numbered-length 0 bs.sorts)

-- The body was read or refused, the parameters being written.
parts-made : (count : ℕ) (bs : Binders) (x : Res Expr) {u : ℕ} {d d' o o' : List ℕ} {r : Result Parts Refusal} → Put o 0 ((length bs.sorts ∷ []) ++ binders_words count 0 bs) o' u → BodyDone count u d d' x r
    → PartsDone count d d' o o' (chain x (λ e n. ok (made bs e) n)) r
parts-made count bs (ok e n) {u} {o = o} p (body_wrote is w) =
    let z = params-words count bs e in
    let s : u ≡ length (raised_words param_items count (made bs e)) = p.is ∙ zero-add _ ∙ ap length (sym z) in
    parts_wrote (is ∙ ap (λ k. Ok (record { params = k; body = length (raised_words expr_items count e); fresh = n })) s) w (p.words ∙ ap (laid o 0) (sym z))
parts-made count bs (no r) p (body_refused is) = parts_refused is

module _ {text ws : List ℕ} (h : Whole text ws) where
  abbrev pub root : Spot ws 0
  root = record { tree = h.tree; rest = []; words = alone h.tree h.words }

  -- It is no list.
  pub whole-other : (count : ℕ) {d d' o o' : List ℕ} → (get_or ws 0 0 ≡ 21 → ⊥) → PartsDone count d d' o o' (parse_solution text h.tree 0) (Err refusal.Malformed)
  whole-other count k = rw (solution-atom text h.tree (no-list [] h.tree root.words k)) (parts_refused refl)

  module _ {n f : ℕ} (l : ListNode ws 0 n f) where
    pub whole-list : IsList ws 0 h.tree
    whole-list = as_list root l.kind

    whole-many : n ≡ trees whole-list.items
    whole-many = l.many ∙ whole-list.many

    -- Not three items.
    pub whole-count : (count : ℕ) {d d' o o' : List ℕ} → (n ≡ 3 → ⊥) → PartsDone count d d' o o' (parse_solution text h.tree 0) (Err refusal.Malformed)
    whole-count count k = rw (ap (λ (t : Tree). parse_solution text t 0) whole-list.is ∙ solution-count text whole-list.items (λ e. k (whole-many ∙ e))) (parts_refused refl)

    module _ (three : n ≡ 3) where
      pub items : Three (trees_words whole-list.items) whole-list.items
      items = three-trees whole-list.items refl (sym whole-many ∙ three)

      whole_is : h.tree ≡ list (tcons items.first (tcons items.second (tcons items.third tnil)))
      whole_is = whole-list.is ∙ ap list items.is

      from_first : drop f ws ≡ trees_words (tcons items.first (tcons items.second (tcons items.third tnil))) ++ []
      from_first = ap (λ (i : ℕ). drop i ws) l.first ∙ items-there ws 0 (tcons items.first (tcons items.second (tcons items.third tnil))) [] (root.words ∙ ap (λ (t : Tree). tree_words t ++ []) whole_is)

      pub head-words : drop f ws ≡ tree_words items.first ++ (trees_words (tcons items.second (tcons items.third tnil)) ++ [])
      head-words = first-there ws f items.first (tcons items.second (tcons items.third tnil)) [] from_first

      -- The first item is not looked at.
      abbrev pub head-spot : Spot ws f
      head-spot = record { tree = items.first; rest = trees_words (tcons items.second (tcons items.third tnil)) ++ []; words = head-words }

      pub body-deep : 1 + nesting items.third ≤ max_lists
      unfolding nesting
      body-deep =
          let z : nesting h.tree ≡ suc (max (nesting items.first) (max (nesting items.second) (max (nesting items.third) 0))) = ap nesting whole_is in
          omega (arith, h.nests, z, le-max_right (nesting items.first) (max (nesting items.second) (max (nesting items.third) 0)), le-max_right (nesting items.second) (max (nesting items.third) 0), le-max_left (nesting items.third) 0)

      module _ {j : ℕ} (js : j ≡ length (tree_words items.first)) where
        from_second : drop (f + j) ws ≡ trees_words (tcons items.second (tcons items.third tnil)) ++ []
        from_second = others-there ws f items.first (tcons items.second (tcons items.third tnil)) [] from_first j js

        pub params-there : drop (f + j) ws ≡ tree_words items.second ++ (trees_words (tcons items.third tnil) ++ [])
        params-there = first-there ws (f + j) items.second (tcons items.third tnil) [] from_second

        abbrev pub params-spot : Spot ws (f + j)
        params-spot = record { tree = items.second; rest = trees_words (tcons items.third tnil) ++ []; words = params-there }

        -- The parameters are no list.
        pub params-other : (count : ℕ) {d d' o o' : List ℕ} → (get_or ws (f + j) 0 ≡ 21 → ⊥) → PartsDone count d d' o o' (parse_solution text h.tree 0) (Err refusal.Malformed)
        params-other count k =
            rw (ap (λ (t : Tree). parse_solution text t 0) whole_is
            ∙ solution-params text items.first items.second items.third (no-list params-spot.rest items.second refl (λ e. k (word0 params-spot ∙ e))))
            (parts_refused refl)

        module _ {k g : ℕ} (v : ListNode ws (f + j) k g) where
          pub pairs : IsList ws (f + j) items.second
          pairs = as_list params-spot v.kind

          pub pairs-there : drop (f + j) ws ≡ tree_words (list pairs.items) ++ (trees_words (tcons items.third tnil) ++ [])
          pairs-there = params-there ∙ ap (λ (t : Tree). tree_words t ++ (trees_words (tcons items.third tnil) ++ [])) pairs.is

          pub pairs-few : 3 + length (trees_words pairs.items) < 2 ^ 32
          pairs-few = omega (arith, spot-within params-spot, ap (λ (t : Tree). length (tree_words t)) pairs.is, list_length pairs.items, h.small)

          tree_is : parse_solution text h.tree 0 ≡ parse_solution text (list (tcons items.first (tcons (list pairs.items) (tcons items.third tnil)))) 0
          tree_is = ap (λ (t : Tree). parse_solution text t 0) (whole_is ∙ ap (λ (t : Tree). list (tcons items.first (tcons t (tcons items.third tnil)))) pairs.is)

          module _ {m : ℕ} (ms : m ≡ k) where
            pub pairs-many : m ≡ trees pairs.items
            pairs-many = ms ∙ v.many ∙ pairs.many

            -- The pairs stand there, and there is room for their words.
            abbrev pub pairs-row : (w : ℕ) → w ≤ 1 → BinderRow ws g m w
            pairs-row w e = record {
              items = pairs.items;
              rest = trees_words (tcons items.third tnil) ++ [];
              words = ap (λ (i : ℕ). drop i ws) v.first ∙ items-there ws (f + j) pairs.items (trees_words (tcons items.third tnil) ++ []) pairs-there;
              many = pairs-many;
              small = omega (arith, pairs-few);
              room = omega (arith, pairs-few, e);
            }

            module _ {r : Bool} (is : r ≡ is_got (all_names pairs.items)) where
              -- One is no pair.
              pub pairs-bad : (count : ℕ) {d d' o o' : List ℕ} → r ≡ false → PartsDone count d d' o o' (parse_solution text h.tree 0) (Err refusal.Malformed)
              pairs-bad count e = rw (tree_is ∙ solution-names text items.first pairs.items items.third (names-bad pairs.items (sym is ∙ e))) (parts_refused refl)

              module _ (yes : r ≡ true) where
                names : Some pairs.items
                names = names-got pairs.items (sym is ∙ yes)

                -- A sort is refused.
                pub sorts-bad : (count : ℕ) {d d' o o' : List ℕ} {e : Refusal} → BadAt (binders text pairs.items) e → PartsDone count d d' o o' (parse_solution text h.tree 0) (Err e)
                sorts-bad count b = rw (tree_is ∙ solution-sorts text items.first pairs.items items.third names.is b.is) (parts_refused (ap Err b.same))

                module _ (count : ℕ) {o o₁ o' : List ℕ} {w u : ℕ} (p : Put o 0 (k ∷ []) o₁ w) (t : GotAt (binders_words count 0) (binders text pairs.items) w o₁ o' u) where
                  pub read : ReadFrom pairs.items t.value
                  read = every_got (ReadFrom pairs.items) (read_from text pairs.items) t.is

                  module _ {i : ℕ} (ls : i ≡ length (tree_words items.second)) where
                    pub fresh-many : m ≡ length t.value.sorts
                    fresh-many = pairs-many ∙ sym read.many

                    pub body-there : drop (f + j + i) ws ≡ tree_words items.third ++ (trees_words tnil ++ [])
                    body-there = first-there ws (f + j + i) items.third tnil [] (others-there ws (f + j) items.second (tcons items.third tnil) [] from_second i ls)

                    abbrev pub body-spot : Spot ws (f + j + i)
                    body-spot = record { tree = items.third; rest = trees_words tnil ++ []; words = body-there }

                    abbrev pub parts-body : BodyHere text ws g m (f + j + i)
                    parts-body = record {
                      params = record {
                        names = t.value.names;
                        pairs = pairs.items;
                        rest = trees_words (tcons items.third tnil) ++ [];
                        words = (pairs-row 0 (omega arith)).words;
                        named = read.named;
                        many = pairs-many ∙ named-trees pairs.items t.value.names read.named;
                      };
                      there = λ z. omega (arith, v.first);
                      spot = body-spot;
                      nests = body-deep;
                      room = omega (arith, spot-within body-spot, h.small, read.short 0 0, pairs-few, read.many, fresh-many);
                      bytes = h.bytes;
                    }

                    -- The body under the parameters.
                    pub parts-done : {d d' : List ℕ} {q : Result Parts Refusal} → BodyDone count u d d' (body_of text items.third t.value.names m) q → PartsDone count d d' o o' (parse_solution text h.tree 0) q
                    parts-done {d} {d'} {q} y =
                        let bs = t.value in
                        let kn : k ≡ length bs.sorts = sym ms ∙ fresh-many in
                        let z : BodyDone count u d d' (body_of text items.third bs.names (length bs.sorts)) q = rw fresh-many at y in
                        rw (tree_is ∙ solution-body text items.first pairs.items items.third names.is t.is)
                        (parts-made count bs (body_of text items.third bs.names (length bs.sorts)) (put_append (length bs.sorts ∷ []) (binders_words count 0 bs) (rw kn at p) t.put) z)
