-- The plan of a let: what its words say of it, in the order in which the code asks.
use Rattle.std.proofs.Common.{◌≡◌, ℕ, suc, ◌+◌, ◌<◌, ◌≤◌, max, false, List, [], ◌∷◌, ◌++◌, length, get_or, drop, sym, refl, ap, ◌∙◌, subst, append-nil, add-zero, arith, length-append}
use native.Mathlib.Nat.{le-max_left, le-max_right}
use Rattle.reading.specs.Pick.{pick}
use Rattle.reading.specs.Bytes.{Span}
use Rattle.reading.specs.Tree.{symbol, Tree, Trees, atom, list, tnil, tcons, trees, atom_words, tree_words, trees_words, nesting, nestings}
use Rattle.reading.specs.Answer.{got, bad, malformed, Res, no}
use Rattle.grammar.specs.Scope.{Scope}
use Rattle.grammar.specs.Item.{raise, words_of}
use Rattle.grammar.specs.Expr.{Expr, k_let_fresh, kind_items}
use Rattle.grammar.specs.ParseSort.{in_symbol, in_atom, symbol_in}
use Rattle.grammar.specs.ParseExpr
use Rattle.grammar.specs.ParseExpr.{child_at, nested_at, let_form, atom_child, through_name, through_value}
use Rattle.grammar.specs.Written.{kind_words, told, after, operands_w, end_w, Last, no_last, bound_last}
use Rattle.places.specs.Spot.{Seen}
use Rattle.scopes.specs.Scopes.{Pairs, none, more, inner}
use Rattle.places.specs.Outcome.{Put}
use Rattle.plans.specs.Late.{filled}
use Rattle.plans.specs.Plans.{Parsed, Listed, PlannedList, Counts, EndsAt, end_nesting, end_size, most}
use Rattle.plans.specs.declared.progress.Progress.{Progress}
use Rattle.plans.specs.declared.plan.Plan.TheVariants.{Go}
use Rattle.words.specs.declared.refusal.Refusal.{Refusal}
use Rattle.std.specs.Prelude.{Result, Ok}
use Rattle.plans.specs.declared.plan.Run.{Run}
use Rattle.grammar.proofs.FormsWritten.{let_behind, let-told, let-short}
use Rattle.grammar.proofs.TreeHead.{no_symbol}
use Rattle.places.proofs.Spots.{word0, as_list}
use Rattle.places.proofs.Rows.{Leading, lead-spot, leading, lead-count, lead-size, lead-nesting, lead-next, list_inside, as_symbol}
use Rattle.plans.proofs.Laid.{out-behind, out_missing, kind-filled}
use Rattle.places.proofs.FirstTree.{none_left}
use Rattle.plans.proofs.ListPlans.{unbound, head-count, head-others, head-shallow, head-most}
use Rattle.plans.proofs.TreePlans.{three-there}
use Rattle.places.proofs.Inside.{ListNode, child-tree}

-- ---- what a let is

-- An item that is no pair has no name.
module _ (text : List ℕ) where
  name-atom : (t : Tree) (rest : List ℕ) → (get_or (tree_words t ++ rest) 0 0 ≡ 21 → ⊥) → (ParseExpr.child text t).let_name ≡ bad malformed
  unfolding ParseExpr.child atom_child tree_words
  name-atom (atom a) rest h = refl
  name-atom (list ts) rest h = absurd (h refl)

  name-few : (ts : Trees) → trees ts < 2 → (trees ts ≡ 1 → ⊥) → (ParseExpr.child text (list ts)).let_name ≡ bad malformed
  unfolding ParseExpr.child ParseExpr.list_child through_name trees
  name-few tnil h n = refl
  name-few (tcons t tnil) h n = absurd (n refl)
  name-few (tcons t (tcons u us)) h n = absurd (omega arith)

  name_of_lem : (t u : Tree) (us : Trees) → (ParseExpr.child text (list (tcons t (tcons u us)))).let_name ≡ in_symbol t
  unfolding ParseExpr.child ParseExpr.list_child through_name
  name_of_lem t u us = ap in_symbol (child-tree text t)

  value_of : (t u : Tree) (us : Trees) → (ParseExpr.child text (list (tcons t (tcons u us)))).let_value ≡ (ParseExpr.child text u).nested
  unfolding ParseExpr.child ParseExpr.list_child through_value
  value_of t u us = refl

module _ (text : List ℕ) (s : Span) (sc : List Scope) (n : ℕ) where
  -- What a let with these items behind its name is.
  abbrev pub let_of : Trees → Res Expr
  let_of us = let_form (ParseExpr.children text (tcons (atom (symbol s)) us)) sc n

  let-none : (us : Trees) → trees us ≡ 0 → let_of us ≡ no malformed
  unfolding let_form child_at ParseExpr.child trees
  let-none tnil h = refl
  let-none (tcons t ts) h = absurd (omega arith)

  let-unnamed : (t : Tree) (ts : Trees) → (ParseExpr.child text t).let_name ≡ bad malformed → let_of (tcons t ts) ≡ no malformed
  unfolding let_form child_at ParseExpr.child
  let-unnamed t ts e = rw e refl

  let-named : (t v : Tree) (ts : Trees) {x : Span} → (ParseExpr.child text t).let_name ≡ got x → (ParseExpr.child text t).let_value ≡ (ParseExpr.child text v).nested
      → let_of (tcons t ts) ≡ let_behind text x v ts sc n
  unfolding let_form child_at nested_at ParseExpr.child
  let-named t v ts {x} e k = rw (e, k) refl

-- The value, which stands behind the name at f, and what comes behind it, where the pair's name is bound.
abbrev pub let_run : ℕ → ℕ → ℕ → ℕ → ℕ → Run
let_run f want last pair u = record { first = f + 3; have = 1; want = want; last = last; plain = false; names = 0; fresh = 0; pair = pair; words = u }

-- ---- a let at a place

module _ {text ws : List ℕ} {at w next : ℕ} (s : Span) (us : Trees) (h : Listed text ws at w next (tcons (atom (symbol s)) us)) where
  -- What the list is.
  abbrev whole : Res Expr
  whole = let_of text s h.scopes next us

  pub let_lone : get_or ws (at + 1) 0 < 2 → whole ≡ no malformed
  let_lone l = let-none text s h.scopes next us (omega (arith, head-count s us h))

  module _ (two : 2 ≤ get_or ws (at + 1) 0) where
    -- The pair, and where it is seen through to.
    pub let-pair : Leading ws (at + 6) us
    let-pair = leading us h.rest (head-others s us h) (omega (arith, head-count s us h))

    bad-pair : (ParseExpr.child text let-pair.tree).let_name ≡ bad malformed → whole ≡ no malformed
    bad-pair e = ap (let_of text s h.scopes next) let-pair.is ∙ let-unnamed text s h.scopes next let-pair.tree let-pair.others e

    module _ {q : ℕ} (k : Seen text false ws (at + 6) (lead-spot let-pair) q) where
      pub let-atom : (get_or ws q 0 ≡ 21 → ⊥) → whole ≡ no malformed
      let-atom n = bad-pair (k.name ∙ name-atom text k.spot.tree k.spot.rest (λ e. n (word0 k.spot ∙ e)))

      module _ {m f : ℕ} (d : ListNode ws q m f) where
        pair-list : (ParseExpr.child text let-pair.tree).let_name ≡ (ParseExpr.child text (list (as_list k.spot d.kind).items)).let_name
        pair-list = k.name ∙ ap (λ t. (ParseExpr.child text t).let_name) (as_list k.spot d.kind).is

        pub let-few : m < 2 → whole ≡ no malformed
        let-few l =
            let i = as_list k.spot d.kind in
            bad-pair (pair-list ∙ name-few text i.items (omega (arith, i.many, d.many)) (λ e. k.ends refl d.kind (i.many ∙ e)))

        module _ (l : 2 ≤ m) where
          -- The name, and the value.
          pub let-name : Leading ws f (as_list k.spot d.kind).items
          let-name =
              let i = as_list k.spot d.kind in
              subst (λ j. Leading ws j i.items) (sym d.first)
              (leading i.items k.spot.rest (list_inside ws q i.items k.spot.rest (k.spot.words ∙ ap (λ t. tree_words t ++ k.spot.rest) i.is)) (omega (arith, i.many, d.many)))

          let-value : Leading ws (f + length (tree_words let-name.tree)) let-name.others
          let-value = lead-next let-name refl (omega (arith, (as_list k.spot d.kind).many, d.many))

          pair_is : k.spot.tree ≡ list (tcons let-name.tree (tcons let-value.tree let-value.others))
          pair_is = (as_list k.spot d.kind).is ∙ ap list (let-name.is ∙ ap (tcons let-name.tree) let-value.is)

          the_name : (ParseExpr.child text let-pair.tree).let_name ≡ in_symbol let-name.tree
          the_name = k.name ∙ ap (λ t. (ParseExpr.child text t).let_name) pair_is ∙ name_of_lem text let-name.tree let-value.tree let-value.others

          the_value : (ParseExpr.child text let-pair.tree).let_value ≡ (ParseExpr.child text let-value.tree).nested
          the_value = k.value ∙ ap (λ t. (ParseExpr.child text t).let_value) pair_is ∙ value_of text let-name.tree let-value.tree let-value.others

          pub let-other : (get_or ws f 0 ≡ 16 → ⊥) → whole ≡ no malformed
          let-other n = bad-pair (the_name ∙ no_symbol (lead-spot let-name).rest let-name.tree refl (λ e. n (word0 (lead-spot let-name) ∙ e)))

          module _ (n : get_or ws f 0 ≡ 16) where
            pub let-there : f + 3 ≤ length ws
            let-there = three-there (lead-spot let-name) (λ e. omega arith)

            abbrev name : Span
            name = record { start = get_or ws (f + 1) 0; len = get_or ws (f + 2) 0 }

            named : (ParseExpr.child text let-pair.tree).let_name ≡ got name
            unfolding in_symbol in_atom symbol_in
            named = the_name ∙ ap in_symbol (as_symbol (lead-spot let-name) n)

            value-words : drop (f + 3) ws ≡ trees_words (tcons let-value.tree tnil) ++ (trees_words let-value.others ++ let-value.rest)
            unfolding tree_words atom_words
            value-words =
                let z : length (tree_words let-name.tree) ≡ 3 = rw (as_symbol (lead-spot let-name) n) refl in
                ap (λ j. drop (f + j) ws) (sym z) ∙ let-value.words ∙ ap (λ ts. ts ++ (trees_words let-value.others ++ let-value.rest)) (sym (append-nil (tree_words let-value.tree)))

            value-nesting : nestings (tcons let-value.tree tnil) + 1 ≤ nesting let-pair.tree
            unfolding nesting
            value-nesting =
                let z : nesting k.spot.tree ≡ suc (max (nesting let-name.tree) (max (nesting let-value.tree) (nestings let-value.others))) = ap nesting pair_is in
                omega (arith, z, k.shallow, le-max_right (nesting let-name.tree) (max (nesting let-value.tree) (nestings let-value.others)), le-max_left (nesting let-value.tree) (nestings let-value.others))

            value-size : length (trees_words (tcons let-value.tree tnil)) + 6 ≤ length (tree_words let-pair.tree)
            unfolding tree_words atom_words
            value-size =
                let z : length (tree_words k.spot.tree) ≡ suc (suc (suc (length (tree_words let-name.tree ++ (tree_words let-value.tree ++ trees_words let-value.others))))) = ap (λ t. length (tree_words t)) pair_is in
                let y : length (tree_words let-name.tree) ≡ 3 = rw (as_symbol (lead-spot let-name) n) refl in
                omega (arith, z, y, k.short, length-append (tree_words let-name.tree) (tree_words let-value.tree ++ trees_words let-value.others), length-append (tree_words let-value.tree) (trees_words let-value.others), length-append (tree_words let-value.tree) [])

            -- The pair, as an entry of the open scopes has it.
            abbrev pair : Tree
            pair = list (tcons (atom (symbol name)) (tcons let-value.tree let-value.others))

            pair-words : drop q ws ≡ trees_words (tcons pair tnil) ++ k.spot.rest
            unfolding trees_words
            pair-words =
                k.spot.words ∙ ap (λ t. tree_words t ++ k.spot.rest) (pair_is ∙ ap (λ t. list (tcons t (tcons let-value.tree let-value.others))) (as_symbol (lead-spot let-name) n))
                ∙ ap (λ l. l ++ k.spot.rest) (sym (append-nil (tree_words pair)))

            abbrev pair_place : Pairs ws q 1
            pair_place = record { names = name ∷ []; pairs = tcons pair tnil; rest = k.spot.rest; words = pair-words; named = more none; many = refl }

            module _ (count : ℕ) {u : ℕ} {o o' : List ℕ} (p : Put o w (52 ∷ []) o' u) where
              -- What the list is written as, the others being what stands behind the pair.
              told_as : (bs : Trees) → let-pair.others ≡ bs → told count whole ≡ told count (let_behind text name let-value.tree bs h.scopes next)
              told_as bs e =
                  ap (λ ts. told count (let_of text s h.scopes next ts)) let-pair.is
                  ∙ ap (told count) (let-named text s h.scopes next let-pair.tree let-value.tree let-pair.others named the_value)
                  ∙ ap (λ ts. told count (let_behind text name let-value.tree ts h.scopes next)) e

              -- The value is an operand; what comes behind it.
              module _ (want last bind : ℕ) (final : Last) (ends : EndsAt ws at w (let_run f want last bind (u + 2)) final) (deep : end_nesting final ≤ nestings let-pair.others) (size : end_size final ≤ length (trees_words let-pair.others) + 1)
                  (goes : (o'' : List ℕ) (q : Result Progress Refusal) (m : ℕ) → Counts (operands_w text count (tcons let-value.tree tnil) want h.scopes next) m
                  → Parsed (after (operands_w text count (tcons let-value.tree tnil) want h.scopes next) (λ j. end_w text count final h.scopes [] j)) (u + 2) (filled bind (w + 1) (count + m) o') o'' (most w next (list (tcons (atom (symbol s)) us))) q
                  → Parsed (told count whole) w o o'' (most w next (list (tcons (atom (symbol s)) us))) q) where
                made : PlannedList text count ws at w next (tcons (atom (symbol s)) us) h (told count whole) o o' (Ok (Go (let_run f want last bind (u + 2))))
                unfolding inner pick trees
                made = record {
                  items = tcons let-value.tree tnil;
                  rest = trees_words let-value.others ++ let-value.rest;
                  words = value-words;
                  many = refl;
                  beyond = omega (arith, d.first, k.forward);
                  final = final;
                  ends = ends;
                  bind = unbound ws;
                  shallow = omega (arith, head-shallow s us h, lead-nesting let-pair, le-max_left (nesting let-pair.tree) (nestings let-pair.others), value-nesting);
                  end_shallow = omega (arith, head-shallow s us h, lead-nesting let-pair, le-max_right (nesting let-pair.tree) (nestings let-pair.others), deep);
                  room = omega (arith, p.is, head-most s us h, lead-size let-pair, value-size, size);
                  goes = λ o'' q m c z.
                      goes o'' q m (subst (λ j. Counts (operands_w text count (tcons let-value.tree tnil) want h.scopes j) m) (add-zero next) c)
                      (subst (λ j. Parsed (after (operands_w text count (tcons let-value.tree tnil) want h.scopes j) (λ i. end_w text count final h.scopes [] i)) (u + 2) (filled bind (w + 1) (count + m) o') o'' (most w next (list (tcons (atom (symbol s)) us))) q) (add-zero next) z);
                }

              -- Without a body: it is refused when it is reached.
              pub made-alone : get_or ws (at + 1) 0 < 3
                  → PlannedList text count ws at w next (tcons (atom (symbol s)) us) h (told count whole) o o' (Ok (Go (let_run f 2 0 0 (u + 2))))
              unfolding operands_w
              made-alone b =
                  let z = none_left let-pair.others (omega (arith, head-count s us h, lead-count let-pair)) in
                  made 2 0 0 no_last (refl, refl) (omega arith) (omega arith)
                  (λ o'' q m c y. rw (told_as tnil z ∙ let-short text count name let-value.tree h.scopes next) (out_missing (told count ((ParseExpr.child text let-value.tree).nested h.scopes next)) (λ j. end_w text count no_last h.scopes [] j) y))

              -- The body stands behind the pair.
              pub made-body : {j : ℕ} → 3 ≤ get_or ws (at + 1) 0 → j ≡ length (tree_words let-pair.tree)
                  → PlannedList text count ws at w next (tcons (atom (symbol s)) us) h (told count whole) o o' (Ok (Go (let_run f 1 (at + 6 + j) q (u + 2))))
              unfolding kind_items raise words_of
              made-body {j} b e =
                  let l = lead-next let-pair e (omega (arith, head-count s us h)) in
                  let front : ℕ → List ℕ = λ m. kind_words count (k_let_fresh m) 2 in
                  made 1 (at + 6 + j) q (bound_last name l.tree) (
                    record { rest = trees_words l.others ++ l.rest; words = l.words; beyond = omega arith },
                    refl,
                    record { place = pair_place; named = refl; there = omega (arith, k.forward); free = omega (arith, p.is); alone = refl },
                  )
                  (omega (arith, lead-nesting l, le-max_left (nesting l.tree) (nestings l.others)))
                  (omega (arith, lead-size l))
                  (λ o'' a m c y.
                  rw (told_as (tcons l.tree l.others) l.is ∙ let-told text count name let-value.tree l.tree l.others h.scopes next)
                  (out-behind (operands_w text count (tcons let-value.tree tnil) 1 h.scopes next) front (λ i. end_w text count (bound_last name l.tree) h.scopes [] i) m c (kind-filled q (count + m) (omega (arith, k.forward)) p) (omega (arith, p.is)) y))
