-- The plan of a literal of bits: what its words say of it, in the order in which the code asks.
use Rattle.std.proofs.Common.{◌≡◌, ℕ, ◌+◌, ◌<◌, ◌≤◌, List, [], ◌∷◌, ◌++◌, length, get_or, sym, refl, ap, ◌∙◌, subst, arith, length-drop, eq-eqb, ne_eqb}
use Rattle.reading.specs.Bytes.{Span, bytes_at}
use Rattle.reading.specs.Number.{Wide, wide_of}
use Rattle.words.specs.Quads.{as_quad, as_wide}
use Rattle.words.specs.Refusals.{refusal_of}
use Rattle.forms.specs.FormNames.{as_bits}
use Rattle.reading.specs.Tree.{symbol, quoted, integer, decimal, boolean, Tree, Trees, atom, list, tnil, tcons, trees, atom_words, tree_words}
use Rattle.reading.specs.Answer.{Refusal as Met, Ans, got, bad, and_then, or_bad, malformed, wrong_width, Res, ok, no}
use Rattle.words.specs.declared.quad.Quad.{Quad}
use Rattle.std.specs.Prelude.{Option, Some, None}
use Rattle.std.specs.Option.{ok_or}
use Rattle.grammar.specs.Scope.{Scope}
use Rattle.grammar.specs.Item.{raise, words_of}
use Rattle.grammar.specs.Expr.{k_bit_vec, Expr, leaf, exprs, expr_items, exprs_items, kind_items}
use Rattle.grammar.specs.ParseSort
use Rattle.grammar.specs.ParseSort.{in_list, in_atom, in_symbol, symbol_in, tree_at, size_named}
use Rattle.grammar.specs.ParseExpr
use Rattle.grammar.specs.ParseExpr.{child_at, atom_child, quoted_in, digits_in, bits_of}
use Rattle.grammar.specs.Written.{told}
use Rattle.sorts.specs.SortNames.{width_in}
use Rattle.places.specs.Spot.{Spot}
use Rattle.places.specs.Outcome.{Put}
use Rattle.plans.specs.Plans.{refused, Listed, PlannedList}
use Rattle.plans.specs.declared.plan.Plan.TheVariants.{Leaf}
use Rattle.words.specs.declared.refusal.Refusal.{Refusal}
use Rattle.words.specs.declared.refusal.Refusal.TheVariants.{Malformed}
use Rattle.std.specs.Prelude.{Ok, Err}
use Rattle.grammar.proofs.TreeHead.{no-list, no_symbol}
use Rattle.grammar.proofs.LitForm.{bits_long}
use Rattle.places.proofs.Inside.{child-tree}
use Rattle.places.proofs.Spots.{word0, as_list}
use Rattle.places.proofs.Rows.{Leading, lead-spot, leading, lead-count, lead-next, list_inside, as_symbol, as_quoted}
use Rattle.places.proofs.FirstTree.{none_left}
use Rattle.places.proofs.Puts.{put_append}
use Rattle.plans.proofs.ListPlans.{head-count, head-others}
use Rattle.plans.proofs.TreePlans.{leaf-made, three-there}

-- ---- the width, the second of two items

module _ (text : List ℕ) {ws : List ℕ} {at : ℕ} (p : Spot ws at) where
  pub width-atom : (get_or ws at 0 ≡ 21 → ⊥) → bad malformed ≡ ParseExpr.width_of text p.tree
  unfolding ParseExpr.width_of
  width-atom h = rw (no-list p.rest p.tree refl (λ e. h (word0 p ∙ e))) refl

  module _ (h : get_or ws at 0 ≡ 21) where
    not-two : (ts : Trees) → (trees ts ≡ 2 → ⊥) → bad malformed ≡ ParseExpr.width_of text (list ts)
    unfolding ParseExpr.width_of in_list
    not-two ts n = rw (ne_eqb (trees ts) 2 n) refl

    pub width-other : (get_or ws (at + 1) 0 ≡ 2 → ⊥) → bad malformed ≡ ParseExpr.width_of text p.tree
    width-other n = let l = as_list p h in not-two l.items (λ e. n (l.many ∙ e)) ∙ ap (ParseExpr.width_of text) (sym l.is)

    module _ (n : get_or ws (at + 1) 0 ≡ 2) where
      -- The items.
      pub width-first : Leading ws (at + 3) (as_list p h).items
      width-first = let l = as_list p h in leading l.items p.rest (list_inside ws at l.items p.rest (p.words ∙ ap (λ t. tree_words t ++ p.rest) l.is)) (omega (arith, l.many))

      module _ {k : ℕ} (e : k ≡ length (tree_words width-first.tree)) where
        pub width-second : Leading ws (at + 3 + k) width-first.others
        width-second = lead-next width-first e (omega (arith, (as_list p h).many))

        two_items : p.tree ≡ list (tcons width-first.tree (tcons width-second.tree tnil))
        unfolding trees
        two_items =
            (as_list p h).is ∙ ap list (width-first.is ∙ ap (tcons width-first.tree) (width-second.is ∙ ap (tcons width-second.tree) (none_left width-second.others (omega (arith, (as_list p h).many, lead-count width-first, lead-count width-second)))))

        two-width : ParseExpr.width_of text p.tree ≡ ParseSort.size_of text width-second.tree
        unfolding ParseExpr.width_of in_list tree_at trees
        two-width = ap (ParseExpr.width_of text) two_items

        pub width-unnamed : (get_or ws (at + 3 + k) 0 ≡ 16 → ⊥) → bad malformed ≡ ParseExpr.width_of text p.tree
        unfolding ParseSort.size_of
        width-unnamed m =
            let s = lead-spot width-second in
            rw (two-width, no_symbol s.rest s.tree refl (λ q. m (word0 s ∙ q))) refl

        pub width-named : (r : Option ℕ) {v : List ℕ} → get_or ws (at + 3 + k) 0 ≡ 16 → v ≡ bytes_at text (record { start = get_or ws (at + 3 + k + 1) 0; len = get_or ws (at + 3 + k + 2) 0 })
            → or_bad malformed (width_in r) ≡ size_named v → or_bad malformed (width_in r) ≡ ParseExpr.width_of text p.tree
        unfolding ParseSort.size_of in_symbol in_atom symbol_in
        width-named r m b q = q ∙ rw (two-width, as_symbol (lead-spot width-second) m, b) refl

-- A width that is asked for.
module _ (r : Option ℕ) {x : Ans ℕ} (q : or_bad malformed (width_in r) ≡ x) where
  pub width-got : {k : ℕ} → ok_or r Malformed ≡ Ok k → got k ≡ x
  width-got {k} = go r q
    where
      go : (r : Option ℕ) → or_bad malformed (width_in r) ≡ x → ok_or r Malformed ≡ Ok k → got k ≡ x
      go (Some n) q e = let z : n ≡ k = cc in rw (← z) q
      go None q e = let z : ◌≡◌ {A = ℕ} 0 1 = cc in absurd (omega arith)

  pub width-none : {e : Refusal} → ok_or r Malformed ≡ Err e → (bad malformed ≡ x) × (e ≡ Malformed)
  width-none {e} = go r q
    where
      go : (r : Option ℕ) → or_bad malformed (width_in r) ≡ x → ok_or r Malformed ≡ Err e → (bad malformed ≡ x) × (e ≡ Malformed)
      go (Some n) q p = let z : ◌≡◌ {A = ℕ} 0 1 = cc in absurd (omega arith)
      go None q p = (q, cc)

-- ---- the literal

-- The bits, by what the code reads.
record Value (w : Wide) (a : Ans ℕ) : Type 0 where
  number : ℕ
  is : a ≡ got number
  words : wide_of number ≡ w

bits_got : (g : Quad) (a : Ans ℕ) → Ok g ≡ as_bits (and_then a (λ v. got (wide_of v))) → Value (as_wide g) a
bits_got g (got v) e = let z : g ≡ as_quad (wide_of v) = cc in record { number = v; is = refl; words = ap as_wide (sym z) }
bits_got g (bad q) e = let z : ◌≡◌ {A = ℕ} 0 1 = cc in absurd (omega arith)

module _ (text : List ℕ) (s : Span) (sc : List Scope) (n : ℕ) where
  -- What a literal with these items behind its name is.
  abbrev pub lit : Trees → Res Expr
  lit us = ParseExpr.lit_form text (ParseExpr.children text (tcons (atom (symbol s)) us)) sc n

  lit-none : (us : Trees) → trees us ≡ 0 → lit us ≡ no malformed
  unfolding ParseExpr.lit_form child_at ParseExpr.child trees
  lit-none tnil h = refl
  lit-none (tcons t ts) h = absurd (omega arith)

  lit-other : (t : Tree) (ts : Trees) (rest : List ℕ) → (get_or (tree_words t ++ rest) 0 0 ≡ 17 → ⊥) → lit (tcons t ts) ≡ no malformed
  unfolding ParseExpr.lit_form child_at ParseExpr.child atom_child ParseExpr.list_child in_atom quoted_in tree_words atom_words
  lit-other (atom (symbol x)) ts rest h = refl
  lit-other (atom (quoted x)) ts rest h = absurd (h refl)
  lit-other (atom (integer x)) ts rest h = refl
  lit-other (atom (decimal x)) ts rest h = refl
  lit-other (atom (boolean x)) ts rest h = refl
  lit-other (list us) ts rest h = refl

  module _ (x : Span) where
    lit_unread : (ts : Trees) (r : Met) → bits_of (bytes_at text x) ≡ bad r → lit (tcons (atom (quoted x)) ts) ≡ no r
    unfolding ParseExpr.lit_form child_at ParseExpr.child atom_child in_atom quoted_in
    lit_unread ts r e = rw e refl

    module _ {v : ℕ} (e : bits_of (bytes_at text x) ≡ got v) where
      lit-short : (ts : Trees) → trees ts ≡ 0 → lit (tcons (atom (quoted x)) ts) ≡ no malformed
      unfolding ParseExpr.lit_form child_at ParseExpr.child atom_child in_atom quoted_in trees
      lit-short tnil h = rw e refl
      lit-short (tcons t ts) h = absurd (omega arith)

      lit_unsized : (t : Tree) (ts : Trees) → ParseExpr.width_of text t ≡ bad malformed → lit (tcons (atom (quoted x)) (tcons t ts)) ≡ no malformed
      unfolding ParseExpr.lit_form child_at ParseExpr.child atom_child in_atom quoted_in
      lit_unsized t ts k = rw (e, child-tree text t, k) refl

      lit_uneven : (t : Tree) (ts : Trees) {k : ℕ} → ParseExpr.width_of text t ≡ got k → (length (digits_in (bytes_at text x)) ≡ k → ⊥) → lit (tcons (atom (quoted x)) (tcons t ts)) ≡ no wrong_width
      unfolding ParseExpr.lit_form child_at ParseExpr.child atom_child in_atom quoted_in
      lit_uneven t ts {k} y d = rw (e, child-tree text t, y, ne_eqb (length (digits_in (bytes_at text x))) k d) refl

      lit-whole : (t : Tree) (ts : Trees) {k : ℕ} → ParseExpr.width_of text t ≡ got k → length (digits_in (bytes_at text x)) ≡ k → lit (tcons (atom (quoted x)) (tcons t ts)) ≡ ok (leaf (k_bit_vec (wide_of v) k)) n
      unfolding ParseExpr.lit_form child_at ParseExpr.child atom_child in_atom quoted_in
      lit-whole t ts {k} y d = rw (e, child-tree text t, y, eq-eqb (length (digits_in (bytes_at text x))) k d) refl

module _ {text ws : List ℕ} {at w next : ℕ} (s : Span) (us : Trees) (h : Listed text ws at w next (tcons (atom (symbol s)) us)) where
  -- What the list is.
  abbrev whole : Res Expr
  whole = lit text s h.scopes next us

  pub lit_lone : get_or ws (at + 1) 0 < 2 → whole ≡ no malformed
  lit_lone l = lit-none text s h.scopes next us (omega (arith, head-count s us h))

  module _ (two : 2 ≤ get_or ws (at + 1) 0) where
    -- The first item behind the name.
    pub lit-first : Leading ws (at + 6) us
    lit-first = leading us h.rest (head-others s us h) (omega (arith, head-count s us h))

    pub lit-kind : (get_or ws (at + 6) 0 ≡ 17 → ⊥) → whole ≡ no malformed
    lit-kind k =
        let p = lead-spot lit-first in
        ap (lit text s h.scopes next) lit-first.is ∙ lit-other text s h.scopes next p.tree lit-first.others p.rest (λ e. k (word0 p ∙ e))

    module _ (q : get_or ws (at + 6) 0 ≡ 17) where
      pub lit-there : at + 9 ≤ length ws
      lit-there = omega (arith, three-there (lead-spot lit-first) (λ e. omega arith))

      abbrev span : Span
      span = record { start = get_or ws (at + 7) 0; len = get_or ws (at + 8) 0 }

      one-item : lit-first.tree ≡ atom (quoted span)
      one-item =
          let a : at + 6 + 1 ≡ at + 7 = omega arith in
          let b : at + 6 + 2 ≡ at + 8 = omega arith in
          as_quoted (lead-spot lit-first) q ∙ rw (a, b) refl

      items : us ≡ tcons (atom (quoted span)) lit-first.others
      items = lit-first.is ∙ ap (λ t. tcons t lit-first.others) one-item

      -- The second item behind the name.
      pub lit-second : 3 ≤ get_or ws (at + 1) 0 → Leading ws (at + 9) lit-first.others
      unfolding tree_words atom_words
      lit-second l =
          let a : at + 6 + 3 ≡ at + 9 = omega arith in
          let n : 3 ≡ length (tree_words lit-first.tree) = rw one-item refl in
          subst (λ k. Leading ws k lit-first.others) a (lead-next lit-first n (omega (arith, head-count s us h)))

      module _ {v : List ℕ} (b : v ≡ bytes_at text span) where
        pub lit_refused : (count : ℕ) {o o' : List ℕ} {r : Refusal} → Err r ≡ as_bits (and_then (bits_of v) (λ k. got (wide_of k))) → PlannedList text count ws at w next (tcons (atom (symbol s)) us) h (told count whole) o o' (Err r)
        lit_refused count {o} {o'} {r} e = go (bits_of v) refl e
          where
            go : (a : Ans ℕ) → bits_of v ≡ a → Err r ≡ as_bits (and_then a (λ k. got (wide_of k))) → PlannedList text count ws at w next (tcons (atom (symbol s)) us) h (told count whole) o o' (Err r)
            go (got k) f y = let z : ◌≡◌ {A = ℕ} 0 1 = cc in absurd (omega arith)
            go (bad m) f y = rw (ap (lit text s h.scopes next) items ∙ lit_unread text s h.scopes next span lit-first.others m (ap bits_of (sym b) ∙ f)) (let z : r ≡ refusal_of m = cc in refused (ap Err z))

        module _ {g : Quad} (e : Ok g ≡ as_bits (and_then (bits_of v) (λ k. got (wide_of k)))) where
          value : Value (as_wide g) (bits_of v)
          value = bits_got g (bits_of v) e

          read : bits_of (bytes_at text span) ≡ got value.number
          read = ap bits_of (sym b) ∙ value.is

          pub lit-two : get_or ws (at + 1) 0 < 3 → whole ≡ no malformed
          lit-two l = ap (lit text s h.scopes next) items ∙ lit-short text s h.scopes next span read lit-first.others (omega (arith, head-count s us h, lead-count lit-first))

          module _ (l : 3 ≤ get_or ws (at + 1) 0) where
            all-items : us ≡ tcons (atom (quoted span)) (tcons (lit-second l).tree (lit-second l).others)
            all-items = items ∙ ap (tcons (atom (quoted span))) (lit-second l).is

            pub lit-wide : bad malformed ≡ ParseExpr.width_of text (lit-second l).tree → whole ≡ no malformed
            lit-wide y = ap (lit text s h.scopes next) all-items ∙ lit_unsized text s h.scopes next span read (lit-second l).tree (lit-second l).others (sym y)

            -- How many digits there are.
            digits_are : length (digits_in (bytes_at text span)) + 2 ≡ length v
            digits_are = rw (← b) (omega (arith, length-drop 2 v, bits_long v value.number value.is))

            pub lit-many : {k m : ℕ} → got k ≡ ParseExpr.width_of text (lit-second l).tree → m ≡ k → (length v ≡ 2 + m → ⊥) → whole ≡ no wrong_width
            lit-many y i d =
                ap (lit text s h.scopes next) all-items ∙ lit_uneven text s h.scopes next span read (lit-second l).tree (lit-second l).others (sym y) (λ z. d (omega (arith, digits_are)))

            pub made_lit : (count : ℕ) {k m u r : ℕ} {o o₁ o₂ : List ℕ} → got k ≡ ParseExpr.width_of text (lit-second l).tree → m ≡ k → length v ≡ 2 + m → Put o w (35 ∷ g.a ∷ g.b ∷ g.c ∷ g.d ∷ []) o₁ u → Put o₁ u (k ∷ []) o₂ r
                → PlannedList text count ws at w next (tcons (atom (symbol s)) us) h (told count whole) o o₂ (Ok (Leaf r))
            unfolding expr_items exprs_items kind_items exprs raise words_of
            made_lit count {k} {m} {u} {r} {o} {o₁} {o₂} y i d p t =
                rw (ap (lit text s h.scopes next) all-items ∙ lit-whole text s h.scopes next span read (lit-second l).tree (lit-second l).others (sym y) (omega (arith, digits_are)), value.words)
                (leaf-made (list (tcons (atom (symbol s)) us)) (put_append (35 ∷ g.a ∷ g.b ∷ g.c ∷ g.d ∷ []) (k ∷ []) p t) (omega (arith, p.is, t.is)))
