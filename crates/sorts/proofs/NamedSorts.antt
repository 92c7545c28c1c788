-- The names of sorts, as the code tests them.
use Prim.Native.Nat.{ℕ, ◌-◌, ◌^◌, ◌≤◌, ◌<◌}
use mathlib.Core.Path.{◌≡◌, refl, sym, ap, ◌∙◌}
use mathlib.Core.Bool.{Bool, true, false}
use mathlib.Core.List.{List, [], ◌∷◌}
use native.Mathlib.Omega.{arith}
use lib.Dec.{ltb}
use lib.ListN.{length, get_or, take, drop}
use lib.Seq.{get_or-take}
use borrow.Author.Tests.{eq-eqb, ne_eqb, ltb-true, ltb-false}
use Rattle.std.specs.Option.{is_some}
use Rattle.reading.specs.Pick.{pick}
use Rattle.reading.specs.Bytes.{ascii, begins_with, Span, bytes_at, Maybe, nothing, just, Named, lookup}
use Rattle.reading.specs.Number.{unsigned}
use Rattle.lexing.specs.Quads.{as_word}
use Rattle.reading.specs.Tree.{Tree, Trees, tnil, tcons, tree_words, trees_words}
use Rattle.reading.specs.Answer.{got, bad, or_bad, malformed, over}
use Rattle.reading.proofs.Picks.{pick_true, pick-false}
use Rattle.reading.proofs.Bytes.{same_equal, begins-take, begins-length}
use Rattle.lexing.proofs.Lexing.Parts.{tail}
use Rattle.grammar.specs.Sort.{Sort, sorts, two, sort_words}
use Rattle.grammar.specs.Names.{plain_sorts, SortForm, one_sort, two_sorts, three_items}
use Rattle.grammar.specs.ParseSort
use Rattle.grammar.specs.ParseSort.{in_symbol, in_atom, symbol_in, size_named, index_named, other_sort, sort_table, or_applied}
use Rattle.sorts.specs.SortNames.{width_in}
use Rattle.sorts.specs.Rows.{is_got}
use Rattle.sorts.specs.Rows
use Rattle.sorts.specs.Outcome.{Outcome, wrote, refused}
use Rattle.words.specs.declared.refusal.Refusal.{Refusal}
use Rattle.std.specs.Prelude.{Option, Some, None, Result, Ok, Err}
use Rattle.reading.proofs.TreeHead.{is-symbol, size-symbol}
use Rattle.words.specs.declared.refusal.Refusal.TheVariants.{Malformed}
use Rattle.grammar.proofs.TreeHead.{no_symbol}

-- The table for so many items.
module _ (n : ℕ) where
  pub table-one : n ≡ 1 → sort_table n ≡ one_sort
  unfolding sort_table
  table-one h = sym (pick_true _ (eq-eqb n 1 h) refl)

  pub table-two : n ≡ 2 → sort_table n ≡ two_sorts
  unfolding sort_table
  table-two h = sym (pick-false _ (ne_eqb n 1 (λ e. omega arith)) (pick_true _ (eq-eqb n 2 h) refl))

  pub table-three : n ≡ 3 → sort_table n ≡ three_items
  unfolding sort_table
  table-three h = sym (pick-false _ (ne_eqb n 1 (λ e. omega arith)) (pick-false _ (ne_eqb n 2 (λ e. omega arith)) (pick_true _ (eq-eqb n 3 h) refl)))

  pub table_none : (n ≡ 1 → ⊥) → (n ≡ 2 → ⊥) → (n ≡ 3 → ⊥) → sort_table n ≡ []
  unfolding sort_table
  table_none h k l = sym (pick-false _ (ne_eqb n 1 h) (pick-false _ (ne_eqb n 2 k) (pick-false _ (ne_eqb n 3 l) refl)))

-- A form is looked up in the table for its items.
pub form-by : (text : List ℕ) (s : Span) (n : ℕ) (rows : List (Named SortForm)) {w : List ℕ} → w ≡ bytes_at text s → sort_table n ≡ rows → or_applied s (lookup rows w) ≡ ParseSort.sort_form text s n
unfolding ParseSort.sort_form
form-by text s n rows e h = rw (e, h) refl

module _ (w : List ℕ) where
  -- The width of `Size` and a number.
  pub size-not : begins_with (ascii "Size") w ≡ false → bad malformed ≡ size_named w
  unfolding size_named
  size-not e = rw e refl

  pub size_is : {r : Option ℕ} → begins_with (ascii "Size") w ≡ true → r ≡ as_word (unsigned 10 (2 ^ 32) (take (length w - 4) (drop 4 w))) → or_bad malformed (width_in r) ≡ size_named w
  unfolding size_named
  size_is e h = rw (h, e, tail w 4) (go (unsigned 10 (2 ^ 32) (drop 4 w)))
    where
      go : (m : Maybe ℕ) → or_bad malformed (width_in (as_word m)) ≡ or_bad malformed m
      go nothing = refl
      go (just n) = refl

  -- The index of `@(`, a number and `)`.
  pub index-not : begins_with (ascii "@(") w ≡ false → None ≡ as_word (index_named w)
  unfolding index_named
  index-not e = ap as_word (pick-false _ e refl)

  module _ (e : begins_with (ascii "@(") w ≡ true) where
    pub index-long : 2 ≤ length w
    index-long = begins-length (ascii "@(") w e

    pub index_bare : (get_or w (length w - 1) 0 ≡ 41 → ⊥) → None ≡ as_word (index_named w)
    unfolding index_named
    index_bare h = ap as_word (pick_true _ e (pick-false _ (ne_eqb _ _ h) refl))

    -- The second byte is `(`, so a last one that is `)` is another.
    pub index-three : get_or w (length w - 1) 0 ≡ 41 → 3 ≤ length w
    index-three h = three (ltb (length w) 3) refl
      where
        second : get_or w 1 0 ≡ 40
        second = sym (get_or-take 2 w 1 0 (omega arith)) ∙ ap (λ l. get_or l 1 0) (sym (same_equal (ascii "@(") (take 2 w) (sym (begins-take (ascii "@(") w) ∙ e)))

        three : (b : Bool) → ltb (length w) 3 ≡ b → 3 ≤ length w
        three true q =
            let two : length w ≡ 2 = omega (arith, ltb-true (length w) 3 q, index-long) in
            let k : get_or w 1 0 ≡ 41 = ap (λ n. get_or w (n - 1) 0) (sym two) ∙ h in
            absurd (omega (arith, k, second))
        three false q = ltb-false (length w) 3 q

    pub index_is : {r : Option ℕ} → get_or w (length w - 1) 0 ≡ 41 → r ≡ as_word (unsigned 10 (2 ^ 64) (take (length w - 1 - 2) (drop 2 w))) → r ≡ as_word (index_named w)
    unfolding index_named
    index_is h q =
        let n : length w - 1 - 2 ≡ length w - 3 = omega arith in
        q ∙ rw n (ap as_word (pick_true _ e (pick_true _ (eq-eqb _ _ h) refl)))

-- Whether the first tree is a size, by its words.
module _ (text : List ℕ) where
  no_size : (t : Tree) → in_symbol t ≡ bad malformed → false ≡ is_got (ParseSort.size_of text t)
  unfolding ParseSort.size_of
  no_size t e = rw e refl

  pub size-other : (ts : Trees) {ws : List ℕ} → ws ≡ trees_words ts → (get_or ws 0 0 ≡ 16 → ⊥) → false ≡ Rows.is_size text ts
  unfolding Rows.is_size tree_words
  size-other tnil e h = refl
  size-other (tcons t us) e h = no_size t (no_symbol (trees_words us) t e h)

  pub size-short : (ts : Trees) {ws : List ℕ} → ws ≡ trees_words ts → length ws < 3 → false ≡ Rows.is_size text ts
  unfolding tree_words
  size-short tnil e h = size-other tnil e (λ k. let z : ◌≡◌ {A = ℕ} 0 16 = rw e at k in omega arith)
  size-short (tcons t us) {ws} e h = size-other (tcons t us) e (λ k. omega (arith, (size-symbol (trees_words us) t e k).0))

  pub size-told : (ts : Trees) {ws : List ℕ} (r : Option ℕ) → ws ≡ trees_words ts → 3 ≤ length ws → get_or ws 0 0 ≡ 16 → or_bad malformed (width_in r) ≡ size_named (bytes_at text (record { start = get_or ws 1 0; len = get_or ws 2 0 })) → is_some r ≡ Rows.is_size text ts
  unfolding Rows.is_size tree_words ParseSort.size_of in_symbol in_atom symbol_in
  size-told tnil r e l h q = absurd (omega (arith, ap length e))
  size-told (tcons t us) r e l h q = rw (is-symbol (trees_words us) t e h, ← q) (there r)
    where
      there : (r : Option ℕ) → is_some r ≡ is_got (or_bad malformed (width_in r))
      there (Some n) = refl
      there None = refl

-- A symbol as a sort, by what is found out about its name.
module _ (w : List ℕ) (s : Span) (o m : List ℕ) where
  -- It begins with `Size`.
  module _ (e : begins_with (ascii "Size") w ≡ true) where
    pub other-size : {n k : ℕ} → got n ≡ size_named w → k ≡ 2 → m ≡ over (6 ∷ n ∷ []) o → Outcome sort_words (other_sort w s nothing) o m (Ok k)
    unfolding other_sort pick sort_words
    other-size q c h = rw (e, ← q) (wrote (ap Ok c) h)

    pub other-bad : bad malformed ≡ size_named w → Outcome sort_words (other_sort w s nothing) o m (Err Malformed)
    unfolding other_sort pick
    other-bad q = rw (e, ← q) (refused refl)

  -- It does not.
  module _ (e : begins_with (ascii "Size") w ≡ false) where
    pub other-var : {i k : ℕ} → Some i ≡ as_word (index_named w) → k ≡ 3 → m ≡ over (7 ∷ two i) o → Outcome sort_words (other_sort w s nothing) o m (Ok k)
    unfolding other_sort pick sort_words
    other-var {i} {k} q c h = rw e (go (index_named w) q)
      where
        go : (x : Maybe ℕ) → Some i ≡ as_word x → Outcome sort_words (got (ParseSort.or_data s x)) o m (Ok k)
        go nothing z = let y : ◌≡◌ {A = ℕ} 0 1 = cc in absurd (omega arith)
        go (just j) z = let y : i ≡ j = cc in wrote (ap Ok c) (h ∙ ap (λ n. over (7 ∷ two n) o) y)

    pub other_data : {k : ℕ} → None ≡ as_word (index_named w) → k ≡ 5 → m ≡ over (10 ∷ 2 ∷ s.start ∷ s.len ∷ 0 ∷ []) o → Outcome sort_words (other_sort w s nothing) o m (Ok k)
    unfolding other_sort pick sort_words sorts
    other_data {k} q c h = rw e (go (index_named w) q)
      where
        go : (x : Maybe ℕ) → None ≡ as_word x → Outcome sort_words (got (ParseSort.or_data s x)) o m (Ok k)
        go nothing z = wrote (ap Ok c) h
        go (just j) z = let y : ◌≡◌ {A = ℕ} 0 1 = cc in absurd (omega arith)

module _ (text : List ℕ) (s : Span) (o m : List ℕ) {w : List ℕ} (e : w ≡ bytes_at text s) where
  -- A plain sort.
  pub symbol-plain : (p : Sort) (code : ℕ) {k : ℕ} → just p ≡ lookup plain_sorts w → sort_words p ≡ code ∷ [] → k ≡ 1 → m ≡ over (code ∷ []) o → Outcome sort_words (ParseSort.symbol_sort text s) o m (Ok k)
  unfolding ParseSort.symbol_sort other_sort
  symbol-plain p code q h c z = rw (← e, ← q) (wrote (ap Ok (c ∙ ap length (sym h))) (z ∙ ap (λ l. over l o) (sym h)))

  -- Another name.
  pub symbol-other : {r : Result ℕ Refusal} → nothing ≡ lookup plain_sorts w → Outcome sort_words (other_sort w s nothing) o m r → Outcome sort_words (ParseSort.symbol_sort text s) o m r
  unfolding ParseSort.symbol_sort
  symbol-other q y = rw (← e, ← q) y
