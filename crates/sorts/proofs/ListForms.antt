-- How a list is read as a sort, and what its sorts make of it.
use Prim.Native.Nat.{ℕ, suc, ◌+◌, ◌-◌, ◌^◌, ◌≤◌, ◌<◌}
use mathlib.Core.Path.{◌≡◌, refl, sym, ap, ◌∙◌}
use mathlib.Core.Bool.{Bool, true, false}
use mathlib.Core.List.{List, [], ◌∷◌, ◌++◌, append-nil, append_assoc}
use native.Mathlib.Omega.{arith}
use lib.Dec.{eqb}
use lib.ListN.{length, get_or, take, drop, length-drop}
use lib.Seq.{get_or-drop}
use borrow.Author.Tests.{eqb-true}
use Rattle.reading.specs.Pick.{pick}
use Rattle.reading.specs.Bytes.{ascii, same_bytes, begins_with, Span, bytes_at, Maybe, nothing, just, Named, named, lookup}
use Rattle.reading.specs.Number.{unsigned}
use Rattle.reading.specs.Tree.{symbol, quoted, integer, decimal, boolean, Tree, Trees, atom, list, tnil, tcons, trees, atom_words, tree_words, trees_words}
use Rattle.reading.specs.Answer.{Refusal as Met, Ans, got, bad, and_then, or_bad, check, malformed}
use Rattle.reading.proofs.Bytes.{same_equal}
use Rattle.lexing.proofs.Lexing.Parts.{tail}
use Rattle.grammar.specs.Sort.{Ctor, c_set, c_map, c_data, Sort, Sorts, s_bit_vec, s_size, s_func, s_app, snil, scons, sorts, ctor_words, sort_words, sorts_words}
use Rattle.grammar.specs.Names.{plain_sorts, SortForm, func, function, bit_vec, applied, one_sort, two_sorts, three_items}
use Rattle.grammar.specs.ParseSort
use Rattle.grammar.specs.ParseSort.{in_symbol, in_atom, symbol_in, size_named, other_sort, sort_table, or_applied, view_at, each_sort, function_sort}
use Rattle.sorts.specs.SortNames.{row_form, form_in}
use Rattle.words.specs.Spans.{as_span}
use Rattle.sorts.specs.Rows.{row_head, row_words, is_got, ended}
use Rattle.sorts.specs.Rows
use Rattle.sorts.specs.Outcome.{Gives, Outcome, wrote, refused}
use Rattle.sorts.specs.declared.names.Row.{Row}
use Rattle.sorts.specs.declared.names.Row.TheVariants as row
use Rattle.words.specs.declared.refusal.Refusal.{Refusal}
use Rattle.std.specs.Prelude.{Result, Ok, Err}
use Rattle.grammar.proofs.AnswerHolds.{Every, AllRows, IfThere, lookup-holds}
use Rattle.sorts.proofs.Outcomes.{never, out-map, out-refused}
use Rattle.sorts.proofs.RowWords.{row_plain}
use Rattle.reading.proofs.TreeHead.{First, is-symbol, size-symbol}
use Rattle.words.specs.Refusals.{refusal_of}
use Rattle.grammar.proofs.TreeHead.{no_symbol}

-- A form has so many items behind its name.
abbrev pub HasItems : SortForm → ℕ → Type 0
HasItems func n = n ≡ 3
HasItems function n = n ≡ 2
HasItems bit_vec n = n ≡ 1
HasItems (applied c) n = Unit {0}

-- Each form of a table has as many items as its table is for.
table_fits : (n : ℕ) → AllRows (sort_table n) (λ _ form. HasItems form n)
unfolding sort_table pick one_sort two_sorts three_items
table_fits n = first (eqb n 1) refl
  where
    third : (b : Bool) → eqb n 3 ≡ b → AllRows (pick b three_items []) (λ _ form. HasItems form n)
    third true e = (eqb-true n 3 e, tt)
    third false e = tt

    second : (b : Bool) → eqb n 2 ≡ b → AllRows (pick b two_sorts (pick (eqb n 3) three_items [])) (λ _ form. HasItems form n)
    second true e = (eqb-true n 2 e, (tt, (tt, tt)))
    second false e = third (eqb n 3) refl

    first : (b : Bool) → eqb n 1 ≡ b → AllRows (pick b one_sort (pick (eqb n 2) two_sorts (pick (eqb n 3) three_items []))) (λ _ form. HasItems form n)
    first true e = (tt, (eqb-true n 1 e, tt))
    first false e = second (eqb n 2) refl

applied-fits : (s : Span) (n : ℕ) (m : Maybe SortForm) → IfThere m (λ form. HasItems form n) → HasItems (or_applied s m) n
applied-fits s n nothing h = tt
applied-fits s n (just form) h = h

-- No name of a row begins with these bytes.
abbrev Otherwise : {A : Type 0} → List ℕ → List (Named A) → Type 0
Otherwise b [] = Unit {0}
Otherwise b (named s a ∷ rows) = (begins_with b (ascii s) ≡ false) × Otherwise b rows

lookup-other : {A : Type 0} (b : List ℕ) (rows : List (Named A)) (w : List ℕ) → Otherwise b rows → begins_with b w ≡ true → lookup rows w ≡ nothing
unfolding lookup pick
lookup-other b [] w h e = refl
lookup-other b (named s a ∷ rows) w h e = go (same_bytes w (ascii s)) refl (lookup-other b rows w h.1 e)
  where
    go : (t : Bool) → same_bytes w (ascii s) ≡ t → lookup rows w ≡ nothing → pick t (just a) (lookup rows w) ≡ nothing
    go true q k =
        let z : false ≡ true = sym h.0 ∙ ap (begins_with b) (sym (same_equal w (ascii s) q)) ∙ e in
        let y : ◌≡◌ {A = ℕ} 0 1 = cc in absurd (omega arith)
    go false q k = k

-- A name that begins with `Size` is no plain sort.
no_plain : (w : List ℕ) → begins_with (ascii "Size") w ≡ true → lookup plain_sorts w ≡ nothing
unfolding plain_sorts begins_with pick
no_plain w e = lookup-other (ascii "Size") plain_sorts w (refl, (refl, (refl, (refl, (refl, (refl, (refl, (refl, tt)))))))) e

-- What is refused, if it is, and how.
abbrev pub OnlyBad : {A : Type 0} → Ans A → Met → Type 0
OnlyBad (got a) r = Unit {0}
OnlyBad (bad e) r = e ≡ r

-- A size is refused by 8 only.
size-only : (w : List ℕ) → OnlyBad (size_named w) malformed
unfolding size_named
size-only w = go (begins_with (ascii "Size") w) (unsigned 10 (2 ^ 32) (drop 4 w))
  where
    go : (b : Bool) (m : Maybe ℕ) → OnlyBad (and_then (check b malformed) λ _. or_bad malformed m) malformed
    go true nothing = refl
    go true (just n) = tt
    go false m = refl

-- A name that is a size begins with `Size`.
size-begins : (w : List ℕ) (n : ℕ) → size_named w ≡ got n → begins_with (ascii "Size") w ≡ true
unfolding size_named
size-begins w n = go (begins_with (ascii "Size") w) (unsigned 10 (2 ^ 32) (drop 4 w))
  where
    go : (b : Bool) (m : Maybe ℕ) → and_then (check b malformed) (λ _. or_bad malformed m) ≡ got n → b ≡ true
    go true m e = refl
    go false m e = let z : ◌≡◌ {A = ℕ} 0 1 = cc in absurd (omega arith)

module _ (text : List ℕ) where
  -- As many views as trees, and each of its own tree.
  pub views-length : (ts : Trees) → length (ParseSort.views text ts) ≡ trees ts
  unfolding ParseSort.view trees
  views-length tnil = refl
  views-length (tcons t ts) = ap suc (views-length ts)

  pub view-tree : (t : Tree) → (ParseSort.view text t).tree ≡ t
  unfolding ParseSort.view
  view-tree (atom a) = refl
  view-tree (list ts) = refl

  -- As many sorts as trees.
  pub each_many : (ts : Trees) → Every (each_sort (ParseSort.views text ts)) (λ ss. sorts ss ≡ trees ts)
  unfolding ParseSort.view each_sort sorts trees
  each_many tnil = refl
  each_many (tcons t ts) = go (ParseSort.view text t).sort (each_sort (ParseSort.views text ts)) (each_many ts)
    where
      go : (x : Ans Sort) (y : Ans Sorts) → Every y (λ ss. sorts ss ≡ trees ts) → Every (and_then x λ s. and_then y λ ss. got (scons s ss)) (λ ss. sorts ss ≡ suc (trees ts))
      go (got s) (got ss) h = ap suc h
      go (got s) (bad r) h = tt
      go (bad r) y h = tt

  -- The form of a list, by its first words.
  pub form-none : (ts : Trees) → ts ≡ tnil → bad malformed ≡ Rows.list_form text ts
  unfolding Rows.list_form
  form-none ts e = rw e refl

  module _ (ts : Trees) {ws : List ℕ} (i : First ws ts) where
    -- A first item that is no symbol.
    pub form-bad : (get_or ws 3 0 ≡ 16 → ⊥) → bad malformed ≡ Rows.list_form text ts
    unfolding Rows.list_form
    form-bad h = rw (i.is, no_symbol (trees_words i.others) i.first i.rest (λ k. h (sym (get_or-drop 3 ws 0 0) ∙ k))) refl

    -- A first item that is a symbol has its words.
    pub first-long : get_or ws 3 0 ≡ 16 → 5 < length ws
    first-long h = omega (arith, length-drop 3 ws, (size-symbol (trees_words i.others) i.first i.rest (get_or-drop 3 ws 0 0 ∙ h)).0)

    first-symbol : get_or ws 3 0 ≡ 16 → i.first ≡ atom (symbol (record { start = get_or ws 4 0; len = get_or ws 5 0 }))
    first-symbol h =
        is-symbol (trees_words i.others) i.first i.rest (get_or-drop 3 ws 0 0 ∙ h)
        ∙ ap (λ n. atom (symbol (record { start = n; len = get_or (drop 3 ws) 2 0 }))) (get_or-drop 3 ws 1 0)
        ∙ ap (λ n. atom (symbol (record { start = get_or ws 4 0; len = n }))) (get_or-drop 3 ws 2 0)

    -- It says the form.
    pub form-symbol : get_or ws 3 0 ≡ 16 → got (ParseSort.sort_form text (record { start = get_or ws 4 0; len = get_or ws 5 0 }) (get_or ws 1 0 - 1)) ≡ Rows.list_form text ts
    unfolding Rows.list_form in_symbol in_atom symbol_in
    form-symbol h =
        let n : get_or ws 1 0 - 1 ≡ trees i.others = omega (arith, i.many) in
        rw (i.is, first-symbol h, n) refl

-- A list with a form: the trees behind its first item.
pub record Headed (text ws : List ℕ) (ts : Trees) (form : SortForm) : Type 0 where
  pub others : Trees
  pub parsed : ParseSort.parse_sort text (list ts) ≡ ParseSort.form_sort text form (ParseSort.views text others)
  pub many : get_or ws 1 0 ≡ suc (trees others)
  pub fits : HasItems form (trees others)
  pub part : take (length ws - 6) (drop 6 ws) ≡ trees_words others
  pub size : 6 + length (trees_words others) ≡ length ws

module _ (text : List ℕ) where
  form-fits : (s : Span) (n : ℕ) → HasItems (ParseSort.sort_form text s n) n
  unfolding ParseSort.sort_form
  form-fits s n = applied-fits s n (lookup (sort_table n) (bytes_at text s)) (lookup-holds (sort_table n) (bytes_at text s) (λ _ form. HasItems form n) (table_fits n))

  -- A list whose form is found has it.
  pub headed : (form : SortForm) (ts : Trees) {ws : List ℕ} → ws ≡ tree_words (list ts) → got form ≡ Rows.list_form text ts → Headed text ws ts form
  unfolding ParseSort.parse_sort ParseSort.view ParseSort.list_sort Rows.list_form in_symbol in_atom symbol_in tree_words atom_words trees
  headed form tnil e h = let z : ◌≡◌ {A = ℕ} 0 1 = cc in absurd (omega arith)
  headed form (tcons (atom (symbol s)) us) {ws} e h =
      let q : form ≡ ParseSort.sort_form text s (trees us) = cc in
      record {
        others = us;
        parsed = rw (views-length text us, q) refl;
        many = rw e refl;
        fits = rw q (form-fits s (trees us));
        part = tail ws 6 ∙ rw e refl;
        size = rw e (omega arith);
      }
  headed form (tcons (atom (quoted s)) us) e h = let z : ◌≡◌ {A = ℕ} 0 1 = cc in absurd (omega arith)
  headed form (tcons (atom (integer w)) us) e h = let z : ◌≡◌ {A = ℕ} 0 1 = cc in absurd (omega arith)
  headed form (tcons (atom (decimal s)) us) e h = let z : ◌≡◌ {A = ℕ} 0 1 = cc in absurd (omega arith)
  headed form (tcons (atom (boolean b)) us) e h = let z : ◌≡◌ {A = ℕ} 0 1 = cc in absurd (omega arith)
  headed form (tcons (list vs) us) e h = let z : ◌≡◌ {A = ℕ} 0 1 = cc in absurd (omega arith)

-- A list without a form is no sort.
pub bad-list : (text : List ℕ) (ts : Trees) {o o' : List ℕ} {r : Refusal} → Gives form_in (Err r) (Rows.list_form text ts) → Outcome sort_words (ParseSort.parse_sort text (list ts)) o o' (Err r)
unfolding ParseSort.parse_sort ParseSort.view ParseSort.list_sort Rows.list_form in_symbol in_atom symbol_in
bad-list text tnil h = refused (ap Err h)
bad-list text (tcons (atom (symbol s)) us) h = absurd h
bad-list text (tcons (atom (quoted s)) us) h = refused (ap Err h)
bad-list text (tcons (atom (integer w)) us) h = refused (ap Err h)
bad-list text (tcons (atom (decimal s)) us) h = refused (ap Err h)
bad-list text (tcons (atom (boolean b)) us) h = refused (ap Err h)
bad-list text (tcons (list vs) us) h = refused (ap Err h)

-- A sort is a size where the tree is one.
size-sort : (text : List ℕ) (t : Tree) (n : ℕ) → ParseSort.size_of text t ≡ got n → ParseSort.parse_sort text t ≡ got (s_size n)
unfolding ParseSort.size_of ParseSort.parse_sort ParseSort.view ParseSort.atom_sort ParseSort.symbol_sort other_sort in_symbol in_atom symbol_in pick
size-sort text (atom (symbol s)) n e =
    let b : begins_with (ascii "Size") (bytes_at text s) ≡ true = size-begins (bytes_at text s) n e in
    rw (no_plain (bytes_at text s) b, b, e) refl
size-sort text (atom (quoted s)) n e = let z : ◌≡◌ {A = ℕ} 0 1 = cc in absurd (omega arith)
size-sort text (atom (integer w)) n e = let z : ◌≡◌ {A = ℕ} 0 1 = cc in absurd (omega arith)
size-sort text (atom (decimal s)) n e = let z : ◌≡◌ {A = ℕ} 0 1 = cc in absurd (omega arith)
size-sort text (atom (boolean b)) n e = let z : ◌≡◌ {A = ℕ} 0 1 = cc in absurd (omega arith)
size-sort text (list ts) n e = let z : ◌≡◌ {A = ℕ} 0 1 = cc in absurd (omega arith)

of_size : (text : List ℕ) (t : Tree) → OnlyBad (ParseSort.size_of text t) malformed
unfolding ParseSort.size_of in_symbol in_atom symbol_in
of_size text (atom (symbol s)) = size-only (bytes_at text s)
of_size text (atom (quoted s)) = refl
of_size text (atom (integer w)) = refl
of_size text (atom (decimal s)) = refl
of_size text (atom (boolean b)) = refl
of_size text (list ts) = refl

-- `(function in out)`, by what its two sorts are read as.
function-goes : (x y : Ans Sort) {o o' : List ℕ} {r : Result ℕ Refusal} → Outcome (λ ss. (8 ∷ []) ++ row_words 0 ss) (and_then x λ s. and_then (and_then y λ t. got (scons t snil)) λ ss. got (scons s ss)) o o' r → Outcome sort_words (and_then x λ s. and_then y λ t. got (s_func s t)) o o' r
unfolding row_words sort_words
function-goes (got s) (got t) (wrote p q) = wrote (rw (append-nil (sort_words t)) at p) (rw (append-nil (sort_words t)) at q)
function-goes (got s) (bad e) (refused p) = refused p
function-goes (bad e) y (refused p) = refused p

-- `(BitVec SIZE)`, by whether its item is a size: then it is read as one.
bitvec_goes : (z : Ans ℕ) (x : Ans Sort) → OnlyBad z malformed → ((n : ℕ) → z ≡ got n → x ≡ got (s_size n)) → {o o' : List ℕ} {v : ℕ} → Outcome (λ ss. (5 ∷ []) ++ row_words 0 ss) (and_then x λ s. got (scons s snil)) o o' (Ok v) → Outcome sort_words (and_then (and_then x λ s. got (scons s snil)) λ _. and_then z λ width. got (s_bit_vec (s_size width))) o o' (ended (is_got z) v)
unfolding row_words sort_words
bitvec_goes (got n) x h k y = sized-goes (k n refl) y
  where
    sized-goes : {o o' : List ℕ} {v : ℕ} → x ≡ got (s_size n) → Outcome (λ ss. (5 ∷ []) ++ row_words 0 ss) (and_then x λ s. got (scons s snil)) o o' (Ok v) → Outcome sort_words (and_then (and_then x λ s. got (scons s snil)) λ _. got (s_bit_vec (s_size n))) o o' (Ok v)
    sized-goes e y = rw e (same (rw e at y))
      where
        same : {o o' : List ℕ} {v : ℕ} → Outcome (λ ss. (5 ∷ []) ++ row_words 0 ss) (got (scons (s_size n) snil)) o o' (Ok v) → Outcome sort_words (got (s_bit_vec (s_size n))) o o' (Ok v)
        same (wrote p q) = wrote p q
bitvec_goes (bad e) (got s) h k y = refused (ap (λ c. Err (refusal_of c)) (sym h))
bitvec_goes (bad e) (bad c) h k (refused p) = never refl p

-- The sorts of a list that is no bit vector are as they are.
pub plain-row : (text : List ℕ) (r : Row) (ts : Trees) {n : ℕ} → (r ≡ row.BitVec → ⊥) → ◌≡◌ {A = Result ℕ Refusal} (Ok n) (ended (Rows.judged text (row_form r) ts) n)
unfolding Rows.judged
plain-row text row.Function ts h = refl
plain-row text row.BitVec ts h = absurd (h refl)
plain-row text row.Set ts h = refl
plain-row text row.Map ts h = refl
plain-row text (row.Data s) ts h = refl

-- What stands before the sorts of a list is short.
pub head-short : (r : Row) (n : ℕ) → length (row_head (row_form r) n) ≤ 5
head-short row.Function n = omega arith
head-short row.BitVec n = omega arith
head-short row.Set n = omega arith
head-short row.Map n = omega arith
head-short (row.Data s) n = omega arith

module _ (text : List ℕ) where
  -- A constructor applied to its sorts.
  app-goes : (c : Ctor) (us : Trees) {o o' : List ℕ} {r : Result ℕ Refusal} → Outcome (λ ss. row_head (applied c) (trees us) ++ row_words 0 ss) (each_sort (ParseSort.views text us)) o o' r → Outcome sort_words (ParseSort.form_sort text (applied c) (ParseSort.views text us)) o o' r
  unfolding ParseSort.form_sort sort_words
  app-goes c us y = out-map (each_sort (ParseSort.views text us)) (s_app c) (go (each_sort (ParseSort.views text us)) (each_many text us)) y
    where
      go : (x : Ans Sorts) → Every x (λ ss. sorts ss ≡ trees us) → Every x (λ ss. sort_words (s_app c ss) ≡ row_head (applied c) (trees us) ++ row_words 0 ss)
      go (got ss) e = rw (e, row_plain ss) (ap (λ l. 10 ∷ l) (sym (append_assoc (ctor_words c) (trees us ∷ []) (sorts_words ss))))
      go (bad e) h = tt

  -- A row of sorts was read behind what stands before them: the list's sort, once it is judged.
  pub row_done : (r : Row) (us : Trees) {o o' : List ℕ} {v : ℕ} → HasItems (row_form r) (trees us) → Outcome (λ ss. row_head (row_form r) (trees us) ++ row_words 0 ss) (each_sort (ParseSort.views text us)) o o' (Ok v) → Outcome sort_words (ParseSort.form_sort text (row_form r) (ParseSort.views text us)) o o' (ended (Rows.judged text (row_form r) us) v)
  unfolding ParseSort.form_sort ParseSort.parse_sort Rows.judged Rows.is_size function_sort ParseSort.bit_vec_sort view_at ParseSort.view each_sort trees
  row_done row.Function tnil h y = let z : ◌≡◌ {A = ℕ} 0 2 = h in absurd (omega arith)
  row_done row.Function (tcons a tnil) h y = let z : ◌≡◌ {A = ℕ} 1 2 = h in absurd (omega arith)
  row_done row.Function (tcons a (tcons b tnil)) h y = function-goes (ParseSort.view text a).sort (ParseSort.view text b).sort y
  row_done row.Function (tcons a (tcons b (tcons c us))) h y = let z : suc (suc (suc (trees us))) ≡ 2 = h in absurd (omega arith)
  row_done row.BitVec tnil h y = let z : ◌≡◌ {A = ℕ} 0 1 = h in absurd (omega arith)
  row_done row.BitVec (tcons t tnil) h y =
      rw (view-tree text t) (bitvec_goes (ParseSort.size_of text t) (ParseSort.view text t).sort (of_size text t) (size-sort text t) y)
  row_done row.BitVec (tcons a (tcons b us)) h y = let z : suc (suc (trees us)) ≡ 1 = h in absurd (omega arith)
  row_done row.Set us h y = app-goes c_set us y
  row_done row.Map us h y = app-goes c_map us y
  row_done (row.Data s) us h y = app-goes (c_data (as_span s)) us y

  -- One of them was refused.
  pub row-refused : (r : Row) (us : Trees) {o o' : List ℕ} {k : Refusal} → HasItems (row_form r) (trees us) → Outcome (λ ss. row_head (row_form r) (trees us) ++ row_words 0 ss) (each_sort (ParseSort.views text us)) o o' (Err k) → Outcome sort_words (ParseSort.form_sort text (row_form r) (ParseSort.views text us)) o o' (Err k)
  unfolding ParseSort.form_sort function_sort view_at ParseSort.view each_sort trees
  row-refused row.Function tnil h y = let z : ◌≡◌ {A = ℕ} 0 2 = h in absurd (omega arith)
  row-refused row.Function (tcons a tnil) h y = let z : ◌≡◌ {A = ℕ} 1 2 = h in absurd (omega arith)
  row-refused row.Function (tcons a (tcons b tnil)) h y = function-goes (ParseSort.view text a).sort (ParseSort.view text b).sort y
  row-refused row.Function (tcons a (tcons b (tcons c us))) h y = let z : suc (suc (suc (trees us))) ≡ 2 = h in absurd (omega arith)
  row-refused row.BitVec us h y = out-refused (each_sort (ParseSort.views text us)) (λ _. ParseSort.bit_vec_sort text (ParseSort.views text us)) y refl
  row-refused row.Set us h y = app-goes c_set us y
  row-refused row.Map us h y = app-goes c_map us y
  row-refused (row.Data s) us h y = app-goes (c_data (as_span s)) us y
