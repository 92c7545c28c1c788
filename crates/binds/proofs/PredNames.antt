-- The names of a kvar, as facts on lists.
use Prim.Native.Nat.{ℕ, suc, ◌+◌, ◌*◌, ◌-◌, ◌≤◌, ◌<◌}
use mathlib.Core.Path.{◌≡◌, refl, sym, ap, ap₂, subst, ◌∙◌}
use mathlib.Core.Bool.{true, false}
use mathlib.Core.List.{List, [], ◌∷◌, ◌++◌}
use native.Mathlib.Omega.{arith}
use native.Mathlib.Nat.{add-zero}
use lib.Dec.{ltb}
use lib.ListN.{length, get_or, drop}
use borrow.Author.Tests.{lt-ltb, le-ltb}
use Rattle.reading.specs.Bytes.{Span}
use Rattle.reading.specs.Tree.{symbol, Tree, Trees, atom, list, tnil, tcons, trees, atom_words, tree_words, trees_words}
use Rattle.reading.specs.Answer.{malformed, Ans, got, bad, and_then, M, ok, chain, lifted}
use Rattle.grammar.specs.ParseSort.{in_symbol, in_atom, symbol_in}
use Rattle.grammar.specs.Item.{raise, words_of}
use Rattle.grammar.specs.Expr.{VarName, Pred, kvar, name_items, pred_items}
use Rattle.grammar.specs.Scope.{var_of}
use Rattle.grammar.specs.ParseExpr.{child, children, symbols, kvar_form, atom_child}
use Rattle.places.specs.Spot.{Spot}
use Rattle.writing.specs.Laid.{laid}
use Rattle.places.specs.Outcome.{bound, Put, OutcomeAt, wrote_at, refused_at}
use Rattle.binds.specs.PredWords.{KvarHere, ReadPred, Stepped, Stopped, step_read, NameRow, names_words}
use Rattle.words.specs.declared.refusal.Refusal.{Refusal}
use Rattle.words.specs.declared.refusal.Refusal.TheVariants.{Malformed}
use Rattle.std.specs.Prelude.{Result, Ok, Err}
use Rattle.grammar.proofs.AnswerHolds.{Every, any-every, then-every}
use Rattle.grammar.proofs.FormsWritten.{children-count}
use Rattle.places.proofs.FirstTree.{More, some, none_left}
use Rattle.places.proofs.SortPlace.{GotAt, BadAt, every_got}
use Rattle.places.proofs.Puts.{put_append}
use Rattle.grammar.proofs.TreeHead.{no_symbol}
use Rattle.reading.proofs.TreeHead.{is-symbol, tree-two}
use Rattle.places.proofs.Spots.{word, word0, spot-within}
use Rattle.places.proofs.Inside.{list-spot, list-many, items-there, first-there, others-there, trees-size, child-tree}

-- ---- a symbol

module _ {ws : List ℕ} {at : ℕ} (p : Spot ws at) (k : get_or ws at 0 ≡ 16) where
  -- The tree whose first word is 16 is a symbol.
  pub symbol-here : p.tree ≡ atom (symbol (record { start = get_or ws (at + 1) 0; len = get_or ws (at + 2) 0 }))
  symbol-here =
      is-symbol p.rest {ws = tree_words p.tree ++ p.rest} p.tree refl (sym (word0 p) ∙ k)
      ∙ ap₂ (λ (a b : ℕ). atom (symbol (record { start = a; len = b }))) (sym (word p 1)) (sym (word p 2))

  pub symbol-three : length (tree_words p.tree) ≡ 3
  unfolding tree_words atom_words
  symbol-three = ap (λ (t : Tree). length (tree_words t)) symbol-here

  pub symbol-there : at + 3 ≤ length ws
  symbol-there = omega (arith, spot-within p, symbol-three)

-- ---- symbols

module _ (text : List ℕ) where
  symbols-bad : (t : Tree) (ts : Trees) → in_symbol t ≡ bad malformed → symbols (children text (tcons t ts)) ≡ bad malformed
  unfolding symbols child
  symbols-bad t ts e = rw (child-tree text t, e) refl

  symbols-more : (s : Span) (ts : Trees) → symbols (children text (tcons (atom (symbol s)) ts)) ≡ and_then (symbols (children text ts)) (λ xs. got (var_of s ∷ xs))
  unfolding symbols child atom_child in_symbol in_atom symbol_in
  symbols-more s ts = refl

  -- As many names as trees.
  symbols-count : (ts : Trees) → Every (symbols (children text ts)) (λ xs. length xs ≡ trees ts)
  unfolding symbols child trees
  symbols-count tnil = refl
  symbols-count (tcons t ts) =
      any-every (in_symbol (child text t).tree) _ _ λ s.
      then-every (symbols (children text ts)) _ (λ xs. length xs ≡ trees ts) _ (symbols-count ts) λ xs e.
      ap suc e

names-length : (xs : List VarName) → length (names_words xs) ≡ 3 * length xs
unfolding name_items words_of
names-length [] = refl
names-length (x ∷ xs) = omega (arith, names-length xs)

-- Names have no fresh number.
names-raise : (c : ℕ) (xs : List VarName) → raise c (name_items xs) ≡ name_items xs
unfolding name_items raise
names-raise c [] = refl
names-raise c (x ∷ xs) = rw (names-raise c xs) refl

-- A tree has two words at least.
trees-few : (ts : Trees) → 2 * trees ts ≤ length (trees_words ts)
unfolding trees tree_words
trees-few tnil = omega arith
trees-few (tcons t ts) = omega (arith, trees-few ts, trees-size t ts, tree-two t)

-- A name's words, and then the others'.
out_name : (s : Span) {a : Ans (List VarName)} {m m₁ o'' : List ℕ} {v u : ℕ} {q : Result ℕ Refusal} → Put m v (37 ∷ s.start ∷ s.len ∷ []) m₁ u → OutcomeAt names_words a u m₁ o'' q
    → OutcomeAt names_words (and_then a (λ xs. got (var_of s ∷ xs))) v m o'' q
unfolding name_items words_of
out_name s {m = m} {o'' = o''} {v = v} {u = u} p (wrote_at {a = xs} d l) =
    let put : Put m v ((37 ∷ s.start ∷ s.len ∷ []) ++ names_words xs) o'' (u + length (names_words xs)) = put_append (37 ∷ s.start ∷ s.len ∷ []) (names_words xs) p (record { is = refl; words = l }) in
    wrote_at (d ∙ ap Ok put.is) put.words
out_name s p (refused_at d) = refused_at d

-- The words of a kvar.
kvar-words : (c : ℕ) (s : Span) (xs : List VarName) → words_of (raise c (pred_items (kvar (record { span = s }) xs))) ≡ (64 ∷ s.start ∷ s.len ∷ length xs ∷ []) ++ names_words xs
unfolding pred_items raise words_of
kvar-words c s xs = rw (names-raise c xs) refl

-- ---- the loop over names

pub record Naming (text ws : List ℕ) (at n w : ℕ) (h : NameRow ws at n w) (o m : List ℕ) (i p v : ℕ) : Type 0 where
  pub items : Trees
  pub words : drop p ws ≡ trees_words items ++ h.rest
  pub many : n ≡ i + trees items
  pub place : v ≡ w + 3 * i
  pub goes : (o'' : List ℕ) (q : Result ℕ Refusal) → OutcomeAt names_words (symbols (children text items)) v m o'' q → OutcomeAt names_words (symbols (children text h.items)) w o o'' q

module _ {text ws : List ℕ} {at n w : ℕ} {h : NameRow ws at n w} {o : List ℕ} where
  pub naming_start : Naming text ws at n w h o o 0 at w
  naming_start = record { items = h.items; words = h.words; many = omega (arith, h.many); place = omega arith; goes = λ o'' q y. y }

  module _ {m : List ℕ} {i p v : ℕ} (g : Naming text ws at n w h o m i p v) where
    -- All are read.
    pub naming_end : n ≤ i → OutcomeAt names_words (symbols (children text h.items)) w o m (Ok v)
    unfolding symbols child name_items words_of laid
    naming_end e =
        let z : g.items ≡ tnil = none_left g.items (omega (arith, g.many)) in
        let y : OutcomeAt names_words (symbols (children text tnil)) v m m (Ok v) = wrote_at (ap Ok (sym (add-zero v))) refl in
        g.goes m (Ok v) (rw z y)

    module _ (l : i < n) where
      next-name : More g.items
      next-name = some g.items (omega (arith, g.many))

      next-words : drop p ws ≡ trees_words (tcons next-name.first next-name.others) ++ h.rest
      next-words = g.words ∙ ap (λ (t : Trees). trees_words t ++ h.rest) next-name.is

      pub name-spot : Spot ws p
      name-spot = record { tree = next-name.first; rest = trees_words next-name.others ++ h.rest; words = first-there ws p next-name.first next-name.others h.rest next-words }

      name-count : trees g.items ≡ suc (trees next-name.others)
      unfolding trees
      name-count = ap trees next-name.is

      pub name-room : v + 3 ≤ bound
      name-room = omega (arith, g.place, h.room)

      -- No symbol.
      pub naming_bad : (get_or ws p 0 ≡ 16 → ⊥) → OutcomeAt names_words (symbols (children text h.items)) w o m (Err Malformed)
      unfolding name-spot
      naming_bad k =
          g.goes m (Err Malformed)
          (rw (ap (λ (t : Trees). symbols (children text t)) next-name.is ∙ symbols-bad text next-name.first next-name.others (no_symbol name-spot.rest next-name.first refl (λ e. k (word0 name-spot ∙ e)))) (refused_at refl))

      pub naming_more : get_or ws p 0 ≡ 16 → {m₁ : List ℕ} {u : ℕ} → Put m v (37 ∷ get_or ws (p + 1) 0 ∷ get_or ws (p + 2) 0 ∷ []) m₁ u → Naming text ws at n w h o m₁ (i + 1) (p + 3) u
      unfolding name-spot
      naming_more k {m₁} {u} put =
          let s : Span = record { start = get_or ws (p + 1) 0; len = get_or ws (p + 2) 0 } in
          let is : g.items ≡ tcons (atom (symbol s)) next-name.others = next-name.is ∙ ap (λ (t : Tree). tcons t next-name.others) (symbol-here name-spot k) in
          record {
            items = next-name.others;
            words = others-there ws p next-name.first next-name.others h.rest next-words 3 (sym (symbol-three name-spot k));
            many = omega (arith, g.many, name-count);
            place = omega (arith, g.place, put.is);
            goes = λ o'' q y. g.goes o'' q (rw (ap (λ (t : Trees). symbols (children text t)) is ∙ symbols-more text s next-name.others) (out_name s put y));
          }

-- ---- a kvar

module _ {text ws : List ℕ} {at w next : ℕ} (h : KvarHere text ws at w next) where
  abbrev items : Trees
  items = tcons (atom (symbol h.name)) h.others

  abbrev pub kvar-spot : Spot ws at
  kvar-spot = list-spot ws at (tcons (atom (symbol h.name)) h.others) h.rest h.words

  kvar-many : get_or ws (at + 1) 0 ≡ suc (trees h.others)
  unfolding trees
  kvar-many = list-many ws at items h.rest h.words

  many-items : trees items ≡ suc (trees h.others)
  unfolding trees
  many-items = refl

  kvar-length : length (tree_words (list items)) ≡ 6 + length (trees_words h.others)
  unfolding tree_words atom_words
  kvar-length = let z : length (tree_words (list items)) ≡ suc (suc (suc (suc (suc (suc (length (trees_words h.others))))))) = refl in omega arith

  pub kvar-there : at + 6 ≤ length ws
  kvar-there = omega (arith, kvar-length, spot-within kvar-spot)

  kvar-name : ◌≡◌ {A = Span} (record { start = get_or ws (at + 4) 0; len = get_or ws (at + 5) 0 }) h.name
  unfolding tree_words atom_words
  kvar-name = rw (word kvar-spot 4, word kvar-spot 5) refl

  pub kvar-behind : drop (at + 6) ws ≡ trees_words h.others ++ h.rest
  unfolding tree_words atom_words
  kvar-behind =
      let six : at + 6 ≡ at + 3 + 3 = omega arith in
      ap (λ (k : ℕ). drop k ws) six ∙ others-there ws (at + 3) (atom (symbol h.name)) h.others h.rest (items-there ws at items h.rest h.words) 3 refl

  pub kvar-room : {v k : ℕ} → v ≡ w + 4 → k ≡ get_or ws (at + 1) 0 - 1 → v + 3 * k ≤ bound
  kvar-room e f = omega (arith, h.room, kvar-length, kvar-many, trees-few h.others)

  pub kvar-names : {k : ℕ} → k ≡ get_or ws (at + 1) 0 - 1 → k ≡ trees h.others
  kvar-names f = omega (arith, kvar-many)

  abbrev pub kvar-row : {v k : ℕ} → v ≡ w + 4 → k ≡ get_or ws (at + 1) 0 - 1 → NameRow ws (at + 6) k v
  kvar-row e f = record { items = h.others; rest = h.rest; words = kvar-behind; many = kvar-names f; room = kvar-room e f }

  kvar-form : 2 ≤ get_or ws (at + 1) 0 → (child text (list items)).preds next ≡ chain (lifted (symbols (children text h.others)) next) (λ xs m. ok (kvar (record { span = h.name }) xs ∷ []) m)
  unfolding kvar_form child
  kvar-form l =
      let c : ltb 1 (length (children text items)) ≡ true = lt-ltb 1 (length (children text items)) (omega (arith, kvar-many, children-count text items, many-items)) in
      ap (λ (f : M (List Pred)). f next) h.kvar ∙ rw c refl

  -- Fewer than two items.
  pub kvar-few : get_or ws (at + 1) 0 < 2 → Stopped text (list (tcons (atom (symbol h.name)) h.others)) next Malformed
  unfolding kvar_form
  kvar-few l =
      let c : ltb 1 (length (children text items)) ≡ false = le-ltb 1 (length (children text items)) (omega (arith, kvar-many, children-count text items, many-items)) in
      record { why = malformed; is = ap (λ (f : M (List Pred)). f next) h.kvar ∙ rw c refl; same = refl }

  module _ (l : 2 ≤ get_or ws (at + 1) 0) where
    -- Some item is no symbol.
    pub kvar-bad : {e : Refusal} → BadAt (symbols (children text h.others)) e → Stopped text (list (tcons (atom (symbol h.name)) h.others)) next e
    kvar-bad b = record { why = b.why; is = kvar-form l ∙ rw b.is refl; same = b.same }

    module _ (count : ℕ) {o o₂ : List ℕ} where
      -- All are.
      pub kvar-read : {o₁ : List ℕ} {v u k j : ℕ} → Put o w (64 ∷ get_or ws (at + 4) 0 ∷ get_or ws (at + 5) 0 ∷ k ∷ []) o₁ v → k ≡ get_or ws (at + 1) 0 - 1
          → GotAt names_words (symbols (children text h.others)) v o₁ o₂ u → j ≡ length (tree_words (list (tcons (atom (symbol h.name)) h.others)))
          → Stepped text count (list (tcons (atom (symbol h.name)) h.others)) at w next o o₂ (Ok (record { next = (at + j); words = u; fresh = next; preds = 1 }))
      kvar-read {o₁} {v} {u} {k} {j} p f g e =
          let xs = g.value in
          let n : length xs ≡ trees h.others = every_got (λ ys. length ys ≡ trees h.others) (symbols-count text h.others) g.is in
          let ks : k ≡ length xs = kvar-names f ∙ sym n in
          let p' : Put o w (64 ∷ h.name.start ∷ h.name.len ∷ length xs ∷ []) o₁ v
          = subst (λ (i : ℕ). Put o w (64 ∷ h.name.start ∷ h.name.len ∷ i ∷ []) o₁ v) ks (subst (λ (s : Span). Put o w (64 ∷ s.start ∷ s.len ∷ k ∷ []) o₁ v) kvar-name p) in
          let all : Put o w ((64 ∷ h.name.start ∷ h.name.len ∷ length xs ∷ []) ++ names_words xs) o₂ u = put_append (64 ∷ h.name.start ∷ h.name.len ∷ length xs ∷ []) (names_words xs) p' g.put in
          let ws' = kvar-words count h.name xs in
          let r : ReadPred text count (list items) w next o o₂ u next = record {
            pred = kvar (record { span = h.name }) xs;
            is = kvar-form l ∙ rw g.is refl;
            words = all.words ∙ ap (laid o w) (sym ws');
            place = all.is ∙ ap (λ (l : List ℕ). w + length l) (sym ws');
            room = omega (arith, p.is, g.put.is, names-length xs, n, trees-few h.others, kvar-length);
          } in
          step_read r (ap (λ (i : ℕ). at + i) e) refl
