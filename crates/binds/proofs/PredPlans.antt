-- One predicate at a place, as facts on lists: `and`, a kvar, or an expression.
use Prim.Native.Nat.{ℕ, suc, ◌+◌, ◌≤◌}
use mathlib.Core.Path.{◌≡◌, refl, sym, ap, ◌∙◌}
use mathlib.Core.Bool.{Bool, true, false}
use mathlib.Core.List.{List, [], ◌∷◌, ◌++◌}
use native.Mathlib.Omega.{arith}
use lib.ListN.{length, get_or, drop}
use Rattle.reading.specs.Limits.{max_lists}
use Rattle.reading.specs.Pick.{pick}
use Rattle.reading.specs.Bytes.{ascii, same_bytes, begins_with, Span, bytes_at}
use Rattle.reading.specs.Tree.{symbol, quoted, integer, decimal, boolean, Tree, Trees, atom, list, tnil, tcons, atom_words, tree_words, trees_words, nesting}
use Rattle.reading.specs.Answer.{malformed, M, Res, ok, no, chain}
use Rattle.grammar.specs.Item.{raise, words_of}
use Rattle.grammar.specs.Expr.{Expr, Pred, expr, pred_items}
use Rattle.grammar.specs.ParseExpr
use Rattle.grammar.specs.ParseExpr.{child, children, child_at, each_pred, kvar_form, expr_pred, atom_child}
use Rattle.grammar.specs.Written.{expr_words, told}
use Rattle.places.specs.Spot.{Seen}
use Rattle.scopes.specs.Scopes.{slots}
use Rattle.writing.specs.Laid.{laid}
use Rattle.places.specs.Outcome.{bound, Put}
use Rattle.plans.specs.Plans.{Parsed, wrote, refused, Here, most}
use Rattle.binds.specs.PredWords.{PredHere, KvarHere, ReadPred, Stepped, Stopped, step_read, step_into}
use Rattle.plans.specs.declared.progress.Progress.{Progress}
use Rattle.std.specs.Prelude.{Result, Ok, Err}
use Rattle.words.specs.declared.refusal.Refusal.{Refusal}
use Rattle.words.specs.declared.refusal.Refusal.TheVariants.{Malformed}
use Rattle.plans.specs.Plans.{reached}
use Rattle.binds.specs.declared.preds.Step.{Step}
use Rattle.places.proofs.FirstTree.{none_left}
use Rattle.places.proofs.Puts.{put_append}
use Rattle.plans.proofs.Laid.{never, same-words, same_next}
use Rattle.binds.proofs.ListHead.{the_list, list-trees, the_items, whole_is, head-spot}
use Rattle.binds.proofs.PredNames.{symbol-here}
use Rattle.reading.proofs.TreeHead.{tree-two}
use Rattle.places.proofs.Spots.{word0, spot-within}
use Rattle.places.proofs.Inside.{ListNode}

-- ---- what a tree is as a predicate

module _ (text : List ℕ) where
  -- No list.
  atom-pred : (t : Tree) (rest : List ℕ) (n : ℕ) → (get_or (tree_words t ++ rest) 0 0 ≡ 21 → ⊥) → (child text t).preds n ≡ no malformed
  unfolding child atom_child tree_words
  atom-pred (atom a) rest n h = refl
  atom-pred (list ts) rest n h = absurd (h refl)

  -- A list without items.
  none-pred : (n : ℕ) → (child text (list tnil)).preds n ≡ no malformed
  unfolding child ParseExpr.list_child ParseExpr.list_preds child_at
  none-pred n = refl

  -- The first item is a symbol.
  module _ (s : Span) (ts : Trees) where
    symbol-pred : (child text (list (tcons (atom (symbol s)) ts))).preds ≡ pick (same_bytes (bytes_at text s) (ascii "and")) (each_pred (children text ts))
        (pick (begins_with (ascii "$") (bytes_at text s)) (kvar_form s (children text (tcons (atom (symbol s)) ts))) (expr_pred (child text (list (tcons (atom (symbol s)) ts))).nested))
    unfolding child atom_child ParseExpr.list_child ParseExpr.list_preds child_at ParseExpr.headed_preds ParseExpr.atom_preds ParseExpr.symbol_preds
    symbol-pred = refl

  -- The first item is no symbol.
  other-pred : (t : Tree) (ts : Trees) (rest : List ℕ) → (get_or (tree_words t ++ rest) 0 0 ≡ 16 → ⊥) → (child text (list (tcons t ts))).preds ≡ expr_pred (child text (list (tcons t ts))).nested
  unfolding child atom_child ParseExpr.list_child ParseExpr.list_preds child_at ParseExpr.headed_preds ParseExpr.atom_preds tree_words atom_words
  other-pred (atom (symbol s)) ts rest h = absurd (h refl)
  other-pred (atom (quoted s)) ts rest h = refl
  other-pred (atom (integer v)) ts rest h = refl
  other-pred (atom (decimal s)) ts rest h = refl
  other-pred (atom (boolean b)) ts rest h = refl
  other-pred (list us) ts rest h = refl

-- The words of an expression as a predicate.
expr-words : (c : ℕ) (e : Expr) → words_of (raise c (pred_items (expr e))) ≡ (65 ∷ []) ++ expr_words c e
unfolding pred_items raise words_of
expr-words c e = refl

same-refused : {r : Result Progress Refusal} {e f : Refusal} → r ≡ Err e → r ≡ Err f → e ≡ f
same-refused p q = cc

-- ---- one predicate

module _ {text ws : List ℕ} {at w next : ℕ} (h : PredHere text ws at w next) where
  -- No list.
  pub pred-atom : (get_or ws at 0 ≡ 21 → ⊥) → Stopped text h.spot.tree next Malformed
  pred-atom k = record { why = malformed; is = atom-pred text h.spot.tree h.spot.rest next (λ e. k (word0 h.spot ∙ e)); same = refl }

  module _ {k f : ℕ} (n : ListNode ws at k f) where
    -- No items.
    pub pred-none : k ≡ 0 → Stopped text h.spot.tree next Malformed
    pred-none z =
        record {
          why = malformed;
          is = ap (λ (t : Tree). (child text t).preds next) ((the_list h.spot n).is ∙ ap list (none_left (the_list h.spot n).items (sym (list-trees h.spot n) ∙ z))) ∙ none-pred text next;
          same = refl;
        }

    module _ (z : k ≡ 0 → ⊥) where
      abbrev first : Tree
      first = (the_items h.spot n z).first

      abbrev others : Trees
      others = (the_items h.spot n z).others

      -- The first item is no symbol: an expression.
      pub pred-other : (get_or ws f 0 ≡ 16 → ⊥) → (child text h.spot.tree).preds ≡ expr_pred (child text h.spot.tree).nested
      pred-other m = rw (whole_is h.spot n z) (other-pred text first others (trees_words others ++ h.spot.rest) (λ e. m (word0 (head-spot h.spot n z) ∙ e)))

      module _ (y : get_or ws f 0 ≡ 16) where
        abbrev name : Span
        name = record { start = get_or ws (f + 1) 0; len = get_or ws (f + 2) 0 }

        pub named-is : h.spot.tree ≡ list (tcons (atom (symbol name)) others)
        named-is = whole_is h.spot n z ∙ ap (λ (t : Tree). list (tcons t others)) (symbol-here (head-spot h.spot n z) y)

        pub named-words : drop at ws ≡ tree_words (list (tcons (atom (symbol name)) others)) ++ h.spot.rest
        named-words = h.spot.words ∙ ap (λ (t : Tree). tree_words t ++ h.spot.rest) named-is

        pub six-there : at + 6 ≤ length ws
        unfolding tree_words atom_words
        six-there =
            let l : length (tree_words h.spot.tree) ≡ suc (suc (suc (suc (suc (suc (length (trees_words others))))))) = ap (λ (t : Tree). length (tree_words t)) named-is in
            omega (arith, spot-within h.spot)

        -- `and`: its items are stepped into.
        pub pred-and : (count : ℕ) {o : List ℕ} {b : Bool} {bytes : List ℕ} → bytes ≡ bytes_at text name → b ≡ same_bytes bytes (ascii "and") → b ≡ true → Stepped text count h.spot.tree at w next o o (Ok (record { next = (at + 6); words = w; fresh = next; preds = 0 }))
        unfolding pick
        pred-and count e d t =
            let a : same_bytes (bytes_at text name) (ascii "and") ≡ true = rw (sym e) (sym d ∙ t) in
            step_into (record { name = name; items = others; is = named-is; preds = ap (λ (u : Tree). (child text u).preds) named-is ∙ symbol-pred text name others ∙ rw a refl }) refl refl refl refl refl

        module _ {b : Bool} {bytes : List ℕ} (e : bytes ≡ bytes_at text name) (d : b ≡ same_bytes bytes (ascii "and")) (t : b ≡ false) {b' : Bool} (d' : b' ≡ begins_with (ascii "$") bytes) where
          -- Another name: an expression.
          pub pred-named : b' ≡ false → (child text h.spot.tree).preds ≡ expr_pred (child text h.spot.tree).nested
          unfolding pick
          pred-named t' =
              let a : same_bytes (bytes_at text name) (ascii "and") ≡ false = rw (sym e) (sym d ∙ t) in
              let a' : begins_with (ascii "$") (bytes_at text name) ≡ false = rw (sym e) (sym d' ∙ t') in
              rw named-is (symbol-pred text name others ∙ rw (a, a') refl)

          pub kvar-is : b' ≡ true → (child text (list (tcons (atom (symbol name)) others))).preds ≡ kvar_form name (children text (tcons (atom (symbol name)) others))
          unfolding pick
          kvar-is t' =
              let a : same_bytes (bytes_at text name) (ascii "and") ≡ false = rw (sym e) (sym d ∙ t) in
              let a' : begins_with (ascii "$") (bytes_at text name) ≡ true = rw (sym e) (sym d' ∙ t') in
              symbol-pred text name others ∙ rw (a, a') refl

          -- A kvar.
          abbrev pub kvar-here : b' ≡ true → KvarHere text ws at w next
          kvar-here t' = record {
            name = record { start = get_or ws (f + 1) 0; len = get_or ws (f + 2) 0 };
            others = others;
            rest = h.spot.rest;
            words = named-words;
            kvar = kvar-is t';
            room = rw (sym named-is) h.room;
          }

          pub pred-kvar : (count : ℕ) (o o' : List ℕ) (r : Result Step Refusal) → Stepped text count (list (tcons (atom (symbol name)) others)) at w next o o' r → Stepped text count h.spot.tree at w next o o' r
          pred-kvar count o o' r x = rw named-is x

  -- ---- an expression

  module _ {q : ℕ} (k : Seen text false ws at h.spot q) where
    pub expr-shallow : 0 + nesting k.spot.tree ≤ max_lists
    expr-shallow = omega (arith, h.nests, k.shallow)

    module _ {v : ℕ} (vs : v ≡ w + 1) where
      pub expr-room : most v next k.spot.tree ≤ bound
      expr-room = omega (arith, h.room, k.short, tree-two h.spot.tree)

      -- No scope is open.
      abbrev pub expr-here : (es : List ℕ) → slots ≤ length es → Here text ws q es 0 v next
      expr-here es l = record { spot = k.spot; scopes = []; holds = tt; long = l; shallow = expr-shallow; room = expr-room; bytes = h.bytes }

    module _ (is : (child text h.spot.tree).preds ≡ expr_pred (child text h.spot.tree).nested) where
      expr-is : (child text h.spot.tree).preds next ≡ chain ((child text k.spot.tree).plainly [] next) (λ e m. ok (expr e ∷ []) m)
      unfolding expr_pred pick
      expr-is = ap (λ (f : M (List Pred)). f next) is ∙ ap (λ (p : ParseExpr.P). chain (p [] next) (λ e m. ok (expr e ∷ []) m)) k.same

      -- It is refused.
      pub expr-bad : (count : ℕ) {o₁ o₂ : List ℕ} {v : ℕ} {r : Result Progress Refusal} {e : Refusal} → Parsed (told count ((child text k.spot.tree).plainly [] next)) v o₁ o₂ (most v next k.spot.tree) r → r ≡ Err e → Stopped text h.spot.tree next e
      expr-bad count {o₁} {o₂} {v} {r} {e} x g = go ((child text k.spot.tree).plainly [] next) refl x
        where
          go : (a : Res Expr) → (child text k.spot.tree).plainly [] next ≡ a → Parsed (told count a) v o₁ o₂ (most v next k.spot.tree) r → Stopped text h.spot.tree next e
          go (ok a m) p (wrote y) = never y.is g
          go (no c) p (refused y) = record { why = c; is = expr-is ∙ rw p refl; same = same-refused g y }

      module _ (count : ℕ) {o o₁ o₂ : List ℕ} {v : ℕ} {r : Result Progress Refusal} where
        -- It is written.
        pub expr-read : {u m j : ℕ} → Put o w (65 ∷ []) o₁ v → Parsed (told count ((child text k.spot.tree).plainly [] next)) v o₁ o₂ (most v next k.spot.tree) r → r ≡ reached u m
            → j ≡ length (tree_words h.spot.tree) → Stepped text count h.spot.tree at w next o o₂ (Ok (record { next = (at + j); words = u; fresh = m; preds = 1 }))
        expr-read {u} {m} {j} p x g js = go ((child text k.spot.tree).plainly [] next) refl x
          where
            go : (a : Res Expr) → (child text k.spot.tree).plainly [] next ≡ a → Parsed (told count a) v o₁ o₂ (most v next k.spot.tree) r → Stepped text count h.spot.tree at w next o o₂ (Ok (record { next = (at + j); words = u; fresh = m; preds = 1 }))
            go (ok a m') i (wrote y) =
                let uu = same-words g y.is in
                let mm = same_next g y.is in
                let all : Put o w ((65 ∷ []) ++ expr_words count a) o₂ u = put_append (65 ∷ []) (expr_words count a) p (record { is = uu; words = y.words }) in
                let es = expr-words count a in
                let z : ReadPred text count h.spot.tree w next o o₂ u m = record {
                  pred = expr a;
                  is = expr-is ∙ rw (i, mm) refl;
                  words = all.words ∙ ap (laid o w) (sym es);
                  place = all.is ∙ ap (λ (n : List ℕ). w + length n) (sym es);
                  room = omega (arith, y.room, uu, mm, k.short, tree-two h.spot.tree);
                } in
                step_read z (ap (λ (n : ℕ). at + n) js) refl
            go (no c) i (refused y) = never g y
