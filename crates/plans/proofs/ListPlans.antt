-- The plans of lists, by the name that they begin with.
use Rattle.std.proofs.Common.{◌≡◌, ℕ, suc, ◌+◌, ◌-◌, ◌*◌, ◌≤◌, true, false, ltb, List, [], ◌++◌, length, get_or, drop, sym, refl, ap, ◌∙◌, subst, append_assoc, add-zero, arith, length-append, drop-drop, le-ltb, lt-ltb}
use native.Mathlib.Nat.{le-max_left, le-max_right}
use Rattle.reading.specs.Limits.{max_lists}
use Rattle.reading.specs.Pick.{pick}
use Rattle.reading.specs.Bytes.{Span}
use Rattle.reading.specs.Tree.{symbol, quoted, integer, decimal, boolean, Tree, Trees, atom, list, tnil, tcons, trees, atom_words, tree_words, trees_words, nesting, nestings}
use Rattle.reading.specs.Answer.{no, malformed}
use Rattle.grammar.specs.Scope.{Scope, repeated}
use Rattle.grammar.specs.Expr.{Kind}
use Rattle.grammar.specs.ParseExpr
use Rattle.grammar.specs.ParseExpr.{child_at, node_form}
use Rattle.grammar.specs.Written.{W, kind_words, told, ahead, after, operands_w, end_w, no_last, plain_last}
use Rattle.places.specs.Spot.{Spot}
use Rattle.scopes.specs.Scopes.{Pairs, none, inner}
use Rattle.places.specs.Outcome.{Put}
use Rattle.plans.specs.Late.{filled}
use Rattle.plans.specs.Plans.{Parsed, refused, Listed, Filled, Headed, PlannedList, factor, most}
use Rattle.plans.specs.declared.plan.Plan.{Plan}
use Rattle.plans.specs.declared.plan.Plan.TheVariants.{Go}
use Rattle.words.specs.declared.refusal.Refusal.{Refusal}
use Rattle.words.specs.declared.refusal.Refusal.TheVariants.{Malformed}
use Rattle.std.specs.Prelude.{Result, Ok, Err}
use Rattle.plans.specs.declared.plan.Run.{Run}
use Rattle.grammar.proofs.FormsWritten.{after-done, ahead_nil, node-told}
use Rattle.reading.proofs.TreeHead.{tree-two, apart}
use Rattle.places.proofs.Spots.{word, spot-within}
use Rattle.plans.proofs.Laid.{out-ahead}

-- No scope is opened.
pub no_words_lem : (ws : List ℕ) → drop 0 ws ≡ trees_words tnil ++ ws
unfolding trees_words
no_words_lem ws = refl

abbrev pub unbound : (ws : List ℕ) → Pairs ws 0 0
unbound ws = record { names = []; pairs = tnil; rest = ws; words = no_words_lem ws; named = none; many = refl }

-- ---- a list at a place

module _ {text ws : List ℕ} {at w next : ℕ} {items : Trees} (h : Listed text ws at w next items) where
  abbrev pub list-spot : Spot ws at
  list-spot = record { tree = list items; rest = h.rest; words = h.words }

  -- Its words are there.
  pub list-within : at + 3 + length (trees_words items) ≤ length ws
  unfolding tree_words
  list-within = omega (arith, spot-within list-spot)

  pub list_count : get_or ws (at + 1) 0 ≡ trees items
  unfolding tree_words
  list_count = word list-spot 1

  pub list-items : drop (at + 3) ws ≡ trees_words items ++ h.rest
  unfolding tree_words
  list-items = sym (drop-drop 3 at ws) ∙ ap (drop 3) h.words

  pub list-shallow : h.depth + 1 + nestings items ≤ max_lists
  unfolding nesting
  list-shallow = omega (arith, h.shallow)

  pub list-most : most w next (list items) ≡ w + next + factor * (3 + length (trees_words items))
  unfolding tree_words
  list-most = omega arith

-- ---- a list that begins with a symbol

module _ {text ws : List ℕ} {at w next : ℕ} (s : Span) (us : Trees) (h : Listed text ws at w next (tcons (atom (symbol s)) us)) where
  head-size : length (trees_words (tcons (atom (symbol s)) us)) ≡ 3 + length (trees_words us)
  unfolding tree_words atom_words
  head-size = omega arith

  pub head-within : at + 6 + length (trees_words us) ≤ length ws
  head-within = omega (arith, list-within h, head-size)

  pub head-count : get_or ws (at + 1) 0 ≡ suc (trees us)
  unfolding trees
  head-count = list_count h

  item : (i : ℕ) → get_or ws (at + i) 0 ≡ get_or (tree_words (list (tcons (atom (symbol s)) us)) ++ h.rest) i 0
  item i = word (list-spot h) i

  pub head-start : get_or ws (at + 4) 0 ≡ s.start
  unfolding tree_words atom_words
  head-start = item 4

  pub head-len : get_or ws (at + 5) 0 ≡ s.len
  unfolding tree_words atom_words
  head-len = item 5

  pub head-span : ◌≡◌ {A = Span} (record { start = get_or ws (at + 4) 0; len = get_or ws (at + 5) 0 }) s
  head-span = rw (head-start, head-len) refl

  pub head-others : drop (at + 6) ws ≡ trees_words us ++ h.rest
  unfolding tree_words atom_words
  head-others = sym (drop-drop 6 at ws) ∙ ap (drop 6) h.words

  pub head-shallow : h.depth + 1 + nestings us ≤ max_lists
  unfolding nesting
  head-shallow = omega (arith, list-shallow h, le-max_right 0 (nestings us))

  pub head-most : most w next (list (tcons (atom (symbol s)) us)) ≡ w + next + factor * (6 + length (trees_words us))
  head-most = omega (arith, list-most h, head-size)

module _ (text : List ℕ) (count : ℕ) (ws : List ℕ) (at w next : ℕ) (s : Span) (us : Trees) (h : Listed text ws at w next (tcons (atom (symbol s)) us)) (o o' : List ℕ) where
  -- What the list is written as.
  abbrev Made : W → Result Plan Refusal → Type 0
  Made x r = PlannedList text count ws at w next (tcons (atom (symbol s)) us) h x o o' r

  -- The operands behind the name.
  abbrev pub behind_run : ℕ → ℕ → Run
  behind_run want u = record { first = at + 6; have = get_or ws (at + 1) 0 - 1; want = want; last = 0; plain = false; names = 0; fresh = 0; pair = 0; words = u }

  pub made-behind : (k : Kind) (n : ℕ) (hd : List ℕ) {u : ℕ} → kind_words count k n ≡ hd → length hd ≤ 9 → Put o w hd o' u
      → Made (told count (node_form k n (ParseExpr.children text (tcons (atom (symbol s)) us)) h.scopes next)) (Ok (Go (behind_run n u)))
  unfolding inner pick end_w repeated filled
  made-behind k n hd {u} kw l p = record {
    items = us;
    rest = h.rest;
    words = head-others s us h;
    many = omega (arith, head-count s us h);
    beyond = omega arith;
    final = no_last;
    ends = (refl, refl);
    bind = unbound ws;
    shallow = head-shallow s us h;
    end_shallow = omega (arith, head-shallow s us h);
    room = omega (arith, p.is, head-most s us h);
    goes = λ o'' q m c z.
        rw (node-told text count k n (atom (symbol s)) us h.scopes next, kw)
        (out-ahead hd {x = operands_w text count us n h.scopes next} p.words p.is
        (subst (λ x. Parsed x u o' o'' (most w next (list (tcons (atom (symbol s)) us))) q) (after-done (operands_w text count us n h.scopes next))
        (subst (λ m. Parsed (after (operands_w text count us n h.scopes m) (λ j. end_w text count no_last h.scopes [] j)) u o' o'' (most w next (list (tcons (atom (symbol s)) us))) q) (add-zero next) z)));
  }

-- The one operand behind the name, which is not seen through.
abbrev pub only_run : ℕ → ℕ → Run
only_run at u = record { first = at + 6; have = 0; want = 0; last = at + 6; plain = true; names = 0; fresh = 0; pair = 0; words = u }

module _ (text : List ℕ) (count : ℕ) where
  -- What is written of that operand.
  abbrev pub only_of : Trees → List Scope → ℕ → W
  only_of tnil sc n = no malformed
  only_of (tcons t ts) sc n = told count ((ParseExpr.child text t).plainly sc n)

  module _ (ws : List ℕ) (at w next : ℕ) (s : Span) (o o' : List ℕ) (x : W) (hd : List ℕ) (u : ℕ) where
    pub made-only : (us : Trees) (h : Listed text ws at w next (tcons (atom (symbol s)) us)) → x ≡ ahead hd (only_of us h.scopes next) → length hd ≤ 9 → Put o w hd o' u
        → PlannedList text count ws at w next (tcons (atom (symbol s)) us) h x o o' (pick (ltb (get_or ws (at + 1) 0) 2) (Err Malformed) (Ok (Go (only_run at u))))
    unfolding pick end_w inner trees tree_words nesting operands_w filled
    made-only tnil h e l p = rw (e, lt-ltb (get_or ws (at + 1) 0) 2 (omega (arith, head-count s tnil h))) (refused refl)
    made-only (tcons t ts) h e l p =
        rw (le-ltb (get_or ws (at + 1) 0) 2 (omega (arith, head-count s (tcons t ts) h)))
        (record {
          items = tnil;
          rest = drop (at + 6) ws;
          words = refl;
          many = refl;
          beyond = omega arith;
          final = plain_last t;
          ends = (record { rest = trees_words ts ++ h.rest; words = head-others s (tcons t ts) h ∙ append_assoc (tree_words t) (trees_words ts) h.rest; beyond = omega arith }, refl, refl);
          bind = unbound ws;
          shallow = omega (arith, head-shallow s (tcons t ts) h);
          end_shallow = omega (arith, head-shallow s (tcons t ts) h, le-max_left (nesting t) (nestings ts));
          room = omega (arith, p.is, head-most s (tcons t ts) h, length-append (tree_words t) (trees_words ts));
          goes = λ o'' q m c z.
              rw e
              (out-ahead hd {x = told count ((ParseExpr.child text t).plainly h.scopes next)} p.words p.is
              (subst (λ y. Parsed y u o' o'' (most w next (list (tcons (atom (symbol s)) (tcons t ts)))) q) (ahead_nil (told count ((ParseExpr.child text t).plainly h.scopes next)))
              (subst (λ m. Parsed (ahead [] (end_w text count (plain_last t) h.scopes [] m)) u o' o'' (most w next (list (tcons (atom (symbol s)) (tcons t ts)))) q) (add-zero next) z)));
        })

-- ---- a list by its first item

module _ {text ws : List ℕ} {at w next : ℕ} where
  -- The first item of a list has two words at least.
  pub first-there : (items : Trees) (h : Listed text ws at w next items) → (get_or ws (at + 1) 0 ≡ 0 → ⊥) → at + 5 ≤ length ws
  unfolding tree_words trees
  first-there tnil h n = absurd (n (list_count h))
  first-there (tcons t ts) h n = omega (arith, list-within h, length-append (tree_words t) (trees_words ts), tree-two t)

  -- A first item that is a symbol.
  pub some-headed : (items : Trees) (h : Listed text ws at w next items) → (get_or ws (at + 1) 0 ≡ 0 → ⊥) → get_or ws (at + 3) 0 ≡ 16 → Headed text ws at w next
  unfolding tree_words atom_words trees
  some-headed tnil h n k = absurd (n (list_count h))
  some-headed (tcons (atom (symbol s)) ts) h n k = record { name = s; others = ts; listed = h }
  some-headed (tcons (atom (quoted s)) ts) h n k = apart 17 16 (word (list-spot h) 3) k (λ e. omega arith)
  some-headed (tcons (atom (integer v)) ts) h n k = apart 18 16 (word (list-spot h) 3) k (λ e. omega arith)
  some-headed (tcons (atom (decimal s)) ts) h n k = apart 19 16 (word (list-spot h) 3) k (λ e. omega arith)
  some-headed (tcons (atom (boolean b)) ts) h n k = apart 20 16 (word (list-spot h) 3) k (λ e. omega arith)
  some-headed (tcons (list us) ts) h n k = apart 21 16 (word (list-spot h) 3) k (λ e. omega arith)

  pub some-filled : (items : Trees) (h : Listed text ws at w next items) → (get_or ws (at + 1) 0 ≡ 0 → ⊥) → Filled text ws at w next
  unfolding trees
  some-filled tnil h n = absurd (n (list_count h))
  some-filled (tcons t ts) h n = record { head = t; others = ts; listed = h }

module _ (text : List ℕ) (count : ℕ) (ws : List ℕ) (at w next : ℕ) (o o' : List ℕ) (r : Result Plan Refusal) where
  -- What a list is written as, by its items.
  abbrev Read : (items : Trees) → Listed text ws at w next items → Result Plan Refusal → Type 0
  Read items h p = PlannedList text count ws at w next items h (told count (ParseExpr.list_expr text (ParseExpr.children text items) h.scopes next)) o o' p

  pub read_none : (items : Trees) (h : Listed text ws at w next items) → get_or ws (at + 1) 0 ≡ 0 → Read items h (Err Malformed)
  unfolding ParseExpr.list_expr child_at ParseExpr.child trees
  read_none tnil h n = refused refl
  read_none (tcons t ts) h n = absurd (omega (arith, list_count h))

  pub read_named : (items : Trees) (h : Listed text ws at w next items) → (get_or ws (at + 1) 0 ≡ 0 → ⊥) → get_or ws (at + 3) 0 ≡ 16
      → ((s : Span) (us : Trees) (h' : Listed text ws at w next (tcons (atom (symbol s)) us)) → PlannedList text count ws at w next (tcons (atom (symbol s)) us) h' (told count (ParseExpr.parse_form text (ParseExpr.form_of text s) s (ParseExpr.children text (tcons (atom (symbol s)) us)) h'.scopes next)) o o' r)
      → Read items h r
  unfolding tree_words atom_words trees ParseExpr.list_expr ParseExpr.headed ParseExpr.atom_headed child_at ParseExpr.child ParseExpr.atom_child
  read_named tnil h n k f = absurd (n (list_count h))
  read_named (tcons (atom (symbol s)) ts) h n k f = f s ts h
  read_named (tcons (atom (quoted s)) ts) h n k f = apart 17 16 (word (list-spot h) 3) k (λ e. omega arith)
  read_named (tcons (atom (integer v)) ts) h n k f = apart 18 16 (word (list-spot h) 3) k (λ e. omega arith)
  read_named (tcons (atom (decimal s)) ts) h n k f = apart 19 16 (word (list-spot h) 3) k (λ e. omega arith)
  read_named (tcons (atom (boolean b)) ts) h n k f = apart 20 16 (word (list-spot h) 3) k (λ e. omega arith)
  read_named (tcons (list us) ts) h n k f = apart 21 16 (word (list-spot h) 3) k (λ e. omega arith)

  -- Any other list is an application.
  pub read-applied : (items : Trees) (h : Listed text ws at w next items) → (get_or ws (at + 1) 0 ≡ 0 → ⊥) → (get_or ws (at + 3) 0 ≡ 16 → ⊥)
      → ((t : Tree) (us : Trees) (h' : Listed text ws at w next (tcons t us)) → PlannedList text count ws at w next (tcons t us) h' (told count (ParseExpr.apply_form text (ParseExpr.children text (tcons t us)) h'.scopes next)) o o' r)
      → Read items h r
  unfolding tree_words atom_words trees ParseExpr.list_expr ParseExpr.headed ParseExpr.atom_headed child_at ParseExpr.child ParseExpr.atom_child ParseExpr.list_child
  read-applied tnil h n k f = absurd (n (list_count h))
  read-applied (tcons (atom (symbol s)) ts) h n k f = absurd (k (word (list-spot h) 3))
  read-applied (tcons (atom (quoted s)) ts) h n k f = f (atom (quoted s)) ts h
  read-applied (tcons (atom (integer v)) ts) h n k f = f (atom (integer v)) ts h
  read-applied (tcons (atom (decimal s)) ts) h n k f = f (atom (decimal s)) ts h
  read-applied (tcons (atom (boolean b)) ts) h n k f = f (atom (boolean b)) ts h
  read-applied (tcons (list us) ts) h n k f = f (list us) ts h
