-- Predicates one after the other, as facts on lists. What `and` holds takes its place.
use Prim.Native.Nat.{ℕ, suc, ◌+◌, ◌*◌, ◌-◌, ◌^◌, ◌≤◌, ◌<◌, max}
use mathlib.Core.Path.{◌≡◌, refl, sym, ap, ◌∙◌}
use mathlib.Core.List.{List, [], ◌∷◌, ◌++◌, append_assoc, append-nil}
use native.Mathlib.Omega.{arith}
use native.Mathlib.Nat.{le-max_left, le-max_right}
use lib.ListN.{length, set, drop, length-append}
use lib.Seq.{set_comm}
use Rattle.reading.specs.Limits.{max_lists}
use Rattle.reading.specs.Tree.{symbol, Tree, Trees, atom, tnil, tcons, atom_words, tree_words, trees_words, nesting, nestings}
use Rattle.reading.specs.Answer.{Res, ok, no, chain, M}
use Rattle.grammar.specs.Item.{raise, words_of}
use Rattle.grammar.specs.Expr.{Pred, pred_items, preds_items}
use Rattle.grammar.specs.ParseExpr.{child, children, each_pred}
use Rattle.grammar.specs.Written.{told_of}
use Rattle.places.specs.Spot.{Spot}
use Rattle.writing.specs.Laid.{laid}
use Rattle.places.specs.Outcome.{bound}
use Rattle.plans.specs.Plans.{reached, Wrote, Parsed, wrote, refused}
use Rattle.binds.specs.PredWords.{PredHere, IsAnd, Went, step_read, step_into, Stopped, counted_preds}
use Rattle.std.specs.Prelude.{Err}
use Rattle.words.specs.declared.refusal.Refusal.{Refusal}
use Rattle.binds.specs.declared.preds.Step.{Step}
use Rattle.places.proofs.FirstTree.{More}
use Rattle.grammar.proofs.FormsWritten.{raised_append}
use Rattle.writing.proofs.Laid.{laid_append}
use Rattle.reading.proofs.TreeHead.{tree-two, no-trees}
use Rattle.places.proofs.Inside.{items-there, first-there, others-there, trees-size}

-- ---- trees in front of trees

unfoldable joined : Trees → Trees → Trees
joined tnil us = us
joined (tcons t ts) us = tcons t (joined ts us)

joined_words : (ts us : Trees) → trees_words (joined ts us) ≡ trees_words ts ++ trees_words us
unfolding joined tree_words
joined_words tnil us = refl
joined_words (tcons t ts) us = ap (λ (l : List ℕ). tree_words t ++ l) (joined_words ts us) ∙ sym (append_assoc (tree_words t) (trees_words ts) (trees_words us))

joined_nest : (k : ℕ) (ts us : Trees) → nestings ts ≤ k → nestings us ≤ k → nestings (joined ts us) ≤ k
unfolding joined nesting
joined_nest k tnil us h g = g
joined_nest k (tcons t ts) us h g =
    let i = joined_nest k ts us (omega (arith, le-max_right (nesting t) (nestings ts))) g in
    omega (arith, le-max_left (nesting t) (nestings ts))

-- ---- predicates in front of predicates

-- Predicates, and then others.
abbrev both : Res (List Pred) → M (List Pred) → Res (List Pred)
both r f = chain r (λ ps m. chain (f m) (λ qs k. ok (ps ++ qs) k))

-- Predicates behind others.
abbrev behind : List Pred → Res (List Pred) → Res (List Pred)
behind ps r = chain r (λ qs k. ok (ps ++ qs) k)

-- Laws of both.
behind-none : (r : Res (List Pred)) → behind [] r ≡ r
behind-none (ok ps n) = refl
behind-none (no e) = refl

behind-behind : (a b : List Pred) (r : Res (List Pred)) → behind a (behind b r) ≡ behind (a ++ b) r
behind-behind a b (ok ps n) = ap (λ (l : List Pred). ok l n) (sym (append_assoc a b ps))
behind-behind a b (no e) = refl

both_behind : (a : List Pred) (r : Res (List Pred)) (f : M (List Pred)) → behind a (both r f) ≡ both (behind a r) f
both_behind a (ok ps n) f = behind-behind a ps (f n)
both_behind a (no e) f = refl

module _ (text : List ℕ) where
  -- The predicates of a tree, and of the others.
  each_more : (t : Tree) (ts : Trees) (n : ℕ) → each_pred (children text (tcons t ts)) n ≡ both ((child text t).preds n) (each_pred (children text ts))
  unfolding each_pred child
  each_more t ts n = refl

  joined-preds : (ts us : Trees) (n : ℕ) → each_pred (children text (joined ts us)) n ≡ both (each_pred (children text ts) n) (each_pred (children text us))
  unfolding joined each_pred child
  joined-preds tnil us n = sym (behind-none (each_pred (children text us) n))
  joined-preds (tcons t ts) us n = go ((child text t).preds n) (λ m. joined-preds ts us m)
    where
      go : (r : Res (List Pred)) → ((m : ℕ) → each_pred (children text (joined ts us)) m ≡ both (each_pred (children text ts) m) (each_pred (children text us)))
          → both r (each_pred (children text (joined ts us))) ≡ both (both r (each_pred (children text ts))) (each_pred (children text us))
      go (ok ps m) ih = ap (behind ps) (ih m) ∙ both_behind ps (each_pred (children text ts) m) (each_pred (children text us))
      go (no e) ih = refl

  -- One tree.
  each_one : (t : Tree) (n : ℕ) → (child text t).preds n ≡ behind [] (each_pred (children text (tcons t tnil)) n)
  unfolding each_pred child
  each_one t n = go ((child text t).preds n)
    where
      go : (r : Res (List Pred)) → r ≡ behind [] (both r (λ m. ok [] m))
      go (ok ps m) = ap (λ (l : List Pred). ok l m) (sym (append-nil ps))
      go (no e) = refl

-- ---- the words of predicates

abbrev pred_words : ℕ → Pred → List ℕ
pred_words c p = words_of (raise c (pred_items p))

abbrev pub preds_words : ℕ → List Pred → List ℕ
preds_words c ps = words_of (raise c (preds_items ps))

-- One predicate more at the end.
more-words : (c : ℕ) (ps : List Pred) (p : Pred) → preds_words c (ps ++ (p ∷ [])) ≡ preds_words c ps ++ pred_words c p
unfolding preds_items raise words_of
more-words c [] p = ap (λ its. words_of (raise c its)) (append-nil (pred_items p))
more-words c (q ∷ ps) p =
    raised_append c (pred_items q) (preds_items (ps ++ (p ∷ []))) ∙ ap (λ (l : List ℕ). pred_words c q ++ l) (more-words c ps p)
    ∙ sym (append_assoc (pred_words c q) (preds_words c ps) (pred_words c p)) ∙ ap (λ (l : List ℕ). l ++ pred_words c p) (sym (raised_append c (pred_items q) (preds_items ps)))

more-length : (ps : List Pred) (p : Pred) → length (ps ++ (p ∷ [])) ≡ length ps + 1
more-length ps p = length-append ps (p ∷ [])

-- A word stored before words.
laid-set : (ws o : List ℕ) (w k x : ℕ) → w < k → set (laid o k ws) w x ≡ laid (set o w x) k ws
unfolding laid
laid-set [] o w k x h = refl
laid-set (y ∷ ws) o w k x h = laid-set ws (set o k y) w (k + 1) x (omega arith) ∙ ap (λ (l : List ℕ). laid l (k + 1) ws) (set_comm o k w y x (λ e. omega arith))

-- ---- the items of `and`

module _ {text : List ℕ} {t : Tree} (a : IsAnd text t) where
  and-size : length (tree_words t) ≡ 6 + length (trees_words a.items)
  unfolding tree_words atom_words
  and-size =
      let z : length (tree_words t) ≡ suc (suc (suc (suc (suc (suc (length (trees_words a.items))))))) = ap (λ (u : Tree). length (tree_words u)) a.is in
      omega arith

  and-nests : nestings a.items ≤ nesting t
  unfolding nesting
  and-nests =
      let z : nesting t ≡ suc (max 0 (nestings a.items)) = ap nesting a.is in
      omega (arith, le-max_right 0 (nestings a.items))

and-there : (ws : List ℕ) (at : ℕ) (rest : List ℕ) {text : List ℕ} {t : Tree} (a : IsAnd text t) → drop at ws ≡ tree_words t ++ rest → drop (at + 6) ws ≡ trees_words a.items ++ rest
unfolding tree_words atom_words
and-there ws at rest a e =
    let six : at + 6 ≡ at + 3 + 3 = omega arith in
    let its = tcons (atom (symbol a.name)) a.items in
    ap (λ (k : ℕ). drop k ws) six
    ∙ others-there ws (at + 3) (atom (symbol a.name)) a.items rest (items-there ws at its rest (e ∙ ap (λ (u : Tree). tree_words u ++ rest) a.is)) 3 refl

-- ---- the loop

-- Where there are words, there is a tree.
more_of : (ts : Trees) → 0 < length (trees_words ts) → More ts
unfolding tree_words
more_of tnil h = absurd (omega arith)
more_of (tcons t ts) h = record { first = t; others = ts; is = refl }

-- How far the loop has come: the trees that are left, and the predicates that were read.
pub record Reading (text : List ℕ) (count : ℕ) (ws : List ℕ) (at w end : ℕ) (h : PredHere text ws at (w + 1) 0) (o m : List ℕ) (p v next n : ℕ) : Type 0 where
  pub items : Trees
  pub rest : List ℕ
  pub words : drop p ws ≡ trees_words items ++ rest
  pub ends : p + length (trees_words items) ≡ end
  pub nests : nestings items ≤ max_lists
  pub sofar : List Pred
  pub many : n ≡ length sofar
  pub place : v ≡ w + 1 + length (preds_words count sofar)
  pub laid_there : m ≡ laid o (w + 1) (preds_words count sofar)
  pub fewer : n + length (trees_words items) ≤ length (tree_words h.spot.tree)
  pub room : v + next + 32 * length (trees_words items) ≤ w + 1 + 32 * length (tree_words h.spot.tree)
  pub whole : (child text h.spot.tree).preds 0 ≡ chain (each_pred (children text items) next) (λ qs k. ok (sofar ++ qs) k)

module _ {text : List ℕ} {count : ℕ} {ws : List ℕ} {at w end : ℕ} {h : PredHere text ws at (w + 1) 0} {o : List ℕ} where
  pub reading-start : {j : ℕ} → j ≡ length (tree_words h.spot.tree) → end ≡ at + j → Reading text count ws at w end h o o at (w + 1) 0 0
  unfolding tree_words nesting preds_items raise words_of laid
  reading-start js es =
      let l : length (trees_words (tcons h.spot.tree tnil)) ≡ length (tree_words h.spot.tree) = ap length (append-nil (tree_words h.spot.tree)) in
      record {
        items = tcons h.spot.tree tnil;
        rest = h.spot.rest;
        words = h.spot.words ∙ ap (λ (x : List ℕ). x ++ h.spot.rest) (sym (append-nil (tree_words h.spot.tree)));
        ends = omega (arith, l);
        nests = omega (arith, h.nests);
        sofar = [];
        many = refl;
        place = omega arith;
        laid_there = refl;
        fewer = omega (arith, l);
        room = omega (arith, l);
        whole = each_one text h.spot.tree 0;
      }

  module _ {m : List ℕ} {p v next n : ℕ} (g : Reading text count ws at w end h o m p v next n) where
    -- All are read: their number goes before them.
    pub reading-end : end ≤ p → {o' : List ℕ} → o' ≡ set m w n → Parsed (told_of counted_preds count ((child text h.spot.tree).preds 0)) w o o' bound (reached v next)
    unfolding each_pred child raise words_of laid
    reading-end e {o'} d =
        let z : g.items ≡ tnil = no-trees g.items refl (omega (arith, g.ends)) in
        let a : (child text h.spot.tree).preds 0 ≡ ok g.sofar next
        = g.whole ∙ ap (λ (ts : Trees). chain (each_pred (children text ts) next) (λ qs k. ok (g.sofar ++ qs) k)) z ∙ ap (λ (l : List Pred). ok l next) (append-nil g.sofar) in
        let y : Wrote (length g.sofar ∷ preds_words count g.sofar) next w o o' bound (reached v next) = record {
          is = ap (λ (k : ℕ). reached k next) (omega (arith, g.place));
          words = d ∙ rw (g.laid_there, g.many) (laid-set (preds_words count g.sofar) o w (w + 1) (length g.sofar) (omega arith));
          room = omega (arith, g.place, g.room, h.room);
        } in
        rw a (wrote y)

    module _ (l : p < end) where
      pub next-pred : More g.items
      next-pred = more_of g.items (omega (arith, g.ends))

      next-words : drop p ws ≡ trees_words (tcons next-pred.first next-pred.others) ++ g.rest
      next-words = g.words ∙ ap (λ (t : Trees). trees_words t ++ g.rest) next-pred.is

      pub pred-words : drop p ws ≡ tree_words next-pred.first ++ (trees_words next-pred.others ++ g.rest)
      pred-words = first-there ws p next-pred.first next-pred.others g.rest next-words

      next-size : length (trees_words g.items) ≡ length (tree_words next-pred.first) + length (trees_words next-pred.others)
      next-size = ap (λ (t : Trees). length (trees_words t)) next-pred.is ∙ trees-size next-pred.first next-pred.others

      next-nesting : nestings g.items ≡ max (nesting next-pred.first) (nestings next-pred.others)
      unfolding nesting
      next-nesting = ap nestings next-pred.is

      next-whole : (child text h.spot.tree).preds 0 ≡ behind g.sofar (both ((child text next-pred.first).preds next) (each_pred (children text next-pred.others)))
      next-whole = g.whole ∙ ap (behind g.sofar) (ap (λ (t : Trees). each_pred (children text t) next) next-pred.is ∙ each_more text next-pred.first next-pred.others next)

      abbrev pub pred-spot : Spot ws p
      pred-spot = record { tree = next-pred.first; rest = trees_words next-pred.others ++ g.rest; words = pred-words }

      pub pred-nests : nesting next-pred.first ≤ max_lists
      pred-nests = omega (arith, g.nests, next-nesting, le-max_left (nesting next-pred.first) (nestings next-pred.others))

      pub pred-small : length (tree_words next-pred.first) < 2 ^ 32
      pred-small = omega (arith, h.small, g.fewer, next-size)

      pub pred-room : v + next + 32 * length (tree_words next-pred.first) ≤ bound
      pred-room = omega (arith, h.room, g.room, next-size)

      abbrev pub pred-here : PredHere text ws p v next
      pred-here = record { spot = pred-spot; nests = pred-nests; small = pred-small; room = pred-room; bytes = h.bytes }

      -- The first refusal counts.
      pub reading-refused : {o' : List ℕ} {e : Refusal} → Stopped text next-pred.first next e → Parsed (told_of counted_preds count ((child text h.spot.tree).preds 0)) w o o' bound (Err e)
      reading-refused s = rw (next-whole, s.is) (refused (ap Err s.same))

      module _ {m' : List ℕ} {s : Step} (x : Went text count next-pred.first p v next m m' s) where
        -- Their number fits a word.
        pub many-fits : n + s.preds < 2 ^ 32
        many-fits = go x
          where
            go : Went text count next-pred.first p v next m m' s → n + s.preds < 2 ^ 32
            go (step_read a b c) = omega (arith, h.small, g.fewer, next-size, tree-two next-pred.first)
            go (step_into a b c d i j) = omega (arith, h.small, g.fewer, next-size, tree-two next-pred.first)

        -- The place moves on.
        pub reading-less : end - s.next < end - p
        reading-less = go x
          where
            go : Went text count next-pred.first p v next m m' s → end - s.next < end - p
            go (step_read a b c) = omega (arith, tree-two next-pred.first)
            go (step_into a b c d i j) = omega arith

        pub reading-more : Reading text count ws at w end h o m' s.next s.words s.fresh (n + s.preds)
        reading-more = go x
          where
            go : Went text count next-pred.first p v next m m' s → Reading text count ws at w end h o m' s.next s.words s.fresh (n + s.preds)
            go (step_read a b c) =
                let ps = more-words count g.sofar a.pred in
                record {
                  items = next-pred.others;
                  rest = g.rest;
                  words = ap (λ (i : ℕ). drop i ws) b ∙ others-there ws p next-pred.first next-pred.others g.rest next-words (length (tree_words next-pred.first)) refl;
                  ends = omega (arith, g.ends, next-size);
                  nests = omega (arith, g.nests, next-nesting, le-max_right (nesting next-pred.first) (nestings next-pred.others));
                  sofar = g.sofar ++ (a.pred ∷ []);
                  many = omega (arith, g.many, more-length g.sofar a.pred);
                  place = omega (arith, g.place, a.place, ap length ps, length-append (preds_words count g.sofar) (pred_words count a.pred));
                  laid_there =
                      a.words ∙ rw (g.laid_there, g.place) (sym (laid_append (preds_words count g.sofar) (pred_words count a.pred) o (w + 1))) ∙ ap (laid o (w + 1)) (sym ps);
                  fewer = omega (arith, g.fewer, next-size, tree-two next-pred.first);
                  room = omega (arith, g.room, next-size, a.room);
                  whole = next-whole ∙ rw a.is (behind-behind g.sofar (a.pred ∷ []) (each_pred (children text next-pred.others) s.fresh));
                }
            go (step_into a b c d i j) =
                let size = and-size a in
                let len : length (trees_words (joined a.items next-pred.others)) ≡ length (trees_words a.items) + length (trees_words next-pred.others)
                = ap length (joined_words a.items next-pred.others) ∙ length-append (trees_words a.items) (trees_words next-pred.others) in
                record {
                  items = joined a.items next-pred.others;
                  rest = g.rest;
                  words =
                      ap (λ (z : ℕ). drop z ws) c ∙ and-there ws p (trees_words next-pred.others ++ g.rest) a pred-words
                      ∙ sym (append_assoc (trees_words a.items) (trees_words next-pred.others) g.rest) ∙ ap (λ (z : List ℕ). z ++ g.rest) (sym (joined_words a.items next-pred.others));
                  ends = omega (arith, g.ends, next-size, size, len);
                  nests =
                      joined_nest max_lists a.items next-pred.others (omega (arith, pred-nests, and-nests a))
                      (omega (arith, g.nests, next-nesting, le-max_right (nesting next-pred.first) (nestings next-pred.others)));
                  sofar = g.sofar;
                  many = omega (arith, g.many);
                  place = d ∙ g.place;
                  laid_there = b ∙ g.laid_there;
                  fewer = omega (arith, g.fewer, next-size, size, len);
                  room = omega (arith, g.room, next-size, size, len);
                  whole =
                      next-whole
                      ∙ ap (behind g.sofar) (ap (λ (z : M (List Pred)). both (z next) (each_pred (children text next-pred.others))) a.preds ∙ sym (joined-preds text a.items next-pred.others next) ∙ ap (each_pred (children text (joined a.items next-pred.others))) (sym i));
                }
