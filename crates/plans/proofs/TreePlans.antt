-- The plan of a tree: a list, or an atom by its kind.
use Rattle.std.proofs.Common.{◌≡◌, ℕ, ◌+◌, ◌≤◌, List, [], ◌∷◌, ◌++◌, length, get_or, drop, sym, refl, ap, ◌∙◌, arith}
use Rattle.reading.specs.Limits.{max_lists}
use Rattle.reading.specs.Tree.{symbol, quoted, integer, decimal, boolean, Tree, Trees, atom, list, atom_words, tree_words, nesting}
use Rattle.reading.specs.Answer.{ok}
use Rattle.grammar.specs.Scope
use Rattle.grammar.specs.Scope.{Scope}
use Rattle.grammar.specs.Item.{raise, words_of}
use Rattle.grammar.specs.Expr.{expr_items, exprs, kind_items}
use Rattle.grammar.specs.ParseExpr
use Rattle.grammar.specs.ParseExpr.{numeral}
use Rattle.grammar.specs.Written.{expr_words, told}
use Rattle.places.specs.Spot.{Spot}
use Rattle.scopes.specs.Scopes.{OpenScopes}
use Rattle.places.specs.Outcome.{bound, Put}
use Rattle.plans.specs.Plans.{Wrote, Parsed, wrote, refused, Here, Listed, SomeList, Plans, Planned, PlannedList, most}
use Rattle.words.specs.declared.refusal.Refusal.{Refusal}
use Rattle.words.specs.declared.refusal.Refusal.TheVariants.{DecimalRead}
use Rattle.std.specs.Prelude.{Result, Ok, Err}
use Rattle.plans.specs.Plans.{reached}
use Rattle.plans.specs.declared.plan.Plan.{Plan}
use Rattle.plans.specs.declared.plan.Plan.TheVariants.{Leaf}
use Rattle.reading.proofs.TreeHead.{tree-two}
use Rattle.places.proofs.Spots.{word, word0, spot-within}

-- A leaf of few words.
pub leaf-made : (t : Tree) {ws o o' : List ℕ} {w u next : ℕ} → Put o w ws o' u → u ≤ w + 6 → Parsed (ok ws next) w o o' (most w next t) (reached u next)
leaf-made t {ws} {o} {o'} {w} {u} {next} p l =
    let y : Wrote ws next w o o' (most w next t) (reached u next) = record { is = ap (λ (k : ℕ). reached k next) p.is; words = p.words; room = omega (arith, p.is, tree-two t) } in
    wrote y

module _ {ws : List ℕ} {at : ℕ} (p : Spot ws at) where
  three-words : (t : Tree) (rest : List ℕ) → (get_or (tree_words t ++ rest) 0 0 ≡ 20 → ⊥) → 3 ≤ length (tree_words t)
  unfolding tree_words atom_words
  three-words (atom (symbol s)) rest n = omega arith
  three-words (atom (quoted s)) rest n = omega arith
  three-words (atom (integer v)) rest n = omega arith
  three-words (atom (decimal s)) rest n = omega arith
  three-words (atom (boolean b)) rest n = absurd (n refl)
  three-words (list ts) rest n = omega arith

  five-words : (t : Tree) (rest : List ℕ) → get_or (tree_words t ++ rest) 0 0 ≡ 18 → 5 ≤ length (tree_words t)
  unfolding tree_words atom_words
  five-words (atom (symbol s)) rest n = absurd (omega arith)
  five-words (atom (quoted s)) rest n = absurd (omega arith)
  five-words (atom (integer v)) rest n = omega arith
  five-words (atom (decimal s)) rest n = absurd (omega arith)
  five-words (atom (boolean b)) rest n = absurd (omega arith)
  five-words (list ts) rest n = absurd (omega arith)

  -- Only a boolean has two words.
  pub three-there : (get_or ws at 0 ≡ 20 → ⊥) → at + 3 ≤ length ws
  three-there n = omega (arith, spot-within p, three-words p.tree p.rest (λ e. n (word0 p ∙ e)))

  pub five-there : get_or ws at 0 ≡ 18 → at + 5 ≤ length ws
  five-there n = omega (arith, spot-within p, five-words p.tree p.rest (sym (word0 p) ∙ n))

module _ (text : List ℕ) (ws : List ℕ) (at : ℕ) (es : List ℕ) (d w next : ℕ) (h : Here text ws at es d w next) where
  -- The scopes that are open.
  abbrev pub here-scopes : OpenScopes ws es d
  here-scopes = record { scopes = h.scopes; holds = h.holds; within = omega (arith, h.shallow, h.long) }

  list_of : (t : Tree) (rest : List ℕ) → drop at ws ≡ tree_words t ++ rest → d + nesting t ≤ max_lists → most w next t ≤ bound → get_or (tree_words t ++ rest) 0 0 ≡ 21 → SomeList text ws at w next
  unfolding tree_words atom_words
  list_of (atom (symbol x)) rest e l r k = absurd (omega arith)
  list_of (atom (quoted x)) rest e l r k = absurd (omega arith)
  list_of (atom (integer x)) rest e l r k = absurd (omega arith)
  list_of (atom (decimal x)) rest e l r k = absurd (omega arith)
  list_of (atom (boolean x)) rest e l r k = absurd (omega arith)
  list_of (list ts) rest e l r k = record { items = ts; listed = record { rest = rest; words = e; scopes = h.scopes; depth = d; shallow = l; room = r; bytes = h.bytes } }

  pub here-list : get_or ws at 0 ≡ 21 → SomeList text ws at w next
  here-list k = list_of h.spot.tree h.spot.rest h.spot.words h.shallow h.room (sym (word0 h.spot) ∙ k)

  module _ (count : ℕ) (o o' : List ℕ) (r : Result Plan Refusal) where
    -- What a tree is planned as.
    abbrev PlanOf : Tree → Result Plan Refusal → Type 0
    PlanOf t p = Plans text count ws at d next h.scopes (told count ((ParseExpr.child text t).plainly h.scopes next)) w o o' (most w next t) p

    plan-list : (t : Tree) (rest : List ℕ) → drop at ws ≡ tree_words t ++ rest → d + nesting t ≤ max_lists → most w next t ≤ bound → get_or (tree_words t ++ rest) 0 0 ≡ 21
        → ((items : Trees) (h' : Listed text ws at w next items) → PlannedList text count ws at w next items h' (told count (ParseExpr.list_expr text (ParseExpr.children text items) h'.scopes next)) o o' r)
        → PlanOf t r
    unfolding tree_words atom_words ParseExpr.child ParseExpr.list_child
    plan-list (atom (symbol x)) rest e l m k f = absurd (omega arith)
    plan-list (atom (quoted x)) rest e l m k f = absurd (omega arith)
    plan-list (atom (integer x)) rest e l m k f = absurd (omega arith)
    plan-list (atom (decimal x)) rest e l m k f = absurd (omega arith)
    plan-list (atom (boolean x)) rest e l m k f = absurd (omega arith)
    plan-list (list ts) rest e l m k f = f ts (record { rest = rest; words = e; scopes = h.scopes; depth = d; shallow = l; room = m; bytes = h.bytes })

    pub planned-list : get_or ws at 0 ≡ 21
        → ((items : Trees) (h' : Listed text ws at w next items) → PlannedList text count ws at w next items h' (told count (ParseExpr.list_expr text (ParseExpr.children text items) h'.scopes next)) o o' r)
        → Planned text count ws at es d w next h o o' r
    planned-list k f = plan-list h.spot.tree h.spot.rest h.spot.words h.shallow h.room (sym (word0 h.spot) ∙ k) f

  module _ (count : ℕ) (o o' : List ℕ) (u : ℕ) where
    -- What an atom is planned as, by what the code reads at its place.
    abbrev LeafOf : Tree → Type 0
    LeafOf t = Parsed (told count ((ParseExpr.child text t).plainly h.scopes next)) w o o' (most w next t) (reached u next)

    at_one : (t : Tree) (rest : List ℕ) → drop at ws ≡ tree_words t ++ rest → (i : ℕ) → get_or ws (at + i) 0 ≡ get_or (tree_words t ++ rest) i 0
    at_one t rest e i = word {ws = ws} {at = at} (record { tree = t; rest = rest; words = e }) i

    plan-symbol : (t : Tree) (rest : List ℕ) → drop at ws ≡ tree_words t ++ rest → get_or (tree_words t ++ rest) 0 0 ≡ 16
        → Put o w (expr_words count (Scope.symbol_expr text (record { start = get_or ws (at + 1) 0; len = get_or ws (at + 2) 0 }) h.scopes)) o' u → u ≤ w + 3 → LeafOf t
    unfolding tree_words atom_words ParseExpr.child ParseExpr.atom_child ParseExpr.atom_expr
    plan-symbol (atom (symbol x)) rest e k p l = leaf-made (atom (symbol x)) (rw (sym (at_one (atom (symbol x)) rest e 1), sym (at_one (atom (symbol x)) rest e 2)) p) (omega arith)
    plan-symbol (atom (quoted x)) rest e k p l = absurd (omega arith)
    plan-symbol (atom (integer x)) rest e k p l = absurd (omega arith)
    plan-symbol (atom (decimal x)) rest e k p l = absurd (omega arith)
    plan-symbol (atom (boolean x)) rest e k p l = absurd (omega arith)
    plan-symbol (list ts) rest e k p l = absurd (omega arith)

    pub planned-symbol : get_or ws at 0 ≡ 16 → Put o w (expr_words count (Scope.symbol_expr text (record { start = get_or ws (at + 1) 0; len = get_or ws (at + 2) 0 }) h.scopes)) o' u → u ≤ w + 3 → Planned text count ws at es d w next h o o' (Ok (Leaf u))
    planned-symbol k p l = plan-symbol h.spot.tree h.spot.rest h.spot.words (sym (word0 h.spot) ∙ k) p l

    plan-integer : (t : Tree) (rest : List ℕ) → drop at ws ≡ tree_words t ++ rest → get_or (tree_words t ++ rest) 0 0 ≡ 18
        → Put o w (expr_words count (numeral (record { a = get_or ws (at + 1) 0; b = get_or ws (at + 2) 0; c = get_or ws (at + 3) 0; d = get_or ws (at + 4) 0 }))) o' u → u ≤ w + 6 → LeafOf t
    unfolding tree_words atom_words ParseExpr.child ParseExpr.atom_child ParseExpr.atom_expr
    plan-integer (atom (symbol x)) rest e k p l = absurd (omega arith)
    plan-integer (atom (quoted x)) rest e k p l = absurd (omega arith)
    plan-integer (atom (integer x)) rest e k p l =
        leaf-made (atom (integer x)) (rw (sym (at_one (atom (integer x)) rest e 1), sym (at_one (atom (integer x)) rest e 2), sym (at_one (atom (integer x)) rest e 3), sym (at_one (atom (integer x)) rest e 4)) p) l
    plan-integer (atom (decimal x)) rest e k p l = absurd (omega arith)
    plan-integer (atom (boolean x)) rest e k p l = absurd (omega arith)
    plan-integer (list ts) rest e k p l = absurd (omega arith)

    pub planned-integer : get_or ws at 0 ≡ 18 → Put o w (expr_words count (numeral (record { a = get_or ws (at + 1) 0; b = get_or ws (at + 2) 0; c = get_or ws (at + 3) 0; d = get_or ws (at + 4) 0 }))) o' u → u ≤ w + 6
        → Planned text count ws at es d w next h o o' (Ok (Leaf u))
    planned-integer k p l = plan-integer h.spot.tree h.spot.rest h.spot.words (sym (word0 h.spot) ∙ k) p l

    plan-boolean : (t : Tree) (rest : List ℕ) → drop at ws ≡ tree_words t ++ rest → get_or (tree_words t ++ rest) 0 0 ≡ 20 → Put o w (33 ∷ get_or ws (at + 1) 0 ∷ []) o' u → LeafOf t
    unfolding tree_words atom_words ParseExpr.child ParseExpr.atom_child ParseExpr.atom_expr expr_items exprs kind_items raise words_of
    plan-boolean (atom (symbol x)) rest e k p = absurd (omega arith)
    plan-boolean (atom (quoted x)) rest e k p = absurd (omega arith)
    plan-boolean (atom (integer x)) rest e k p = absurd (omega arith)
    plan-boolean (atom (decimal x)) rest e k p = absurd (omega arith)
    plan-boolean (atom (boolean x)) rest e k p = leaf-made (atom (boolean x)) (rw (sym (at_one (atom (boolean x)) rest e 1)) p) (omega (arith, p.is))
    plan-boolean (list ts) rest e k p = absurd (omega arith)

    pub planned-boolean : get_or ws at 0 ≡ 20 → Put o w (33 ∷ get_or ws (at + 1) 0 ∷ []) o' u → Planned text count ws at es d w next h o o' (Ok (Leaf u))
    planned-boolean k p = plan-boolean h.spot.tree h.spot.rest h.spot.words (sym (word0 h.spot) ∙ k) p

    plan-quoted : (t : Tree) (rest : List ℕ) → drop at ws ≡ tree_words t ++ rest → get_or (tree_words t ++ rest) 0 0 ≡ 17 → Put o w (34 ∷ get_or ws (at + 1) 0 ∷ get_or ws (at + 2) 0 ∷ []) o' u → LeafOf t
    unfolding tree_words atom_words ParseExpr.child ParseExpr.atom_child ParseExpr.atom_expr expr_items exprs kind_items raise words_of
    plan-quoted (atom (symbol x)) rest e k p = absurd (omega arith)
    plan-quoted (atom (quoted x)) rest e k p = leaf-made (atom (quoted x)) (rw (sym (at_one (atom (quoted x)) rest e 1), sym (at_one (atom (quoted x)) rest e 2)) p) (omega (arith, p.is))
    plan-quoted (atom (integer x)) rest e k p = absurd (omega arith)
    plan-quoted (atom (decimal x)) rest e k p = absurd (omega arith)
    plan-quoted (atom (boolean x)) rest e k p = absurd (omega arith)
    plan-quoted (list ts) rest e k p = absurd (omega arith)

    pub planned-quoted : get_or ws at 0 ≡ 17 → Put o w (34 ∷ get_or ws (at + 1) 0 ∷ get_or ws (at + 2) 0 ∷ []) o' u → Planned text count ws at es d w next h o o' (Ok (Leaf u))
    planned-quoted k p = plan-quoted h.spot.tree h.spot.rest h.spot.words (sym (word0 h.spot) ∙ k) p

  module _ (count : ℕ) (o o' : List ℕ) where
    -- What is none of the others is a decimal.
    plan-decimal : (t : Tree) (rest : List ℕ) {k : ℕ} → k ≡ get_or (tree_words t ++ rest) 0 0 → (k ≡ 21 → ⊥) → (k ≡ 16 → ⊥) → (k ≡ 18 → ⊥) → (k ≡ 20 → ⊥) → (k ≡ 17 → ⊥)
        → Parsed (told count ((ParseExpr.child text t).plainly h.scopes next)) w o o' (most w next t) (Err DecimalRead)
    unfolding tree_words atom_words ParseExpr.child ParseExpr.atom_child ParseExpr.atom_expr
    plan-decimal (atom (symbol x)) rest e a b c d f = absurd (b e)
    plan-decimal (atom (quoted x)) rest e a b c d f = absurd (f e)
    plan-decimal (atom (integer x)) rest e a b c d f = absurd (c e)
    plan-decimal (atom (decimal x)) rest e a b c d f = refused refl
    plan-decimal (atom (boolean x)) rest e a b c d f = absurd (d e)
    plan-decimal (list ts) rest e a b c d f = absurd (a e)

    pub planned-decimal : (get_or ws at 0 ≡ 21 → ⊥) → (get_or ws at 0 ≡ 16 → ⊥) → (get_or ws at 0 ≡ 18 → ⊥) → (get_or ws at 0 ≡ 20 → ⊥) → (get_or ws at 0 ≡ 17 → ⊥) → Planned text count ws at es d w next h o o' (Err DecimalRead)
    planned-decimal a b c d f = plan-decimal h.spot.tree h.spot.rest (word0 h.spot) a b c d f
