-- The shape of what the parser builds: it nests little deeper than its tree, opens fewer scopes than the tree has lists inside one another,
-- and its words give it back.
use Prim.Native.Nat.{ℕ, zero, suc, ◌+◌, ◌-◌, ◌^◌, ◌≤◌, ◌<◌, max}
use mathlib.Core.Bool.{Bool, true, false, false≢true}
use mathlib.Core.Path.{◌≡◌, refl}
use mathlib.Core.List.{List, [], ◌∷◌}
use native.Mathlib.Omega.{arith}
use lib.Dec.{ltb}
use lib.ListN.{length}
use borrow.Author.Tests.{ltb-true}
use Rattle.reading.specs.Pick.{pick}
use Rattle.reading.specs.Bytes.{Span, bytes_at, Maybe, nothing, just, Named, named, lookup}
use Rattle.reading.specs.Number.{Wide, value_of, minus_of}
use Rattle.reading.specs.Tree.{symbol, quoted, integer, boolean, Tree, Trees, atom, list, tcons, nesting, nestings, Within, AllWithin}
use Rattle.reading.proofs.Picks.{pick-holds}
use Rattle.grammar.specs.Sort.{Sort}
use Rattle.grammar.specs.Expr.{Binder, Kind, k_num, k_bool, k_str, k_bit_vec, k_fresh, k_named, k_neg, k_bin, k_if, k_and, k_or, k_not, k_imp, k_iff, k_atom, k_let, k_theory, k_is_ctor, k_exists, k_let_fresh, outside, Expr, Exprs, node, app, leaf, one_of, enil, econs, exprs}
use Rattle.grammar.specs.Names.{theory}
use Rattle.grammar.specs.Scope
use Rattle.grammar.specs.Scope.{Scope, numbered, or_else}
use Rattle.grammar.specs.ParseExpr.{numeral}
use Rattle.grammar.specs.Shape.{BindersCoded, KindCoded, Coded, CodedAll, depth, depths, opens_scope, scopes, scopes_in, scopes_all}
use Rattle.grammar.proofs.AnswerHolds.{AllRows, IfThere, lookup-holds}
use Rattle.grammar.proofs.WalkKeeps.{BindersOf, Kept}

-- The numbers of the open scopes are below n.
abbrev pub ScopesBelow : List Scope → ℕ → Type 0
ScopesBelow [] n = Unit {0}
ScopesBelow (s ∷ sc) n = (s.first + length s.names ≤ n) × ScopesBelow sc n

pub record Small (t : Tree) (sc : List Scope) (n : ℕ) (e : Expr) (m : ℕ) : Type 0 where
  pub rises : n ≤ m
  pub deep : depth e ≤ nesting t + 2
  pub opens : scopes e ≤ nesting t - 1
  pub coded : (limit : ℕ) → Within t limit → ScopesBelow sc n → Coded e limit m

pub record SmallAll (ts : Trees) (sc : List Scope) (n : ℕ) (es : Exprs) (m : ℕ) : Type 0 where
  pub rises : n ≤ m
  pub deep : depths es ≤ nestings ts + 2
  pub opens : scopes_all es ≤ nestings ts - 1
  pub coded : (limit : ℕ) → AllWithin ts limit → ScopesBelow sc n → CodedAll es limit m

scopes-more : (sc : List Scope) (n m : ℕ) → n ≤ m → ScopesBelow sc n → ScopesBelow sc m
scopes-more [] n m l h = tt
scopes-more (s ∷ sc) n m l h = (omega (arith, h.0), scopes-more sc n m l h.1)

-- A larger bound of the fresh numbers.
binders-more : (bs : List Binder) (limit n m : ℕ) → n ≤ m → BindersCoded bs limit n → BindersCoded bs limit m
binders-more [] limit n m l h = tt
binders-more (b ∷ bs) limit n m l h = (omega (arith, h.0), h.1, binders-more bs limit n m l h.2)

kind-more : (k : Kind) (limit n m : ℕ) → n ≤ m → KindCoded k limit n → KindCoded k limit m
kind-more (k_num v) limit n m l h = tt
kind-more (k_bool b) limit n m l h = tt
kind-more (k_str s) limit n m l h = h
kind-more (k_bit_vec v width) limit n m l h = tt
kind-more (k_fresh k) limit n m l h = omega arith
kind-more (k_named x) limit n m l h = h
kind-more k_neg limit n m l h = tt
kind-more (k_bin op) limit n m l h = tt
kind-more k_if limit n m l h = tt
kind-more k_and limit n m l h = tt
kind-more k_or limit n m l h = tt
kind-more k_not limit n m l h = tt
kind-more k_imp limit n m l h = tt
kind-more k_iff limit n m l h = tt
kind-more (k_atom r) limit n m l h = tt
kind-more (k_let x) limit n m l h = h
kind-more (k_theory k) limit n m l h = h
kind-more (k_is_ctor x) limit n m l h = h
kind-more (k_exists bs) limit n m l h = binders-more bs limit n m l h
kind-more (k_let_fresh k) limit n m l h = omega arith

mutual
  pub coded-more : (e : Expr) (limit n m : ℕ) → n ≤ m → Coded e limit n → Coded e limit m
  coded-more (node k es) limit n m l h = (h.0, kind-more k limit n m l h.1, coded-all-more es limit n m l h.2)
  coded-more (app o es h) limit n m l c = (coded-all-more es limit n m l c.0, c.1, coded-more h limit n m l c.2)

  pub coded-all-more : (es : Exprs) (limit n m : ℕ) → n ≤ m → CodedAll es limit n → CodedAll es limit m
  coded-all-more enil limit n m l h = tt
  coded-all-more (econs e es) limit n m l h = (coded-more e limit n m l h.0, coded-all-more es limit n m l h.1)

-- All numbers of a table are below a bound, by a test that computes.
unfoldable all_below : ℕ → List (Named ℕ) → Bool
all_below m [] = true
all_below m (named s k ∷ rows) = pick (ltb k m) (all_below m rows) false

all-below : (m : ℕ) (rows : List (Named ℕ)) → all_below m rows ≡ true → AllRows rows (λ _ k. k < m)
unfolding all_below pick
all-below m [] e = tt
all-below m (named s k ∷ rows) e = go (ltb k m) refl e (all-below m rows)
  where
    go : (t : Bool) → ltb k m ≡ t → pick t (all_below m rows) false ≡ true → (all_below m rows ≡ true → AllRows rows (λ _ j. j < m)) → (k < m) × AllRows rows (λ _ j. j < m)
    go true q h ih = (ltb-true k m q, ih h)
    go false q h ih = absurd (false≢true h)

theory-below : AllRows theory (λ _ k. k < 42)
unfolding theory all_below pick
theory-below = all-below 42 theory refl

-- A kind that opens no scope: no more than its operands open.
quiet_opens : (n more : ℕ) (es : Exprs) → more ≡ 0 → scopes_in n more es ≤ scopes_all es
unfolding scopes
quiet_opens n more enil z = omega (arith, z)
quiet_opens zero more (econs e es) z = omega (arith, z, quiet_opens zero more es z)
quiet_opens (suc n) more (econs e es) z = omega (arith, quiet_opens n more es z)

-- The scope of a let is open in its body, which stands in its list like its pair.
let-opens : (v b u t most : ℕ) → 1 ≤ u → v ≤ u - 1 → b ≤ t - 1 → u ≤ most → t ≤ most → max v (max (1 + b) 1) ≤ suc most - 1
let-opens v b u t most l x y p q = omega arith

small-leaf : (t : Tree) (sc : List Scope) (n : ℕ) (k : Kind) → scopes (leaf k) ≡ 0 → ((limit : ℕ) → Within t limit → ScopesBelow sc n → Coded (leaf k) limit n) → Small t sc n (leaf k) n
unfolding depth
small-leaf t sc n k o c = record { rises = omega arith; deep = omega arith; opens = omega (arith, o); coded = c }

module _ (text : List ℕ) where
  among : (s : Span) (xs : List Span) (k : ℕ) → IfThere (Scope.number_among text s xs k) (λ j. j < k + length xs)
  unfolding Scope.number_among
  among s [] k = tt
  among s (x ∷ xs) k =
      pick-holds (Scope.same_name text s x) (just k) (Scope.number_among text s xs (suc k)) (λ m. IfThere m (λ j. j < k + suc (length xs))) (omega arith) (later (Scope.number_among text s xs (suc k)) (among s xs (suc k)))
    where
      later : (m : Maybe ℕ) → IfThere m (λ j. j < suc k + length xs) → IfThere m (λ j. j < k + suc (length xs))
      later nothing h = tt
      later (just j) h = omega arith

  number_in_lem : (s : Span) (sc : List Scope) (n : ℕ) → ScopesBelow sc n → IfThere (Scope.number_in text s sc) (λ j. j < n)
  unfolding Scope.number_in
  number_in_lem s [] n h = tt
  number_in_lem s (x ∷ sc) n h = first (Scope.number_among text s x.names x.first) (Scope.number_in text s sc) (among s x.names x.first) (number_in_lem s sc n h.1)
    where
      first : (m m' : Maybe ℕ) → IfThere m (λ j. j < x.first + length x.names) → IfThere m' (λ j. j < n) → IfThere (or_else m m') (λ j. j < n)
      first nothing nothing p q = tt
      first nothing (just j) p q = q
      first (just j) m' p q = omega (arith, h.0)

  on-symbol : (s : Span) (sc : List Scope) (n : ℕ) → Small (atom (symbol s)) sc n (Scope.symbol_expr text s sc) n
  unfolding Scope.symbol_expr scopes exprs
  on-symbol s sc n = go (lookup theory (bytes_at text s)) (lookup-holds theory (bytes_at text s) (λ _ k. k < 42) theory-below)
    where
      named_or : (m : Maybe ℕ) → (ScopesBelow sc n → IfThere m (λ j. j < n)) → Small (atom (symbol s)) sc n (Scope.or_named text s m) n
      named_or nothing h = small-leaf (atom (symbol s)) sc n (k_named (record { span = s })) refl (λ limit w b. (refl, w, tt))
      named_or (just j) h = small-leaf (atom (symbol s)) sc n (k_fresh j) refl (λ limit w b. (refl, h b, tt))

      go : (m : Maybe ℕ) → IfThere m (λ k. k < 42) → Small (atom (symbol s)) sc n (Scope.or_variable text s sc m) n
      go (just k) h = small-leaf (atom (symbol s)) sc n (k_theory k) refl (λ limit w b. (refl, h, tt))
      go nothing h = named_or (Scope.number_in text s sc) (λ b. number_in_lem s sc n b)

  on-integer : (w : Wide) (sc : List Scope) (n : ℕ) → Small (atom (integer w)) sc n (numeral w) n
  unfolding numeral depth scopes exprs
  on-integer w sc n =
      pick-holds (ltb (value_of w) (2 ^ 127)) (leaf (k_num w)) (node k_neg (one_of (leaf (k_num (minus_of w))))) (λ e. Small (atom (integer w)) sc n e n)
      (small-leaf (atom (integer w)) sc n (k_num w) refl (λ limit i b. (refl, tt, tt)))
      (record { rises = omega arith; deep = omega arith; opens = omega arith; coded = λ limit i b. (refl, tt, ((refl, tt, tt), tt)) })

  on-exists : (s v : Tree) (ts : Trees) (sc : List Scope) (n m : ℕ) (names : List Span) (sorts : List Sort) (e : Expr) → BindersOf v names sorts → SmallAll ts (record { names = names; first = n } ∷ sc) (n + length sorts) (one_of e) m
      → Small (list (tcons s (tcons v ts))) sc n (node (k_exists (numbered n sorts)) (one_of e)) m
  unfolding depth scopes nesting exprs
  on-exists s v ts sc n m names sorts e b h =
      record {
        rises = omega (arith, h.rises);
        deep = omega (arith, h.deep);
        opens = omega (arith, h.opens, b.nests);
        coded = λ limit w below. (refl, b.coded limit m n w.1.0 h.rises, h.coded limit w.1.1 (omega (arith, b.even), scopes-more sc n (n + length sorts) (omega arith) below));
      }

  on-let : (s u : Tree) (ts : Trees) (sc : List Scope) (n m p : ℕ) (x : Span) (v b : Expr) → 1 ≤ nesting u → Small u sc n v m → SmallAll ts (record { names = x ∷ []; first = m } ∷ sc) (m + 1) (one_of b) p
      → Small (list (tcons s (tcons u ts))) sc n (node (k_let_fresh m) (econs v (one_of b))) p
  unfolding depth scopes nesting exprs
  on-let s u ts sc n m p x v b l g h =
      record {
        rises = omega (arith, g.rises, h.rises);
        deep = omega (arith, g.deep, h.deep);
        opens = let-opens (scopes v) (scopes b) (nesting u) (nestings ts) (max (nesting s) (max (nesting u) (nestings ts))) l g.opens (omega (arith, h.opens)) (omega arith) (omega arith);
        coded = λ limit w below.
            (refl, omega (arith, h.rises), (coded-more v limit m p (omega (arith, h.rises)) (g.coded limit w.1.0 below), h.coded limit w.1.1 (omega arith, scopes-more sc n (m + 1) (omega (arith, g.rises)) below)));
      }

  -- Every expression that the parser builds is small.
  pub small : Kept text Small SmallAll
  unfolding depth scopes nesting exprs
  small =
      record {
        on_symbol = on-symbol;
        on_quoted = λ s sc n. small-leaf (atom (quoted s)) sc n (k_str s) refl (λ limit w b. (refl, w, tt));
        on_integer = on-integer;
        on_boolean = λ b sc n. small-leaf (atom (boolean b)) sc n (k_bool b) refl (λ limit w i. (refl, tt, tt));
        none = λ ts sc n. record { rises = omega arith; deep = omega arith; opens = omega arith; coded = λ limit w b. tt };
        more = λ t ts sc n m p e es h k.
            record {
              rises = omega (arith, h.rises, k.rises);
              deep = omega (arith, h.deep, k.deep);
              opens = omega (arith, h.opens, k.opens);
              coded = λ limit w b. (coded-more e limit m p k.rises (h.coded limit w.0 b), k.coded limit w.1 (scopes-more sc n m h.rises b));
            };
        skip = λ t ts sc n m es h. record { rises = h.rises; deep = omega (arith, h.deep); opens = omega (arith, h.opens); coded = λ limit w b. h.coded limit w.1 b };
        item = λ ts sc n m e h. record { rises = h.rises; deep = omega (arith, h.deep); opens = omega (arith, h.opens); coded = λ limit w b. (h.coded limit w b).0 };
        on_node = λ ts sc n m k es p a h.
            record { rises = h.rises; deep = omega (arith, h.deep); opens = omega (arith, h.opens, quiet_opens (outside k) (opens_scope k) es p.opens); coded = λ limit w b. (a, p.coded limit m w, h.coded limit w b) };
        on_call = λ t ts sc n m p es h x y.
            record {
              rises = omega (arith, x.rises, y.rises);
              deep = omega (arith, x.deep, y.deep);
              opens = omega (arith, x.opens, y.opens);
              coded = λ limit w b. (coded-all-more es limit m p y.rises (x.coded limit w.1 b), tt, y.coded limit w.0 (scopes-more sc n m x.rises b));
            };
        on_as = λ t ts sc n m o e s h.
            record {
              rises = h.rises;
              deep = omega (arith, h.deep);
              opens = omega (arith, h.opens);
              coded = λ limit w b. (tt, s.coded limit w.0, (h.coded limit w.1 b).0);
            };
        on_exists = on-exists;
        on_let = on-let;
      }
