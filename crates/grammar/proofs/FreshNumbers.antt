-- The fresh numbers of what the parser builds: each of the numbers taken is bound once, and each that is used is bound round its use.
use Prim.Native.Nat.{ℕ, zero, suc, ◌+◌, ◌^◌, ◌≤◌}
use mathlib.Core.Path.{◌≡◌, refl, sym, ap, subst, ◌∙◌}
use mathlib.Core.Logic.{inl, inr}
use mathlib.Core.List.{List, [], ◌∷◌, ◌++◌, append-nil}
use native.Mathlib.Omega.{arith}
use lib.Dec.{ltb}
use lib.ListN.{length}
use Rattle.reading.specs.Bytes.{Span, bytes_at, Maybe, nothing, just, lookup}
use Rattle.reading.specs.Number.{Wide, value_of, minus_of}
use Rattle.reading.specs.Tree.{symbol, quoted, integer, boolean, Tree, Trees, atom, list, tcons, nesting}
use Rattle.reading.proofs.Picks.{pick-holds}
use Rattle.grammar.specs.Sort.{Sort, sort_words}
use Rattle.grammar.specs.Item.{Item, raise, used, bound}
use Rattle.grammar.specs.Expr.{Kind, k_num, k_bool, k_str, k_neg, k_named, k_theory, k_exists, k_let_fresh, Expr, Exprs, node, leaf, one_of, enil, econs, exprs, kind_items, outside, binder_items, expr_items, exprs_items, out_sort}
use Rattle.grammar.specs.Names.{theory}
use Rattle.grammar.specs.Scope
use Rattle.grammar.specs.Scope.{Scope, numbered, or_else}
use Rattle.grammar.specs.ParseExpr.{numeral}
use Rattle.grammar.specs.Numbers.{In, Exactly}
use Rattle.grammar.specs.Scoped.{Scoped, ScopedIn, ScopedAll}
use Rattle.grammar.proofs.Items.{bound_append, bound-front, used-front}
use Rattle.grammar.proofs.SameNumbers.{same_swap, exactly_same}
use Rattle.grammar.proofs.Exact.{up_from, exactly_up, exactly_none, exactly_append, plus, bound-raise, used-raise, plus-up}
use Rattle.grammar.proofs.AnswerHolds.{IfThere}
use Rattle.grammar.proofs.WalkKeeps.{BindersOf, Kept}

-- The numbers of the open scopes, raised by c.
unfoldable pub runs : ℕ → List Scope → List ℕ
runs c [] = []
runs c (s ∷ sc) = up_from (c + s.first) (length s.names) ++ runs c sc

abbrev pub Good : Tree → List Scope → ℕ → Expr → ℕ → Type 0
Good t sc n e m = Exactly n (bound (expr_items e)) m × ((c : ℕ) → Scoped e c (runs c sc))

abbrev pub GoodAll : Trees → List Scope → ℕ → Exprs → ℕ → Type 0
GoodAll ts sc n es m = Exactly n (bound (exprs_items es)) m × ((c : ℕ) → ScopedAll es c (runs c sc))

pub in_left : (k : ℕ) (l r : List ℕ) → In k l → In k (l ++ r)
in_left k [] r h = absurd h
in_left k (x ∷ xs) r (inl e) = inl e
in_left k (x ∷ xs) r (inr h) = inr (in_left k xs r h)

pub in_right : (k : ℕ) (l r : List ℕ) → In k r → In k (l ++ r)
in_right k [] r h = h
in_right k (x ∷ xs) r h = inr (in_right k xs r h)

both : (a b : List Item) (n m p : ℕ) → Exactly n (bound a) m → Exactly m (bound b) p → Exactly n (bound (a ++ b)) p
both a b n m p x y = rw (bound_append a b) (exactly_append n m p (bound a) (bound b) x y)

-- The numbers of binders that are numbered from k on.
pub bound-numbered : (k : ℕ) (ss : List Sort) → bound (binder_items (numbered k ss)) ≡ up_from k (length ss)
unfolding bound binder_items numbered up_from
bound-numbered k [] = refl
bound-numbered k (s ∷ ss) = ap (λ l. k ∷ l) (bound-front (sort_words s) (binder_items (numbered (suc k) ss)) ∙ bound-numbered (suc k) ss)

pub used-numbered : (k : ℕ) (ss : List Sort) → used (binder_items (numbered k ss)) ≡ []
unfolding used binder_items numbered
used-numbered k [] = refl
used-numbered k (s ∷ ss) = used-front (sort_words s) (binder_items (numbered (suc k) ss)) ∙ used-numbered (suc k) ss

-- A node whose kind binds and uses nothing.
quiet_node : (k : Kind) (es : Exprs) (n m : ℕ) → bound (kind_items k (exprs es)) ≡ [] → Exactly n (bound (exprs_items es)) m → Exactly n (bound (expr_items (node k es))) m
unfolding expr_items
quiet_node k es n m b x = rw (bound_append (kind_items k (exprs es)) (exprs_items es), b) x

-- Operands that are scoped inside and outside alike.
scoped_in : (n : ℕ) (es : Exprs) (c : ℕ) (around : List ℕ) → ScopedAll es c around → ScopedIn n es c around around
scoped_in n enil c around h = tt
scoped_in zero (econs e es) c around h = (h.0, scoped_in zero es c around h.1)
scoped_in (suc n) (econs e es) c around h = (h.0, scoped_in n es c around h.1)

quiet_scoped : (k : Kind) (es : Exprs) (c : ℕ) (around : List ℕ) → used (kind_items k (exprs es)) ≡ [] → bound (kind_items k (exprs es)) ≡ [] → ScopedAll es c around → Scoped (node k es) c around
unfolding plus
quiet_scoped k es c around u b h =
    let ue : used (raise c (kind_items k (exprs es))) ≡ [] = used-raise c (kind_items k (exprs es)) ∙ ap (plus c) u in
    let be : bound (raise c (kind_items k (exprs es))) ≡ [] = bound-raise c (kind_items k (exprs es)) ∙ ap (plus c) b in
    (rw ue tt, rw be (scoped_in (outside k) es c around h))

quiet_leaf : (k : Kind) (n : ℕ) (sc : List Scope) (t : Tree) → used (kind_items k 0) ≡ [] → bound (kind_items k 0) ≡ [] → Good t sc n (leaf k) n
unfolding exprs expr_items bound
quiet_leaf k n sc t u b = (quiet_node k enil n n b (exactly_none n), λ c. quiet_scoped k enil c (runs c sc) u b tt)

if_sort : (o : Maybe Sort) (its : List Item) → bound (out_sort o ++ its) ≡ bound its
if_sort nothing its = refl
if_sort (just s) its = bound-front (sort_words s) its

module _ (text : List ℕ) where
  -- A name that is found in a scope has one of its numbers.
  among : (s : Span) (xs : List Span) (k : ℕ) → IfThere (Scope.number_among text s xs k) (λ j. (c : ℕ) → In (c + j) (up_from (c + k) (length xs)))
  unfolding Scope.number_among up_from
  among s [] k = tt
  among s (x ∷ xs) k =
      pick-holds (Scope.same_name text s x) (just k) (Scope.number_among text s xs (suc k)) (λ m. IfThere m (λ j. (c : ℕ) → In (c + j) (up_from (c + k) (suc (length xs))))) (λ c. inl refl)
      (later (Scope.number_among text s xs (suc k)) (among s xs (suc k)))
    where
      later : (m : Maybe ℕ) → IfThere m (λ j. (c : ℕ) → In (c + j) (up_from (c + suc k) (length xs))) → IfThere m (λ j. (c : ℕ) → In (c + j) (up_from (c + k) (suc (length xs))))
      later nothing h = tt
      later (just j) h = λ c. let e : c + suc k ≡ suc (c + k) = omega arith in inr (rw e at (h c))

  number_in_lem : (s : Span) (sc : List Scope) → IfThere (Scope.number_in text s sc) (λ j. (c : ℕ) → In (c + j) (runs c sc))
  unfolding Scope.number_in runs
  number_in_lem s [] = tt
  number_in_lem s (x ∷ sc) = first (Scope.number_among text s x.names x.first) (Scope.number_in text s sc) (among s x.names x.first) (number_in_lem s sc)
    where
      first : (m m' : Maybe ℕ) → IfThere m (λ j. (c : ℕ) → In (c + j) (up_from (c + x.first) (length x.names))) → IfThere m' (λ j. (c : ℕ) → In (c + j) (runs c sc)) → IfThere (or_else m m') (λ j. (c : ℕ) → In (c + j) (runs c (x ∷ sc)))
      first nothing nothing h h' = tt
      first nothing (just j) h h' = λ c. in_right (c + j) (up_from (c + x.first) (length x.names)) (runs c sc) (h' c)
      first (just j) m' h h' = λ c. in_left (c + j) (up_from (c + x.first) (length x.names)) (runs c sc) (h c)

  or_named_lem : (s : Span) (t : Tree) (sc : List Scope) (n : ℕ) (m : Maybe ℕ) → IfThere m (λ j. (c : ℕ) → In (c + j) (runs c sc)) → Good t sc n (Scope.or_named text s m) n
  unfolding kind_items used bound expr_items raise exprs
  or_named_lem s t sc n nothing h = quiet_leaf (k_named (record { span = s })) n sc t refl refl
  or_named_lem s t sc n (just k) h = (exactly_none n, λ c. ((h c, tt), tt))

  on-symbol : (s : Span) (sc : List Scope) (n : ℕ) → Good (atom (symbol s)) sc n (Scope.symbol_expr text s sc) n
  unfolding Scope.symbol_expr kind_items used bound
  on-symbol s sc n = go (lookup theory (bytes_at text s))
    where
      go : (m : Maybe ℕ) → Good (atom (symbol s)) sc n (Scope.or_variable text s sc m) n
      go (just k) = quiet_leaf (k_theory k) n sc (atom (symbol s)) refl refl
      go nothing = or_named_lem s (atom (symbol s)) sc n (Scope.number_in text s sc) (number_in_lem s sc)

  on-integer : (w : Wide) (sc : List Scope) (n : ℕ) → Good (atom (integer w)) sc n (numeral w) n
  unfolding numeral kind_items used bound expr_items exprs
  on-integer w sc n =
      pick-holds (ltb (value_of w) (2 ^ 127)) (leaf (k_num w)) (node k_neg (one_of (leaf (k_num (minus_of w))))) (λ e. Good (atom (integer w)) sc n e n)
      (quiet_leaf (k_num w) n sc (atom (integer w)) refl refl)
      (exactly_none n, λ c. quiet_scoped k_neg (one_of (leaf (k_num (minus_of w)))) c (runs c sc) refl refl (quiet_scoped (k_num (minus_of w)) enil c (runs c sc) refl refl tt, tt))

  on-exists : (s v : Tree) (ts : Trees) (sc : List Scope) (n m : ℕ) (names : List Span) (sorts : List Sort) (e : Expr) → BindersOf v names sorts → GoodAll ts (record { names = names; first = n } ∷ sc) (n + length sorts) (one_of e) m
      → Good (list (tcons s (tcons v ts))) sc n (node (k_exists (numbered n sorts)) (one_of e)) m
  unfolding kind_items expr_items exprs bound used raise runs plus
  on-exists s v ts sc n m names sorts e b h =
      let its : List Item = binder_items (numbered n sorts) in
      let run : Exactly n (bound its) (n + length sorts) = rw (bound-numbered n sorts) (exactly_up n (length sorts)) in
      let be : (c : ℕ) → bound (raise c its) ≡ up_from (c + n) (length names) = λ c. bound-raise c its ∙ ap (plus c) (bound-numbered n sorts) ∙ plus-up c n (length sorts) ∙ ap (up_from (c + n)) (sym b.even) in
      let ue : (c : ℕ) → used (raise c its) ≡ [] = λ c. used-raise c its ∙ ap (plus c) (used-numbered n sorts) in
      (both its (expr_items e ++ []) n (n + length sorts) m run h.0, λ c. (rw (ue c) tt, rw (be c) (h.1 c)))

  -- A let takes its number between those of its binding and those of its body, and writes it in front of both.
  on-let : (s u : Tree) (ts : Trees) (sc : List Scope) (n m p : ℕ) (x : Span) (v b : Expr) → 1 ≤ nesting u → Good u sc n v m → GoodAll ts (record { names = x ∷ []; first = m } ∷ sc) (m + 1) (one_of b) p
      → Good (list (tcons s (tcons u ts))) sc n (node (k_let_fresh m) (econs v (one_of b))) p
  unfolding kind_items expr_items exprs bound used raise runs up_from
  on-let s u ts sc n m p x v b l g h =
      let own : Exactly m (m ∷ []) (m + 1) = exactly_up m 1 in
      let inner : Exactly m (m ∷ bound (expr_items b ++ [])) p = exactly_append m (m + 1) p (m ∷ []) (bound (expr_items b ++ [])) own h.0 in
      let all : Exactly n (bound (expr_items v) ++ (m ∷ bound (expr_items b ++ []))) p = exactly_append n m p (bound (expr_items v)) (m ∷ bound (expr_items b ++ [])) g.0 inner in (
        rw (bound_append (expr_items v) (expr_items b ++ [])) (exactly_same n (m ∷ (bound (expr_items v) ++ bound (expr_items b ++ []))) (bound (expr_items v) ++ (m ∷ bound (expr_items b ++ []))) p (same_swap (m ∷ []) (bound (expr_items v)) (bound (expr_items b ++ []))) all),
        λ c. (tt, (g.1 c, h.1 c)),
      )

  -- Every expression that the parser builds is good.
  pub good : Kept text Good GoodAll
  unfolding kind_items used bound expr_items exprs
  good =
      record {
        on_symbol = on-symbol;
        on_quoted = λ s sc n. quiet_leaf (k_str s) n sc (atom (quoted s)) refl refl;
        on_integer = on-integer;
        on_boolean = λ b sc n. quiet_leaf (k_bool b) n sc (atom (boolean b)) refl refl;
        none = λ ts sc n. (exactly_none n, λ c. tt);
        more = λ t ts sc n m p e es h k. (both (expr_items e) (exprs_items es) n m p h.0 k.0, λ c. (h.1 c, k.1 c));
        skip = λ t ts sc n m es h. h;
        item = λ ts sc n m e h. (subst (λ (l : List Item). Exactly n (bound l) m) (append-nil (expr_items e)) h.0, λ c. (h.1 c).0);
        on_node = λ ts sc n m k es p a h. (quiet_node k es n m (p.binds (exprs es)) h.0, λ c. quiet_scoped k es c (runs c sc) (p.uses (exprs es)) (p.binds (exprs es)) (h.1 c));
        on_call = λ t ts sc n m p es h x y. (both (exprs_items es) (expr_items h) n m p x.0 y.0, λ c. (x.1 c, y.1 c));
        on_as = λ t ts sc n m o e s h. (rw (if_sort (just o) (expr_items e)) (subst (λ (l : List Item). Exactly n (bound l) m) (append-nil (expr_items e)) h.0), λ c. (tt, (h.1 c).0));
        on_exists = on-exists;
        on_let = on-let;
      }
