-- In the body of a let its name means its own number, and nothing else.
use Prim.Native.Nat.{ℕ, suc, ◌+◌, ◌^◌, ◌≤◌}
use mathlib.Core.Path.{◌≡◌, refl, sym, ap, subst, ◌∙◌}
use mathlib.Core.Bool.{Bool, true, false, false≢true}
use mathlib.Core.Logic.{◌⊎◌, inl, inr}
use mathlib.Core.List.{List, [], ◌∷◌, ◌++◌, append-nil}
use native.Mathlib.Omega.{arith}
use lib.Dec.{ltb}
use lib.ListN.{length}
use Rattle.reading.specs.Pick.{pick}
use Rattle.reading.specs.Bytes.{ascii, same_bytes, Span, bytes_at, Maybe, nothing, just, lookup}
use Rattle.reading.specs.Number.{Wide, value_of, minus_of}
use Rattle.reading.specs.Tree.{symbol, integer, Tree, Trees, atom, list, tnil, tcons}
use Rattle.reading.specs.Answer.{got}
use Rattle.reading.proofs.Picks.{pick-holds}
use Rattle.grammar.specs.Sort.{sort_words}
use Rattle.grammar.specs.Item.{used}
use Rattle.grammar.specs.Expr.{k_num, k_neg, Expr, Exprs, node, leaf, one_of, exprs, kind_items, expr_items, exprs_items, binder_items}
use Rattle.grammar.specs.Names.{theory}
use Rattle.grammar.specs.Scope
use Rattle.grammar.specs.Scope.{Scope, numbered, or_else}
use Rattle.grammar.specs.Numbers.{In}
use Rattle.grammar.specs.ParseExpr
use Rattle.grammar.specs.ParseExpr.{numeral, child_at, nested_at, let_form, atom_child}
use Rattle.grammar.specs.Lets.{Each, names_in, names_in_all, numbers_of, Apart, LetBinds, LetsBind}
use Rattle.grammar.proofs.Items.{used_append, used-front}
use Rattle.grammar.proofs.AnswerHolds.{Post, IfThere, chain_post}
use Rattle.grammar.proofs.WalkKeeps.{Kept}
use Rattle.grammar.proofs.FreshNumbers.{used-numbered}
use Rattle.grammar.proofs.ScopeNumbers.{meant_of, apart_below, apart-name}
use Rattle.grammar.proofs.Walk.{child_of}
use Rattle.grammar.proofs.OtherRule.{let-form}

-- What holds of each of two lists holds of each of both; and what follows from it.
each_append : {A : Type 0} (P : A → Type 0) (a b : List A) → Each P a → Each P b → Each P (a ++ b)
each_append P [] b h k = k
each_append P (x ∷ a) b h k = (h.0, each_append P a b h.1 k)

each_map : {A : Type 0} (P Q : A → Type 0) (l : List A) → ((a : A) → P a → Q a) → Each P l → Each Q l
each_map P Q [] f h = tt
each_map P Q (x ∷ l) f h = (f x h.0, each_map P Q l f h.1)

some-none : {j : ℕ} → ◌≡◌ {A = Maybe ℕ} (just j) nothing → ⊥
some-none e = let z : ◌≡◌ {A = ℕ} 0 1 = cc in omega arith

module _ (text : List ℕ) where
  -- ---- names in open scopes

  -- A number that some name means.
  record Means (sc : List Scope) (j : ℕ) : Type 0 where
    name : Span
    means : Scope.number_in text name sc ≡ just j

  -- A name that none of the scopes has.
  abbrev Absent : List Scope → Span → Type 0
  Absent sc x = Scope.number_in text x sc ≡ nothing

  -- A number that was taken from n on, or that some name means.
  abbrev Known : List Scope → ℕ → ℕ → Type 0
  Known sc n j = (n ≤ j) ⊎ Means sc j

  known-later : (sc : List Scope) (n m : ℕ) → n ≤ m → (j : ℕ) → Known sc m j → Known sc n j
  known-later sc n m l j (inl h) = inl (omega (arith, h))
  known-later sc n m l j (inr h) = inr h

  among-least : (x : Span) (xs : List Span) (k : ℕ) → IfThere (Scope.number_among text x xs k) (λ j. k ≤ j)
  unfolding Scope.number_among
  among-least x [] k = tt
  among-least x (y ∷ xs) k =
      pick-holds (Scope.same_name text x y) (just k) (Scope.number_among text x xs (suc k)) (λ m. IfThere m (λ j. k ≤ j)) (omega arith) (later (Scope.number_among text x xs (suc k)) (among-least x xs (suc k)))
    where
      later : (m : Maybe ℕ) → IfThere m (λ j. suc k ≤ j) → IfThere m (λ j. k ≤ j)
      later nothing h = tt
      later (just j) h = omega (arith, h)

  -- What a name means inside one scope more: a number of that scope, or what it means round it.
  none_first : (a b : Maybe ℕ) → or_else a b ≡ nothing → (a ≡ nothing) × (b ≡ nothing)
  none_first nothing b e = (refl, e)
  none_first (just j) b e = (e, absurd (some-none e))

  absent_round : (s : Scope) (sc : List Scope) (x : Span) → Absent (s ∷ sc) x → Absent sc x
  unfolding Scope.number_in
  absent_round s sc x h = (none_first (Scope.number_among text x s.names s.first) (Scope.number_in text x sc) h).1

  means_round : (s : Scope) (sc : List Scope) (x : Span) (j : ℕ) → Scope.number_in text x (s ∷ sc) ≡ just j
      → (s.first ≤ j) ⊎ ((Scope.number_among text x s.names s.first ≡ nothing) × (Scope.number_in text x sc ≡ just j))
  unfolding Scope.number_in
  means_round s sc x j h = go (Scope.number_among text x s.names s.first) refl (among-least x s.names s.first) h
    where
      go : (a : Maybe ℕ) → Scope.number_among text x s.names s.first ≡ a → IfThere a (λ i. s.first ≤ i) → or_else a (Scope.number_in text x sc) ≡ just j
          → (s.first ≤ j) ⊎ ((Scope.number_among text x s.names s.first ≡ nothing) × (Scope.number_in text x sc ≡ just j))
      go nothing q l e = inr (q, e)
      go (just i) q l e = let z : i ≡ j = cc in inl (omega (arith, l))

  known_round : (s : Scope) (sc : List Scope) (n m : ℕ) → n ≤ s.first → n ≤ m → (j : ℕ) → Known (s ∷ sc) m j → Known sc n j
  known_round s sc n m l k j (inl h) = inl (omega (arith, h))
  known_round s sc n m l k j (inr h) = go (means_round s sc h.name j h.means)
    where
      go : (s.first ≤ j) ⊎ ((Scope.number_among text h.name s.names s.first ≡ nothing) × (Scope.number_in text h.name sc ≡ just j)) → Known sc n j
      go (inl f) = inl (omega (arith, f))
      go (inr f) = inr (record { name = h.name; means = f.1 })

  -- ---- what is read under open scopes: no name of a scope is a named variable of it, and its numbers are known

  record Reads (sc : List Scope) (n : ℕ) (names : List Span) (numbers : List ℕ) (m : ℕ) : Type 0 where
    rises : n ≤ m
    absent : Each (Absent sc) names
    known : Each (Known sc n) numbers

  abbrev Inv : Tree → List Scope → ℕ → Expr → ℕ → Type 0
  Inv t sc n e m = Reads sc n (names_in e) (used (expr_items e)) m

  abbrev InvAll : Trees → List Scope → ℕ → Exprs → ℕ → Type 0
  InvAll ts sc n es m = Reads sc n (names_in_all es) (used (exprs_items es)) m

  nothing_read : (sc : List Scope) (n : ℕ) → Reads sc n [] [] n
  nothing_read sc n = record { rises = omega arith; absent = tt; known = tt }

  both_read : (sc : List Scope) (n m p : ℕ) (a b : List Span) (i j : List ℕ) → Reads sc n a i m → Reads sc m b j p → Reads sc n (a ++ b) (i ++ j) p
  both_read sc n m p a b i j h k =
      record {
        rises = omega (arith, h.rises, k.rises);
        absent = each_append (Absent sc) a b h.absent k.absent;
        known = each_append (Known sc n) i j h.known (each_map (Known sc m) (Known sc n) j (known-later sc n m h.rises) k.known);
      }

  inside-read : (s : Scope) (sc : List Scope) (n m p : ℕ) (a : List Span) (i : List ℕ) → n ≤ s.first → n ≤ m → Reads (s ∷ sc) m a i p → Reads sc n a i p
  inside-read s sc n m p a i l k h =
      record {
        rises = omega (arith, h.rises);
        absent = each_map (Absent (s ∷ sc)) (Absent sc) a (absent_round s sc) h.absent;
        known = each_map (Known (s ∷ sc) m) (Known sc n) i (known_round s sc n m l k) h.known;
      }

  -- One expression among several.
  lone_read : (sc : List Scope) (n m : ℕ) (e : Expr) → Reads sc n (names_in_all (one_of e)) (used (exprs_items (one_of e))) m → Reads sc n (names_in e) (used (expr_items e)) m
  unfolding names_in_all exprs_items
  lone_read sc n m e h =
      subst (λ (a : List Span). Reads sc n a (used (expr_items e)) m) (append-nil (names_in e))
      (subst (λ (l : List ℕ). Reads sc n (names_in e ++ []) l m) (ap used (append-nil (expr_items e))) h)

  on-symbol : (s : Span) (sc : List Scope) (n : ℕ) → Inv (atom (symbol s)) sc n (Scope.symbol_expr text s sc) n
  unfolding Scope.symbol_expr names_in expr_items kind_items used exprs
  on-symbol s sc n = go (lookup theory (bytes_at text s))
    where
      named_or : (m : Maybe ℕ) → Scope.number_in text s sc ≡ m → Inv (atom (symbol s)) sc n (Scope.or_named text s m) n
      named_or nothing e = record { rises = omega arith; absent = (e, tt); known = tt }
      named_or (just j) e = record { rises = omega arith; absent = tt; known = (inr (record { name = s; means = e }), tt) }

      go : (m : Maybe ℕ) → Inv (atom (symbol s)) sc n (Scope.or_variable text s sc m) n
      go (just k) = nothing_read sc n
      go nothing = named_or (Scope.number_in text s sc) refl

  on-integer : (w : Wide) (sc : List Scope) (n : ℕ) → Inv (atom (integer w)) sc n (numeral w) n
  unfolding numeral names_in expr_items kind_items used exprs
  on-integer w sc n =
      pick-holds (ltb (value_of w) (2 ^ 127)) (leaf (k_num w)) (node k_neg (one_of (leaf (k_num (minus_of w))))) (λ e. Inv (atom (integer w)) sc n e n) (nothing_read sc n) (nothing_read sc n)

  read_so : Kept text Inv InvAll
  unfolding names_in expr_items kind_items used exprs
  read_so =
      record {
        on_symbol = on-symbol;
        on_quoted = λ s sc n. nothing_read sc n;
        on_integer = on-integer;
        on_boolean = λ b sc n. nothing_read sc n;
        none = λ ts sc n. nothing_read sc n;
        more = λ t ts sc n m p e es h k. rw (used_append (expr_items e) (exprs_items es)) (both_read sc n m p (names_in e) (names_in_all es) (used (expr_items e)) (used (exprs_items es)) h k);
        skip = λ t ts sc n m es h. h;
        item = λ ts sc n m e h. lone_read sc n m e h;
        on_node = λ ts sc n m k es p a h. rw (p.named, used_append (kind_items k (exprs es)) (exprs_items es), p.uses (exprs es)) h;
        on_call = λ t ts sc n m p es h x y. rw (used_append (exprs_items es) (expr_items h)) (both_read sc n m p (names_in_all es) (names_in h) (used (exprs_items es)) (used (expr_items h)) x y);
        on_as = λ t ts sc n m o e s h. rw (used-front (sort_words o) (expr_items e)) (lone_read sc n m e h);
        on_exists = λ s v ts sc n m names sorts e b h.
            rw (used_append (binder_items (numbered n sorts)) (exprs_items (one_of e)), used-numbered n sorts)
            (inside-read (record { names = names; first = n }) sc n (n + length sorts) m (names_in_all (one_of e)) (used (exprs_items (one_of e))) (omega arith) (omega arith) h);
        on_let = λ s u ts sc n m p x v b l g h.
            rw (used_append (expr_items v) (exprs_items (one_of b)))
            (both_read sc n m p (names_in v) (names_in_all (one_of b)) (used (expr_items v)) (used (exprs_items (one_of b))) g
            (inside-read (record { names = x ∷ []; first = m }) sc m (m + 1) p (names_in_all (one_of b)) (used (exprs_items (one_of b))) (omega arith) (omega arith) h));
      }

  -- ---- the body of a let

  module _ (s : Span) (sc : List Scope) (n k : ℕ) (a : Apart sc n) (l : n ≤ k) where
    abbrev within : List Scope
    within = record { names = s ∷ []; first = k } ∷ sc

    other_name : (x : Span) → Scope.number_among text x (s ∷ []) k ≡ nothing → Scope.same_name text x s ≡ false
    unfolding Scope.number_among pick
    other_name x e = go (Scope.same_name text x s) e
      where
        go : (b : Bool) → pick b (just k) nothing ≡ nothing → b ≡ false
        go true e = absurd (some-none e)
        go false e = refl

    absent-other : (x : Span) → Absent within x → Scope.same_name text x s ≡ false
    unfolding Scope.number_in
    absent-other x e = other_name x (none_first (Scope.number_among text x (s ∷ []) k) (Scope.number_in text x sc) e).0

    known-own : (j : ℕ) → Known within (k + 1) j → In j (numbers_of text s sc) → ⊥
    known-own j (inl h) i = omega (arith, h, apart_below text s sc n j a i)
    known-own j (inr h) i = go (means_round (record { names = s ∷ []; first = k }) sc h.name j h.means)
      where
        go : (k ≤ j) ⊎ ((Scope.number_among text h.name (s ∷ []) k ≡ nothing) × (Scope.number_in text h.name sc ≡ just j)) → ⊥
        go (inl f) = omega (arith, f, apart_below text s sc n j a i)
        go (inr f) =
            false≢true (sym (other_name h.name f.0) ∙ apart-name text s h.name sc n j a i (subst (λ m. IfThere m (λ z. In z (numbers_of text h.name sc))) f.1 (meant_of text h.name sc)))

  let-post : (s : Span) (t u : Tree) (us : Trees) (sc : List Scope) (n : ℕ) → (ParseExpr.child text u).let_name ≡ got s → Apart sc n
      → Post (let_form (ParseExpr.children text (tcons t (tcons u us))) sc n) (λ e m. LetBinds text s sc e)
  unfolding let_form child_at nested_at ParseExpr.child
  let-post s t u tnil sc n e a = rw e (chain_post ((ParseExpr.child text u).let_value sc n) _ (Inv u sc n) _ ((child_of text Inv InvAll read_so u).let_value sc n) λ v m p. tt)
  let-post s t u (tcons b us) sc n e a =
      rw e
      (chain_post ((ParseExpr.child text u).let_value sc n) _ (Inv u sc n) _ ((child_of text Inv InvAll read_so u).let_value sc n) λ v m p.
      chain_post ((ParseExpr.child text b).nested (record { names = s ∷ []; first = m } ∷ sc) (m + 1)) _ (Inv b (record { names = s ∷ []; first = m } ∷ sc) (m + 1)) _ ((child_of text Inv InvAll read_so b).nested (record { names = s ∷ []; first = m } ∷ sc) (m + 1)) λ w q r.
      record {
        number = m;
        value = v;
        body = w;
        is = refl;
        unnamed = each_map (Absent (record { names = s ∷ []; first = m } ∷ sc)) (λ x. Scope.same_name text x s ≡ false) (names_in w) (absent-other s sc n m a p.rises) r.absent;
        own = each_map (Known (record { names = s ∷ []; first = m } ∷ sc) (m + 1)) (λ j. In j (numbers_of text s sc) → ⊥) (used (expr_items w)) (known-own s sc n m a p.rises) r.known;
      })

  -- A list that begins with `let` is read as a let.
  let-read : (t : Span) (us : Trees) (sc : List Scope) (n : ℕ) → same_bytes (bytes_at text t) (ascii "let") ≡ true
      → (ParseExpr.child text (list (tcons (atom (symbol t)) us))).plainly sc n ≡ let_form (ParseExpr.children text (tcons (atom (symbol t)) us)) sc n
  unfolding ParseExpr.child ParseExpr.list_child ParseExpr.list_expr ParseExpr.headed ParseExpr.atom_headed ParseExpr.form_of ParseExpr.parse_form child_at atom_child
  let-read t us sc n e = ap (λ f. ParseExpr.parse_form text f t (ParseExpr.children text (tcons (atom (symbol t)) us)) sc n) (sym (let-form (bytes_at text t) e))

-- Every let binds its name.
pub lets-bind : LetsBind
lets-bind text t s u us sc n m e k name a q =
    subst (λ r. Post r (λ x i. LetBinds text s sc x)) (sym (let-read text t (tcons u us) sc n k) ∙ q) (let-post text s (atom (symbol t)) u us sc n name a)
