-- What the notions of fresh numbers, of lets and of literals rule out, a case each.
use Prim.Native.Nat.{ℕ, ◌+◌, ◌≤◌, ◌<◌, ◌%◌, ◌/◌, ◌^◌}
use mathlib.Core.Path.{◌≡◌, refl, sym, ap, subst, ◌∙◌}
use mathlib.Core.Logic.{⊎_elim, inl}
use mathlib.Core.Bool.{Bool, true, false, false≢true}
use mathlib.Core.List.{List, [], ◌∷◌}
use native.Mathlib.Omega.{arith}
use lib.Dec.{ltb}
use lib.ListN.{length, drop, get_or}
use borrow.Author.Tests.{eq-eqb, ltb-true, ltb-false}
use Rattle.reading.specs.Limits.{max_number}
use Rattle.reading.specs.Pick.{pick}
use Rattle.reading.specs.Bytes.{same_bytes, Span, bytes_at}
use Rattle.reading.specs.Number.{wide_of, value_of}
use Rattle.grammar.specs.Sort.{s_int, sort_words}
use Rattle.grammar.specs.Item.{Item, plain, uses, binds, raise, words_of, used, bound}
use Rattle.grammar.specs.Expr.{VarName, Expr, leaf, node, one_of, econs, exprs, Binder, binder_items, kind_items, expr_items, k_fresh, k_named, k_bool, k_bit_vec, k_and, k_let, k_exists, k_let_fresh}
use Rattle.grammar.specs.Scope.{Scope, var_of, same_name}
use Rattle.grammar.specs.Numbers.{In, hit, times, Exactly}
use Rattle.grammar.specs.Scoped.{Scoped, ScopedSolution}
use Rattle.grammar.specs.Literals.{LiteralsFit}
use Rattle.grammar.specs.Lets.{Each, names_in, numbers_among, numbers_of, LetBinds, NoNamedLets}

-- The variable with a fresh number, and an exists that binds one number.
abbrev variable : ℕ → Expr
variable k = leaf (k_fresh k)

abbrev binder : ℕ → Binder
binder k = record { var = k; sort = s_int }

abbrev exists1 : ℕ → Expr → Expr
exists1 k e = node (k_exists (binder k ∷ [])) (one_of e)

-- A fresh variable that nothing binds is not scoped.
pub unbound-variable : (k c : ℕ) → Scoped (variable k) c [] → ⊥
unfolding kind_items raise used
unbound-variable k c h = h.0.0

-- Nor is one under an exists that binds another number, or beside the exists that binds it.
pub bound_by_another : (c : ℕ) → Scoped (exists1 1 (variable 0)) c [] → ⊥
unfolding kind_items binder_items sort_words exprs raise used bound
bound_by_another c h = ⊎_elim (λ (e : _). omega arith) (λ e. e) h.1.0.0.0

pub bound_beside : (c : ℕ) → Scoped (node k_and (econs (exists1 0 (leaf (k_bool true))) (one_of (variable 0)))) c [] → ⊥
unfolding kind_items exprs raise used bound
bound_beside c h = h.1.1.0.0.0

-- A let encloses its body, and neither its binding nor what stands beside it.
abbrev let1 : ℕ → Expr → Expr → Expr
let1 k v b = node (k_let_fresh k) (econs v (one_of b))

pub let_in_body : (c : ℕ) → Scoped (let1 0 (leaf (k_bool true)) (variable 0)) c []
unfolding kind_items exprs raise used bound
let_in_body c = (tt, ((tt, tt), (((inl refl, tt), tt), tt)))

pub let_in_binding : (c : ℕ) → Scoped (let1 0 (variable 0) (leaf (k_bool true))) c [] → ⊥
unfolding kind_items exprs raise used bound
let_in_binding c h = h.1.0.0.0

pub let_beside : (c : ℕ) → Scoped (node k_and (econs (let1 0 (leaf (k_bool true)) (variable 0)) (one_of (variable 0)))) c [] → ⊥
unfolding kind_items exprs raise used bound
let_beside c h = h.1.1.0.0.0

-- In a let of a name under a parameter of the same name, the body uses neither the name nor the parameter's number.
abbrev x₁ : Span
x₁ = record { start = 0; len = 1 }

abbrev parameter : List Scope
parameter = record { names = x₁ ∷ []; first = 0 } ∷ []

abbrev text_x : List ℕ
text_x = 120 ∷ []

pub let_of_a_name : (v : Expr) → LetBinds text_x x₁ parameter (let1 1 v (leaf (k_named (var_of x₁)))) → ⊥
unfolding names_in same_name same_bytes bytes_at pick
let_of_a_name v h =
    let e : h.body ≡ leaf (k_named (var_of x₁)) = cc in
    false≢true (sym (subst (λ b. Each (λ x. same_name text_x x x₁ ≡ false) (names_in b)) e h.unnamed).0 ∙ refl)

pub let_of_the_parameter : (v : Expr) → LetBinds text_x x₁ parameter (let1 1 v (variable 0)) → ⊥
unfolding same_name same_bytes bytes_at numbers_of numbers_among pick expr_items kind_items exprs used
let_of_the_parameter v h =
    let e : h.body ≡ variable 0 = cc in
    (subst (λ b. Each (λ j. In j (numbers_of text_x x₁ parameter) → ⊥) (used (expr_items b))) e h.own).0 (inl refl)

-- A let of a name is none that is read.
pub named-let : (x : VarName) (v b : Expr) → NoNamedLets (node k_and (one_of (node (k_let x) (econs v (one_of b))))) → ⊥
named-let x v b h = h.1.0.0

-- Nor a solution whose expression uses a number that no parameter binds.
pub no-parameter : (c : ℕ) → ScopedSolution c (record { params = []; body = variable 0 }) → ⊥
unfolding kind_items binder_items raise used bound
no-parameter c h = h.0.0

-- A number stands once in front of a list that begins with it.
once : (k : ℕ) → hit k k ≡ 1
unfolding pick
once k = rw (eq-eqb k k refl) refl

-- A list with a number twice is not exact, from where to where it may be.
pub bound_twice : (a b k : ℕ) (l : List ℕ) → Exactly a (k ∷ k ∷ l) b → ⊥
unfolding times
bound_twice a b k l e = go (ltb k a) refl (ltb k b) refl
  where
    go : (s : Bool) → ltb k a ≡ s → (t : Bool) → ltb k b ≡ t → ⊥
    go true p t q = omega (arith, once k, e.below k (ltb-true k a p))
    go false p true q = omega (arith, once k, e.once k (ltb-false k a p) (ltb-true k b q))
    go false p false q = omega (arith, once k, e.above k (ltb-false k b q))

-- Nor is one with a gap, with a number too small, or with too few.
pub left_out : (b : ℕ) → Exactly 0 (0 ∷ 2 ∷ []) b → ⊥
unfolding times pick
left_out b e = omega (arith, e.size, e.once 1 (omega arith) (omega (arith, e.size)))

pub too_small : Exactly 1 (0 ∷ []) 2 → ⊥
unfolding times pick
too_small e = omega (arith, e.below 0 (omega arith))

pub too_few : Exactly 0 (0 ∷ []) 2 → ⊥
too_few e = omega (arith, e.size)

-- Items whose numbers stay below n, and whose words are the same where their numbers are raised by c, bind none.
pub unraised : (c n : ℕ) → 0 < c → c + n ≤ max_number → (its : List Item) → ((k : ℕ) → n ≤ k → times k (bound its) ≡ 0) → words_of (raise c its) ≡ words_of its → length (bound its) ≡ 0
unfolding raise words_of bound times pick
unraised c n h l [] a e = refl
unraised c n h l (plain w ∷ its) a e = unraised c n h l its a (ap (drop 1) e)
unraised c n h l (uses k ∷ its) a e = unraised c n h l its a (ap (drop 2) e)
unraised c n h l (binds k ∷ its) a e = absurd (go (ltb k n) refl)
  where
    go : (b : Bool) → ltb k n ≡ b → ⊥
    go true q =
        let i : k < n = ltb-true k n q in
        let low : (c + k) % 2 ^ 32 ≡ k % 2 ^ 32 = ap (λ (z : List ℕ). get_or z 0 0) e in
        let high : (c + k) / 2 ^ 32 % 2 ^ 32 ≡ k / 2 ^ 32 % 2 ^ 32 = ap (λ (z : List ℕ). get_or z 1 0) e in
        omega (arith, low, high, i)
    go false q = omega (arith, once k, a k (ltb-false k n q))

-- The literal 4 of two digits does not fit, wherever it stands, nor one without digits.
pub too_large : LiteralsFit (node k_and (one_of (leaf (k_bit_vec (wide_of 4) 2)))) → ⊥
unfolding wide_of value_of
too_large h = omega (arith, h.1.0.0.1)

pub no-digits : LiteralsFit (leaf (k_bit_vec (wide_of 0) 0)) → ⊥
no-digits h = omega (arith, h.0.0)
