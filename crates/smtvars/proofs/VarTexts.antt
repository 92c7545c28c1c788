-- The bytes of sorted variables: each in parentheses, one space apart, and parentheses round them all.
use Prim.Native.Nat.{ℕ}
use mathlib.Core.Path.{◌≡◌, refl, ap, ◌∙◌}
use mathlib.Core.List.{List, [], ◌∷◌, ◌++◌, append_assoc}
use Rattle.reading.specs.Answer.{Ans, got, bad, and_then}
use Rattle.grammar.specs.Expr.{Binder}
use Rattle.smt.specs.Sexp.{list, print, spaced}
use Rattle.smt.specs.Term.{SmtSort, Var, sort_sx, var_sx, var_sxs}
use Rattle.smt.specs.Writer.{fresh_symbol, sort_of, vars_of}
use Rattle.smt.proofs.Text.{fresh-text, var-text}
use Rattle.smtnames.specs.Pieces.{joined, sort_text, fresh_text, var_text, vars_text}

-- A space before each variable; and the same without the first space.
unfoldable pub spaced_vars : List ℕ → List Binder → Ans (List ℕ)
spaced_vars text [] = got []
spaced_vars text (b ∷ bs) = joined (got (32 ∷ [])) (joined (var_text text b) (spaced_vars text bs))

unfoldable pub inside_vars : List ℕ → List Binder → Ans (List ℕ)
inside_vars text [] = got []
inside_vars text (b ∷ bs) = joined (var_text text b) (spaced_vars text bs)

-- All of them, and the parenthesis behind them.
unfoldable pub vars_body : List ℕ → List Binder → Ans (List ℕ)
vars_body text bs = joined (inside_vars text bs) (got (41 ∷ []))

-- A variable.
abbrev variable : ℕ → SmtSort → Var
variable k s = record { name = fresh_symbol k; sort = s }

var-one : (k : ℕ) (x : Ans SmtSort) → and_then x (λ s. got (print (var_sx (variable k s)))) ≡ joined (got (40 ∷ fresh_text k ++ (32 ∷ []))) (joined (and_then x λ s. got (print (sort_sx s))) (got (41 ∷ [])))
unfolding joined fresh_text
var-one k (bad r) = refl
var-one k (got s) =
    ap got (var-text (variable k s)) ∙ ap (λ l. got ((40 ∷ l ++ (32 ∷ [])) ++ (print (sort_sx s) ++ (41 ∷ [])))) (fresh-text k)

var-is : (text : List ℕ) (b : Binder) → and_then (sort_of text b.sort) (λ s. got (print (var_sx (variable b.var s)))) ≡ var_text text b
unfolding var_text sort_text
var-is text b = var-one b.var (sort_of text b.sort)

-- Variables behind one another.
spaced-one : (k : ℕ) (x : Ans SmtSort) (y : Ans (List Var))
    → and_then (and_then x λ s. and_then y λ vs. got (variable k s ∷ vs)) (λ vs. got (spaced (var_sxs vs))) ≡ joined (got (32 ∷ [])) (joined (and_then x λ s. got (print (var_sx (variable k s)))) (and_then y λ vs. got (spaced (var_sxs vs))))
unfolding joined print var_sxs
spaced-one k (bad r) y = refl
spaced-one k (got s) (bad r) = refl
spaced-one k (got s) (got vs) = refl

spaced-is : (text : List ℕ) (bs : List Binder) → and_then (vars_of text bs) (λ vs. got (spaced (var_sxs vs))) ≡ spaced_vars text bs
unfolding vars_of spaced_vars print var_sxs
spaced-is text [] = refl
spaced-is text (b ∷ bs) =
    spaced-one b.var (sort_of text b.sort) (vars_of text bs)
    ∙ ap (λ z. joined (got (32 ∷ [])) (joined z (and_then (vars_of text bs) λ vs. got (spaced (var_sxs vs))))) (var-is text b)
    ∙ ap (λ z. joined (got (32 ∷ [])) (joined (var_text text b) z)) (spaced-is text bs)

-- All of them.
all_one : (k : ℕ) (x : Ans SmtSort) (y : Ans (List Var))
    → and_then (and_then x λ s. and_then y λ vs. got (variable k s ∷ vs)) (λ vs. got (print (list (var_sxs vs)))) ≡ joined (got (40 ∷ [])) (joined (joined (and_then x λ s. got (print (var_sx (variable k s)))) (and_then y λ vs. got (spaced (var_sxs vs)))) (got (41 ∷ [])))
unfolding joined print var_sxs
all_one k (bad r) y = refl
all_one k (got s) (bad r) = refl
all_one k (got s) (got vs) = refl

pub vars-text : (text : List ℕ) (bs : List Binder) → vars_text text bs ≡ joined (got (40 ∷ [])) (vars_body text bs)
unfolding vars_text vars_body vars_of inside_vars print var_sxs joined
vars-text text [] = refl
vars-text text (b ∷ bs) =
    all_one b.var (sort_of text b.sort) (vars_of text bs)
    ∙ ap (λ z. joined (got (40 ∷ [])) (joined (joined z (and_then (vars_of text bs) λ vs. got (spaced (var_sxs vs)))) (got (41 ∷ [])))) (var-is text b)
    ∙ ap (λ z. joined (got (40 ∷ [])) (joined (joined (var_text text b) z) (got (41 ∷ [])))) (spaced-is text bs)

-- A variable, piece by piece.
pub var_pieces : (text : List ℕ) (b : Binder) {k : ℕ} → k ≡ b.var → var_text text b ≡ joined (got (40 ∷ [])) (joined (got (fresh_text k)) (joined (got (32 ∷ [])) (joined (sort_text text b.sort) (got (41 ∷ [])))))
unfolding var_text joined
var_pieces text b {k} e = rw e (go (fresh_text b.var) (sort_text text b.sort))
  where
    go : (f : List ℕ) (x : Ans (List ℕ)) → joined (got (40 ∷ f ++ (32 ∷ []))) (joined x (got (41 ∷ []))) ≡ joined (got (40 ∷ [])) (joined (got f) (joined (got (32 ∷ [])) (joined x (got (41 ∷ [])))))
    go f (bad r) = refl
    go f (got xs) = ap (λ l. got (40 ∷ l)) (append_assoc f (32 ∷ []) (xs ++ (41 ∷ [])))
