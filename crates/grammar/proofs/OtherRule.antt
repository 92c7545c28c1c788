-- What another rule for the lists that begin with one name does not change, proved.
use Prim.Native.Nat.{ℕ}
use mathlib.Core.Bool.{Bool, true, false}
use mathlib.Core.Path.{◌≡◌, refl, ap, ap₂, ◌∙◌}
use mathlib.Core.List.{List, ◌∷◌}
use Rattle.reading.specs.Pick.{pick}
use Rattle.reading.specs.Bytes.{ascii, same_bytes, begins_with, Span, bytes_at, lookup}
use Rattle.reading.specs.Tree.{symbol, quoted, integer, decimal, boolean, Tree, Trees, atom, list, tnil, tcons}
use Rattle.reading.proofs.Bytes.{same_equal}
use Rattle.grammar.specs.Names.{lit, let_in, keywords}
use Rattle.grammar.specs.ParseExpr
use Rattle.grammar.specs.ParseExpr.{P, Child, child_at, atom_child, let_form, or_else_form}
use Rattle.grammar.specs.OtherRule.{NotFirst, Without, AllWithout, headed_by, list_expr_by, list_child_by, child_by, children_by, lit_name, let_name, LiteralsByRule, LetsByRule, OtherwiseAlike}

module _ (text name : List ℕ) (rule : List Child → P) where
  -- The lists of a tree are read alike by their first items.
  abbrev FirstAlike : Trees → Type 0
  FirstAlike tnil = Unit {0}
  FirstAlike (tcons t ts) = (cs : List Child) → headed_by text name rule t cs ≡ ParseExpr.headed text t cs

  abbrev mutual
    Alike : Tree → Type 0
    Alike (atom a) = Unit {0}
    Alike (list ts) = FirstAlike ts × AllAlike ts

    AllAlike : Trees → Type 0
    AllAlike tnil = Unit {0}
    AllAlike (tcons t ts) = Alike t × AllAlike ts

  -- A list, its items being those of the parser.
  list-alike : (ts : Trees) → FirstAlike ts → list_expr_by text name rule (ParseExpr.children text ts) ≡ ParseExpr.list_expr text (ParseExpr.children text ts)
  unfolding list_expr_by ParseExpr.list_expr ParseExpr.child ParseExpr.list_child atom_child child_at
  list-alike tnil h = refl
  list-alike (tcons (atom a) ts) h = h _
  list-alike (tcons (list us) ts) h = h _

  -- Where the lists of a tree are read alike, the tree is.
  mutual
    unfolding child_by ParseExpr.child list_child_by ParseExpr.list_child

    alike : (t : Tree) → Alike t → child_by text name rule t ≡ ParseExpr.child text t
    alike (atom a) h = refl
    alike (list ts) h = ap (list_child_by text name rule ts) (all_alike ts h.1) ∙ ap (ParseExpr.list_of text ts (ParseExpr.children text ts)) (list-alike ts h.0)

    all_alike : (ts : Trees) → AllAlike ts → children_by text name rule ts ≡ ParseExpr.children text ts
    all_alike tnil h = refl
    all_alike (tcons t ts) h = ap₂ ◌∷◌ (alike t h.0) (all_alike ts h.1)

  -- So it is where no list begins with the name.
  first-without : (ts : Trees) → NotFirst text name ts → FirstAlike ts
  unfolding headed_by pick
  first-without tnil h = tt
  first-without (tcons t ts) h = λ cs. ap (λ b. pick b (rule cs) (ParseExpr.headed text t cs)) h

  mutual
    without : (t : Tree) → Without text name t → Alike t
    without (atom a) h = tt
    without (list ts) h = (first-without ts h.0, all_without ts h.1)

    all_without : (ts : Trees) → AllWithout text name ts → AllAlike ts
    all_without tnil h = tt
    all_without (tcons t ts) h = (without t h.0, all_without ts h.1)

-- Any rule, and trees without the name.
pub otherwise-alike : OtherwiseAlike
otherwise-alike text name rule t h = alike text name rule t (without text name rule t h)

-- The rule that a name means, and all trees.
module _ (text name : List ℕ) (rule : List Child → P) (means : (s : Span) (cs : List Child) → same_bytes (bytes_at text s) name ≡ true → rule cs ≡ ParseExpr.parse_form text (ParseExpr.form_of text s) s cs) where
  first_alike : (t : Tree) (cs : List Child) → headed_by text name rule t cs ≡ ParseExpr.headed text t cs
  unfolding headed_by pick ParseExpr.headed ParseExpr.atom_headed
  first_alike (atom (symbol s)) cs = go (same_bytes (bytes_at text s) name) refl
    where
      go : (b : Bool) → same_bytes (bytes_at text s) name ≡ b → pick b (rule cs) (ParseExpr.parse_form text (ParseExpr.form_of text s) s cs) ≡ ParseExpr.parse_form text (ParseExpr.form_of text s) s cs
      go true e = means s cs e
      go false e = refl
  first_alike (atom (quoted s)) cs = refl
  first_alike (atom (integer w)) cs = refl
  first_alike (atom (decimal s)) cs = refl
  first_alike (atom (boolean b)) cs = refl
  first_alike (list ts) cs = refl

  firsts : (ts : Trees) → FirstAlike text name rule ts
  firsts tnil = tt
  firsts (tcons t ts) = first_alike t

  mutual
    all-trees : (t : Tree) → Alike text name rule t
    all-trees (atom a) = tt
    all-trees (list ts) = (firsts ts, all_lists ts)

    all_lists : (ts : Trees) → AllAlike text name rule ts
    all_lists tnil = tt
    all_lists (tcons t ts) = (all-trees t, all_lists ts)

-- The names `lit` and `let` mean a literal and a let.
lit-form : (w : List ℕ) → same_bytes w lit_name ≡ true → lit ≡ or_else_form (begins_with (ascii "is$") w) (lookup keywords w)
unfolding begins_with lookup keywords same_bytes pick
lit-form w e = rw (same_equal w lit_name e) refl

pub let-form : (w : List ℕ) → same_bytes w let_name ≡ true → let_in ≡ or_else_form (begins_with (ascii "is$") w) (lookup keywords w)
unfolding begins_with lookup keywords same_bytes pick
let-form w e = rw (same_equal w let_name e) refl

pub literals_by_rule : LiteralsByRule
unfolding ParseExpr.form_of ParseExpr.parse_form
literals_by_rule text t =
    alike text lit_name (ParseExpr.lit_form text) t (all-trees text lit_name (ParseExpr.lit_form text) (λ s cs e. ap (λ f. ParseExpr.parse_form text f s cs) (lit-form (bytes_at text s) e)) t)

pub lets_by_rule : LetsByRule
unfolding ParseExpr.form_of ParseExpr.parse_form
lets_by_rule text t = alike text let_name let_form t (all-trees text let_name let_form (λ s cs e. ap (λ f. ParseExpr.parse_form text f s cs) (let-form (bytes_at text s) e)) t)
