-- Flattening keeps what holds of each kind: so literals fit, and no let is one of a name, in every solution that a text is read as, after
-- flattening and with its numbers raised.
use Prim.Native.Nat.{ℕ}
use mathlib.Core.List.{List}
use Rattle.reading.specs.Bytes.{Maybe}
use Rattle.grammar.specs.Sort.{Sort}
use Rattle.grammar.specs.Expr.{Kind, Expr, Exprs, node, app, enil, econs, EachKind, EachKindAll}
use Rattle.grammar.specs.Raise.{raise_solution}
use Rattle.grammar.specs.ParseSolution.{parse_solution}
use Rattle.grammar.specs.Operations.{the_tree, make_solution}
use Rattle.grammar.specs.Literals.{LiteralFits, LiteralsFit}
use Rattle.grammar.specs.Lets.{NoNamedLet, NoNamedLets}
use Rattle.grammar.proofs.AnswerHolds.{Post, any_post, map_post}
use Rattle.grammar.proofs.Literals.{solution-fit}
use Rattle.grammar.proofs.NamedLets.{solution-unnamed}
use Rattle.grammar.proofs.Raised.{literals-raise, named-lets-raise}
use Rattle.flattening.specs.Uncurry.{join, applied, uncurry, uncurry_all, flattened}

module _ (P : Kind → Type 0) where
  join-kinds : (fs es : Exprs) → EachKindAll P fs → EachKindAll P es → EachKindAll P (join fs es)
  unfolding join
  join-kinds enil es p q = q
  join-kinds (econs f fs) es p q = (p.0, join-kinds fs es p.1 q)

  applied-kinds : (o : Maybe Sort) (es : Exprs) (h : Expr) → EachKindAll P es → EachKind P h → EachKind P (applied o es h)
  unfolding applied
  applied-kinds o es (node k fs) p q = (p, q)
  applied-kinds o es (app o' fs h) p q = (join-kinds fs es q.0 p, q.1)

  mutual
    unfolding uncurry

    pub uncurry-kinds : (e : Expr) → EachKind P e → EachKind P (uncurry e)
    uncurry-kinds (node k es) p = (p.0, uncurry-all-kinds es p.1)
    uncurry-kinds (app o es h) p = applied-kinds o (uncurry_all es) (uncurry h) (uncurry-all-kinds es p.0) (uncurry-kinds h p.1)

    uncurry-all-kinds : (es : Exprs) → EachKindAll P es → EachKindAll P (uncurry_all es)
    uncurry-all-kinds enil p = tt
    uncurry-all-kinds (econs e es) p = (uncurry-kinds e p.0, uncurry-all-kinds es p.1)

-- Every solution that a text is read as.
pub flat-fit : (text tree : List ℕ) → Post (make_solution text tree 0) (λ s n. (c : ℕ) → LiteralsFit (raise_solution c (flattened s)).body)
unfolding make_solution raise_solution
flat-fit text tree =
    any_post (the_tree text tree) 0 _ _ λ t.
    map_post (parse_solution text t 0) (λ s n. LiteralsFit s.body) _ (λ s n h c. literals-raise c (uncurry s.body) (uncurry-kinds LiteralFits s.body h)) (solution-fit text t 0)

pub flat-unnamed : (text tree : List ℕ) → Post (make_solution text tree 0) (λ s n. (c : ℕ) → NoNamedLets (raise_solution c (flattened s)).body)
unfolding make_solution raise_solution
flat-unnamed text tree =
    any_post (the_tree text tree) 0 _ _ λ t.
    map_post (parse_solution text t 0) (λ s n. NoNamedLets s.body) _ (λ s n h c. named-lets-raise c (uncurry s.body) (uncurry-kinds NoNamedLet s.body h)) (solution-unnamed text t 0)
