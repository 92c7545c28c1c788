-- The parser makes no let of a name.
use Prim.Native.Nat.{ℕ}
use mathlib.Core.List.{List}
use Rattle.reading.specs.Tree.{Tree}
use Rattle.grammar.specs.ParseSolution.{parse_solution}
use Rattle.grammar.specs.Lets.{NoNamedLet, NoNamedLets, NoNamedLetRead}
use Rattle.grammar.proofs.AnswerHolds.{Post}
use Rattle.grammar.proofs.ReadSo.{KindsMade, solution_post, expr_so, bind_so, solution_so}

none : KindsMade NoNamedLet
none =
    record {
      string = λ s. tt;
      number = λ w. tt;
      boolean = λ b. tt;
      minus = tt;
      named = λ x. tt;
      fresh = λ k. tt;
      theory = λ k. tt;
      exists = λ bs. tt;
      lets = λ k. tt;
      plain = λ ts k p. p.made;
    }

module _ (text : List ℕ) where
  pub solution-unnamed : (t : Tree) (n : ℕ) → Post (parse_solution text t n) (λ s m. NoNamedLets s.body)
  solution-unnamed t n = solution_post text NoNamedLet none t n

  -- Expressions, binds and solutions.
  pub no-named-let-read : (t : Tree) → NoNamedLetRead text t
  no-named-let-read t =
      record {
        of_expr = λ n m e q. expr_so text NoNamedLet none t n m e q;
        of_bind = λ n m b q. bind_so text NoNamedLet none t n m b q;
        of_solution = λ n m s q. solution_so text NoNamedLet none t n m s q;
      }
