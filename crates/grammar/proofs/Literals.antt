-- Every literal that is read is the value of its digits, and is below 2^width.
use Prim.Native.Nat.{ℕ}
use mathlib.Core.Path.{◌≡◌}
use mathlib.Core.List.{List}
use Rattle.reading.specs.Tree.{Tree}
use Rattle.grammar.specs.ParseExpr
use Rattle.grammar.specs.ParseSolution.{parse_solution}
use Rattle.grammar.specs.Literals.{LiteralOf, LiteralRead, LiteralFits, LiteralsFit, LiteralsRead}
use Rattle.grammar.proofs.AnswerHolds.{Post}
use Rattle.grammar.proofs.LitForm.{literal_of}
use Rattle.grammar.proofs.ReadSo.{holds, KindsMade, solution_post, expr_so, bind_so, solution_so}

pub literal_read : LiteralRead
literal_read text cs sc n e m q = (holds (λ x k. LiteralOf text cs x × (k ≡ n)) (ParseExpr.lit_form text cs sc n) e m q (literal_of text cs sc n)).0

-- No kind but a literal has to fit, and the literals of the plain kinds do.
fit : KindsMade LiteralFits
fit =
    record {
      string = λ s. tt;
      number = λ w. tt;
      boolean = λ b. tt;
      minus = tt;
      named = λ x. tt;
      fresh = λ k. tt;
      theory = λ k. tt;
      exists = λ bs. tt;
      lets = λ k. tt;
      plain = λ ts k p. p.fits;
    }

module _ (text : List ℕ) where
  pub solution-fit : (t : Tree) (n : ℕ) → Post (parse_solution text t n) (λ s m. LiteralsFit s.body)
  solution-fit t n = solution_post text LiteralFits fit t n

  -- Expressions, binds and solutions.
  pub literals-read : (t : Tree) → LiteralsRead text t
  literals-read t =
      record {
        of_expr = λ n m e q. expr_so text LiteralFits fit t n m e q;
        of_bind = λ n m b q. bind_so text LiteralFits fit t n m b q;
        of_solution = λ n m s q. solution_so text LiteralFits fit t n m s q;
      }
