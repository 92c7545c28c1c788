-- 15 for a literal is met by stored words only: a solution that this reader reads holds no literal that cannot be written.
use Rattle.std.specs.Prelude.{ℕ, ◌≡◌, List, length}
use Rattle.reading.specs.Answer.{accepts}
use Rattle.grammar.specs.Item.{raise, words_of}
use Rattle.grammar.specs.Expr.{Expr, Exprs, Solution}
use Rattle.flattening.specs.Operations.{flat_items, solution_final}
use Rattle.judging.specs.Judge.{reads, judge_solution}
use Rattle.smt.specs.Unwritable.{Part, a_function_below9, a_function_from32, a_function_alone, a_value_too_large, a_width_of_zero, in_vars, in_operands, in_arguments, in_head_alone, another_head, Parts, in_first, in_later, SolutionPart, in_params, in_body}

-- Of the parts that request C-11 lists, those that are literals: a value of 2^width or more, and a width of 0.
abbrev mutual
  pub IsLiteral : {e : Expr} → Part e → Type 0
  IsLiteral (a_function_below9 l) = ⊥
  IsLiteral (a_function_from32 l) = ⊥
  IsLiteral (a_function_alone l m) = ⊥
  IsLiteral (a_value_too_large l) = Unit {0}
  IsLiteral a_width_of_zero = Unit {0}
  IsLiteral (in_vars p) = ⊥
  IsLiteral (in_operands p) = AmongLiterals p
  IsLiteral (in_arguments p) = AmongLiterals p
  IsLiteral (in_head_alone p) = IsLiteral p
  IsLiteral (another_head n) = ⊥

  pub AmongLiterals : {es : Exprs} → Parts es → Type 0
  AmongLiterals (in_first p) = IsLiteral p
  AmongLiterals (in_later p) = AmongLiterals p

abbrev pub LiteralPart : {s : Solution} → SolutionPart s → Type 0
LiteralPart (in_params p) = ⊥
LiteralPart (in_body p) = IsLiteral p

-- Where the operation solution accepts a text, at the reader's count c and with any slices, the words that it writes are judged, with that
-- text, to be a solution without such a part.
abbrev pub LiteralsWritable : Type 0
LiteralsWritable =
    (text tree draft out : List ℕ) (c : ℕ) (s : Solution) (n : ℕ) → solution_final text tree draft out c ≡ accepts s n
    → (judged : Solution) (at : ℕ) → judge_solution (length text) (words_of (raise c (flat_items s))) ≡ reads judged at
    → (p : SolutionPart judged) → LiteralPart p → ⊥
