-- No literal that this reader reads is 15, proved.
use Prim.Native.Nat.{ℕ, ◌+◌, ◌≤◌}
use mathlib.Core.Path.{◌≡◌, sym, subst, ◌∙◌}
use mathlib.Core.List.{List}
use native.Mathlib.Omega.{arith}
use lib.ListN.{length}
use Rattle.reading.specs.Limits.{max_number}
use Rattle.reading.specs.Answer.{ok}
use Rattle.reading.proofs.Finish.{finish-made}
use Rattle.grammar.specs.Item.{raise, words_of}
use Rattle.grammar.specs.Expr.{Expr, Exprs, Solution}
use Rattle.grammar.specs.Raise.{raise_solution}
use Rattle.grammar.specs.Literals.{LiteralsFit, AllLiteralsFit}
use Rattle.grammar.specs.Operations.{make_solution}
use Rattle.grammar.proofs.AnswerHolds.{Post}
use Rattle.grammar.proofs.Raise.{solution-raise}
use Rattle.flattening.specs.Uncurry.{flattened}
use Rattle.flattening.specs.Operations.{flat_items, solution_fits, solution_final}
use Rattle.flattening.proofs.SolutionBack.{RaisedBack, raised-back}
use Rattle.flattening.proofs.FlatKinds.{flat-fit}
use Rattle.judging.specs.Judge.{reads, judge_solution}
use Rattle.smt.specs.Unwritable.{Part, a_function_below9, a_function_from32, a_function_alone, a_value_too_large, a_width_of_zero, in_vars, in_operands, in_arguments, in_head_alone, another_head, Parts, in_first, in_later, SolutionPart, in_params, in_body}
use Rattle.refusals.specs.Literals.{IsLiteral, AmongLiterals, LiteralPart, LiteralsWritable}

-- Where all literals fit, none is such a part.
mutual
  no_literal : {e : Expr} (p : Part e) → LiteralsFit e → IsLiteral p → ⊥
  no_literal (a_function_below9 l) f i = i
  no_literal (a_function_from32 l) f i = i
  no_literal (a_function_alone l m) f i = i
  no_literal (a_value_too_large l) f i = omega (arith, l, f.0.1)
  no_literal a_width_of_zero f i = omega (arith, f.0.0)
  no_literal (in_vars p) f i = i
  no_literal (in_operands p) f i = none_literal p f.1 i
  no_literal (in_arguments p) f i = none_literal p f.0 i
  no_literal (in_head_alone p) f i = no_literal p f.1 i
  no_literal (another_head n) f i = i

  none_literal : {es : Exprs} (p : Parts es) → AllLiteralsFit es → AmongLiterals p → ⊥
  none_literal (in_first p) f i = no_literal p f.0 i
  none_literal (in_later p) f i = none_literal p f.1 i

no_part : {s : Solution} (p : SolutionPart s) → LiteralsFit s.body → LiteralPart p → ⊥
no_part (in_params p) f i = i
no_part (in_body p) f i = no_literal p f i

-- Words are judged to be one solution.
same-solution : {s t : Solution} {m n : ℕ} → reads s m ≡ reads t n → s ≡ t
same-solution e = cc

module _ (text tree : List ℕ) (s : Solution) (n : ℕ) (made : make_solution text tree 0 ≡ ok s n) (c : ℕ) (few : c + n ≤ max_number) where
  judged_so : judge_solution (length text) (words_of (raise c (flat_items s))) ≡ reads (raise_solution c (flattened s)) (length (words_of (raise c (flat_items s))))
  judged_so =
      let back : RaisedBack text s n = subst (λ r. Post r (RaisedBack text)) made (raised-back text tree) in
      subst (λ its. judge_solution (length text) (words_of its) ≡ reads (raise_solution c (flattened s)) (length (words_of its))) (solution-raise c (flattened s)) (back c (omega arith) (length text) (omega arith))

  fits : LiteralsFit (raise_solution c (flattened s)).body
  fits = subst (λ r. Post r (λ t m. (k : ℕ) → LiteralsFit (raise_solution k (flattened t)).body)) made (flat-fit text tree) c

-- All texts, every reader and all slices.
pub literals-writable : LiteralsWritable
unfolding solution_final
literals-writable text tree draft out c s n e judged at j p i =
    let m = finish-made (solution_fits draft out) c (make_solution text tree 0) s n e in
    let is : raise_solution c (flattened s) ≡ judged = same-solution (sym (judged_so text tree s n m.0 c m.1) ∙ j) in
    no_part p (subst (λ t. LiteralsFit t.body) is (fits text tree s n m.0 c m.1)) i
