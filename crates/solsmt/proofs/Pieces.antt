-- The pieces of a script, as they are written one behind the other; and where its list of variables ends.
use Prim.Native.Nat.{ℕ, ◌+◌, ◌-◌, ◌/◌, ◌%◌}
use mathlib.Core.Path.{◌≡◌, refl, ap, ◌∙◌}
use mathlib.Core.List.{List, [], ◌∷◌, ◌++◌}
use native.Mathlib.Omega.{arith}
use lib.ListN.{length, get_or, take, drop, length-drop}
use lib.Seq.{take_all}
use Rattle.reading.specs.Bytes.{ascii}
use Rattle.reading.specs.Answer.{Ans, got}
use Rattle.grammar.specs.Expr.{Binder, Solution}
use Rattle.judging.specs.Judge.{reads, binders_at, judge_solution}
use Rattle.judging.proofs.SolutionParts.{Parts, parts_of}
use Rattle.writing.specs.Digits.{digit}
use Rattle.writing.specs.Wrote.{WroteBytes}
use Rattle.writing.proofs.Wrote.{wrote_then, wrote_as}
use Rattle.smtnames.specs.Pieces.{vars_text}
use Rattle.smtnames.specs.Written.{TellsPart}
use Rattle.std.specs.Prelude.{Result, Ok, Err}
use Rattle.words.specs.declared.refusal.Refusal.{Refusal}
use Rattle.words.specs.declared.walked.Walked.{Walked}
use Rattle.smtnames.proofs.Tells.{Put, put, Gone, gone, part-put, part-gone}
use Rattle.solsmt.specs.Script.{comment_line, function_line}

-- The first line.
pub comment-is : (n : ℕ) {d e : ℕ} → d ≡ digit (n / 16 % 16) → e ≡ digit (n % 16) → ascii "; " ++ ((d ∷ []) ++ ((e ∷ []) ++ (10 ∷ []))) ≡ comment_line n
unfolding comment_line
comment-is n p q = rw (p, q) refl

-- All bytes from a place on.
pub rest-is : (l : List ℕ) (a : ℕ) → take (length l - a) (drop a l) ≡ drop a l
rest-is l a = take_all (length l - a) (drop a l) (omega (arith, length-drop a l))

-- Bytes that are known are laid, and not refused.
put-got : {x : Ans (List ℕ)} {xs l l' : List ℕ} {place p : ℕ} → Put x l place l' p → x ≡ got xs → WroteBytes l place xs l' p
put-got {xs = xs} (put {xs = ys} w) e = let z : ys ≡ xs = cc in rw z at w

gone-got : {P : Type 0} {x : Ans (List ℕ)} {xs l l' : List ℕ} {k : Refusal} → Gone x l l' k → x ≡ got xs → P
gone-got (gone h f) e = let z : ◌≡◌ {A = ℕ} 0 1 = cc in absurd (omega arith)

-- What is told of the list of variables, where the words are a solution and the list can be written.
module _ (words text : List ℕ) {l l' : List ℕ} {count : ℕ} {v : Result Walked Refusal} (first : count ≡ get_or words 0 0)
    (vars : (limit : ℕ) (bs : List Binder) (m : ℕ) → binders_at limit count words 1 ≡ reads bs m → TellsPart m (vars_text text bs) l 0 l' v)
    (s : Solution) (n : ℕ) (xs : List ℕ) (judged : judge_solution (length text) words ≡ reads s n) (list : vars_text text s.params ≡ got xs) where
  parts : Parts (length text) words s
  parts = parts_of (length text) words judged

  told : TellsPart parts.behind (vars_text text s.params) l 0 l' v
  told = vars (length text) s.params parts.behind (ap (λ (i : ℕ). binders_at (length text) i words 1) first ∙ parts.binders)

  pub list_put : {u : Walked} → v ≡ Ok u → WroteBytes l 0 xs l' u.place
  list_put h = put-got (part-put told h) list

  pub list-gone : {P : Type 0} {r : Refusal} → v ≡ Err r → P
  list-gone h = gone-got (part-gone told h) list

-- A script, from its six pieces.
pub function-wrote : (made : List ℕ) (k : ℕ) {l l₁ l₂ l₃ l₄ l₅ l₆ : List ℕ} {p₁ p₂ p₃ p₄ p₅ p₆ : ℕ}
    → WroteBytes l 0 (comment_line 0) l₁ p₁
    → WroteBytes l₁ p₁ (ascii "(define-fun solution ") l₂ p₂
    → WroteBytes l₂ p₂ (take k made) l₃ p₃
    → WroteBytes l₃ p₃ (ascii " Bool ") l₄ p₄
    → WroteBytes l₄ p₄ (take (length made - (k + 1)) (drop (k + 1) made)) l₅ p₅
    → WroteBytes l₅ p₅ (ascii ")\n") l₆ p₆
    → WroteBytes l 0 (comment_line 0 ++ function_line (take k made) (drop (k + 1) made)) l₆ p₆
unfolding function_line
function-wrote made k a b c d e f =
    let rest = wrote_as (rest-is made (k + 1)) refl e in
    wrote_then a (wrote_then b (wrote_then c (wrote_then d (wrote_then rest f))))
