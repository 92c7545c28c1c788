-- Words that are judged to be a solution, taken apart, and what the answers of the code say of them.
use Prim.Native.Nat.{ℕ, ◌+◌, ◌-◌, ◌*◌, ◌≤◌}
use mathlib.Core.Bool.{Bool, true, false, false≢true}
use mathlib.Core.Path.{◌≡◌, refl, sym, ap, ◌∙◌}
use mathlib.Core.List.{List}
use native.Mathlib.Omega.{arith}
use lib.Dec.{leb}
use lib.ListN.{length, get_or}
use borrow.Author.Tests.{leb-true}
use Rattle.reading.specs.Limits.{max_nodes}
use Rattle.reading.specs.Bytes.{just}
use Rattle.grammar.specs.Item.{words_of}
use Rattle.grammar.specs.Expr.{Solution, binder_items}
use Rattle.grammar.proofs.Lengths.{size-solution}
use Rattle.judging.specs.Judge.{Judged, reads, fails, binders_at, judge_solution}
use Rattle.judging.specs.Spelled.{Spelled}
use Rattle.judging.specs.Ends.{end_of}
use Rattle.std.specs.Prelude.{Result, Ok, Err}
use Rattle.std.specs.Result.{is_ok}
use Rattle.words.specs.Answered.{answered, told, refused}
use Rattle.words.specs.Refusals.{number_of}
use Rattle.words.specs.declared.refusal.Refusal.{Refusal}
use Rattle.judge.proofs.ReadExpr.{ends_at, ends-no}
use Rattle.judging.proofs.Spell.{Low, post_reads, spelled_none}
use Rattle.judging.proofs.SpellSort.{binders-behind}
use Rattle.judging.proofs.SpellExpr.{expr-spelled}
use Rattle.judging.proofs.SolutionParts.{Parts, parts_of}
use Rattle.flattening.specs.Operations.{no_text}
use Rattle.show.specs.Lines.{solution_text}
use Rattle.show.specs.Shown.{text_of, words_text, has_room}
use Rattle.show.proofs.Params.{text-length}

-- How long the text is: three bytes, and nine for each word but the first.
pub parts-length : {words : List ℕ} {s : Solution} → Low words → Parts no_text words s → length (solution_text s) ≡ 3 + 9 * (length words - 1)
parts-length {words} {s} low p =
    let b : Spelled words 1 p.behind (words_of (binder_items s.params)) = post_reads (binders_at no_text (get_or words 0 0) words 1) (λ bs n. Spelled words 1 n (words_of (binder_items bs))) ((binders-behind no_text low (get_or words 0 0)).reach 1 1 (spelled_none p.some)) p.binders in
    omega (arith, p.some, b.ends, (expr-spelled no_text max_nodes words low p.behind p.body).ends, size-solution s, text-length s)

-- The solution that words are judged to be, where there is room for its text.
pub record Placed (words : List ℕ) (room : ℕ) : Type 0 where
  pub solution : Solution
  pub text : words_text words ≡ just (solution_text solution)
  pub parts : Parts no_text words solution
  pub fits : length (solution_text solution) ≤ room

pub placed : (words : List ℕ) (room : ℕ) → has_room (words_text words) room ≡ true → Placed words room
unfolding words_text
placed words room e = go (judge_solution no_text words) refl e
  where
    go : (x : Judged Solution) → judge_solution no_text words ≡ x → has_room (text_of x) room ≡ true → Placed words room
    go (reads s n) h q = record { solution = s; text = ap text_of h; parts = parts_of no_text words h; fits = leb-true (length (solution_text s)) room q }
    go (fails r) h q = absurd (false≢true q)

-- A result by what `is_ok` says of it.
pub ok-at : (x : Result ℕ Refusal) → true ≡ is_ok x → (n : ℕ) × (answered x ≡ told n)
ok-at (Ok n) e = (n, refl)
ok-at (Err r) e = absurd (false≢true (sym e))

pub err-at : (x : Result ℕ Refusal) → false ≡ is_ok x → (r : ℕ) × (answered x ≡ refused r)
err-at (Ok n) e = absurd (false≢true e)
err-at (Err r) e = (number_of r, refl)

-- What the answers of the code say of the text.
module _ (words : List ℕ) (room : ℕ) where
  -- A refusal has no text.
  pub fits-no : {r : ℕ} → refused r ≡ end_of (judge_solution no_text words) → false ≡ has_room (words_text words) room
  unfolding words_text
  fits-no e = ap (λ (j : Judged Solution). has_room (text_of j) room) (sym (ends-no (judge_solution no_text words) e))

  -- A solution has words, and its text is as long as they say.
  pub fits-some : {n : ℕ} → told n ≡ end_of (judge_solution no_text words) → 1 ≤ length words
  fits-some e = (parts_of no_text words (ends_at (judge_solution no_text words) e).1).some

  pub fits_all : {n : ℕ} {t : Bool} → Low words → told n ≡ end_of (judge_solution no_text words) → t ≡ leb (3 + 9 * (length words - 1)) room → t ≡ has_room (words_text words) room
  unfolding words_text
  fits_all {n} low e q =
      let j = ends_at (judge_solution no_text words) e in
      let k : 3 + 9 * (length words - 1) ≡ length (solution_text j.0) = omega (arith, parts-length low (parts_of no_text words j.1)) in
      q ∙ ap (λ (i : ℕ). leb i room) k ∙ ap (λ (x : Judged Solution). has_room (text_of x) room) (sym j.1)
