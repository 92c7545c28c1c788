-- What `answer` leaves, by the way it took.
use Prim.Native.Nat.{ℕ, ◌+◌, ◌≤◌, ◌<◌}
use mathlib.Core.Bool.{Bool, true, false}
use mathlib.Core.Path.{◌≡◌, refl, sym, ap, ◌∙◌}
use mathlib.Core.List.{List, ◌++◌}
use native.Mathlib.Omega.{arith}
use borrow.Author.Tests.{leb-true, lt-ltb, le-ltb}
use lib.Dec.{leb}
use lib.ListN.{length, take, drop, length-append}
use lib.Seq.{take_at}
use Rattle.reading.specs.Pick.{pick}
use Rattle.reading.specs.Bytes.{ascii}
use Rattle.reading.specs.Answer.{number, no_room, Ans, got, bad}
use Rattle.reading.proofs.Over.{over-fits}
use Rattle.grammar.specs.Expr.{Solution}
use Rattle.judging.specs.Judge.{reads, judge_solution}
use Rattle.flattening.specs.Uncurry.{flattened}
use Rattle.session.specs.Session.{final}
use Rattle.reading.specs.Answer.{Said}
use Rattle.reading.specs.Answer.{accepted, refused}
use Rattle.replies.specs.Calls.{solution_call}
use Rattle.replies.proofs.Solved.{ToldSolution, solved, not-solved}
use Rattle.writing.specs.Wrote.{WroteBytes}
use Rattle.writing.proofs.Laid.{over-start}
use Rattle.writing.proofs.Wrote.{either}
use Rattle.smt.specs.Term.{Closed, closed_bytes}
use Rattle.smt.specs.Writer.{solution_term}
use Rattle.solsmt.specs.Script.{comment_line, function_line, closed_text, final_text, slice, script}
use Rattle.solsmt.proofs.Made.{list_bytes, term_bytes, bytes-long}

-- So many bytes of the output are what is printed for the text.
abbrev pub Printed : List ℕ → List ℕ → ℕ → Type 0
Printed text out r = (r ≤ length out) × (take r out ≡ script text)

-- Bytes that are written from the start of an output that has room for them.
from_start : {xs out₀ out : List ℕ} {r : ℕ} → length xs ≤ length out₀ → WroteBytes out₀ 0 xs out r → (r ≤ length out) × (take r out ≡ xs)
from_start {xs} {out₀} {out} {r} h w =
    let near : r ≤ length out₀ = either (length out₀) r (λ far. absurd (w.full far (omega (arith, h)) (omega arith))) (λ near. near) in
    let f = w.fits near in
    let size : r ≡ length xs = omega (arith, f.0) in
    (omega (arith, near, w.kept), rw (f.2, over-start xs out₀, over-fits xs out₀ h) (take_at xs (drop (length xs) out₀) r (sym size)))

-- How long the lines are.
comment-long : (r : ℕ) → length (comment_line r) ≡ 5
unfolding comment_line
comment-long r = refl

function-long : (vars term : List ℕ) → length (function_line vars term) ≡ 29 + (length vars + length term)
unfolding function_line
function-long vars term =
    omega (arith, length-append (ascii "(define-fun solution ") (vars ++ (ascii " Bool " ++ (term ++ ascii ")\n"))), length-append vars (ascii " Bool " ++ (term ++ ascii ")\n")), length-append (ascii " Bool ") (term ++ ascii ")\n"), length-append term (ascii ")\n"))

-- The script of a solution has room.
closed-short : (x : Ans Closed) → length (closed_text x) ≤ 65600
unfolding closed_text pick
closed-short (bad r) = omega (arith, comment-long (number r))
closed-short (got c) = go (leb (length (closed_bytes c)) 65536) refl
  where
    go : (b : Bool) → leb (length (closed_bytes c)) 65536 ≡ b → length (pick b (comment_line 0 ++ function_line (list_bytes c) (term_bytes c)) (comment_line (number no_room))) ≤ 65600
    go true h = omega (arith, length-append (comment_line 0) (function_line (list_bytes c) (term_bytes c)), comment-long 0, function-long (list_bytes c) (term_bytes c), bytes-long c, leb-true (length (closed_bytes c)) 65536 h)
    go false h = omega (arith, comment-long (number no_room))

-- A text that is not too long is printed by what its call decides.
by_call : (text : List ℕ) → length text ≤ 8192 → script text ≡ final_text text (final (solution_call text slice slice slice) 0)
unfolding script pick
by_call text h = rw (le-ltb 8192 (length text) h) refl

module _ (text out₀ : List ℕ) {out : List ℕ} {r : ℕ} (room : 65600 ≤ length out₀) where
  -- A refusal is printed.
  refusing : {n m : ℕ} → m ≡ n → WroteBytes out₀ 0 (comment_line m) out r → script text ≡ comment_line n → Printed text out r
  refusing {n} k w e = let l = from_start (omega (arith, comment-long n, room)) (rw k at w) in (l.0, l.1 ∙ sym e)

  -- A text that is too long.
  pub printed-long : {m : ℕ} → 8192 < length text → m ≡ 1 → WroteBytes out₀ 0 (comment_line m) out r → Printed text out r
  unfolding script pick
  printed-long h k w = refusing k w (rw (lt-ltb 8192 (length text) h) refl)

  module _ {c : ℕ} {said : Said} {words : List ℕ} (t : ToldSolution text slice slice slice c said words) (h : length text ≤ 8192) where
    -- A text that is refused.
    pub printed-refused : {n m : ℕ} → said ≡ refused n → m ≡ n → WroteBytes out₀ 0 (comment_line m) out r → Printed text out r
    unfolding final_text
    printed-refused e k w = refusing k w (by_call text h ∙ ap (final_text text) (not-solved t e))

    -- A text that is accepted.
    pub printed-accepted : {k j : ℕ} → said ≡ accepted k j → ((s : Solution) (n : ℕ) → judge_solution (length text) (take k words) ≡ reads s n → WroteBytes out₀ 0 (closed_text (solution_term text s)) out r) → Printed text out r
    unfolding final_text
    printed-accepted {k} e f =
        let a = solved t e in
        let s : Solution = flattened a.before in
        let l = from_start (omega (arith, closed-short (solution_term text s), room)) (f s _ (ap (judge_solution (length text)) a.first ∙ a.back (length text) (omega arith))) in
        (l.0, l.1 ∙ sym (by_call text h ∙ ap (final_text text) a.is))

-- The words that are counted lie in the output.
pub words_inside : {text : List ℕ} {c : ℕ} {said : Said} {words : List ℕ} → ToldSolution text slice slice slice c said words → {k j : ℕ} → said ≡ accepted k j → k ≤ length words
words_inside t e = let a = solved t e in omega (arith, a.long, a.inside)
