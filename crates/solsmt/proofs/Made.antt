-- What the operation smtlib made of words, where the list of variables ends in it, and what is printed then.
use Prim.Native.Nat.{ℕ, ◌+◌, ◌≤◌, ◌<◌}
use mathlib.Core.Bool.{Bool, true, false}
use mathlib.Core.Path.{◌≡◌, refl, sym, ap, ◌∙◌}
use mathlib.Core.List.{List, ◌∷◌, ◌++◌}
use native.Mathlib.Omega.{arith}
use borrow.Author.Tests.{leb-true, le-leb}
use lib.Dec.{leb}
use lib.ListN.{length, take, drop, length-append}
use lib.Seq.{take_at, drop-append-add}
use Rattle.reading.specs.Pick.{pick}
use Rattle.reading.specs.Answer.{number, no_room, Ans, got, bad, and_then, accepts, refuses, over, output_of}
use Rattle.reading.proofs.Over.{over-length, over-fits}
use Rattle.grammar.specs.Expr.{Solution}
use Rattle.judging.specs.Judge.{Judged, reads, fails, judge_solution}
use Rattle.judging.proofs.Taken.{same-value}
use Rattle.writing.specs.Wrote.{WroteBytes}
use Rattle.writing.proofs.Wrote.{either}
use Rattle.smt.specs.Sexp.{list, print}
use Rattle.smt.specs.Term.{Var, Term, var_sxs, term_sx, Closed, closed_bytes}
use Rattle.smt.specs.Writer.{vars_of, term_of, solution_term, written}
use Rattle.smt.specs.Operation.{bytes_final, smtlib_by, smtlib_final, smtlib_out}
use Rattle.smtnames.specs.Pieces.{vars_text}
use Rattle.smtlib.specs.Answers.{answer_of}
use Rattle.words.specs.Answered.{told, refused}
use Rattle.solsmt.specs.Script.{comment_line, function_line, closed_text}

-- The bytes of a list of variables, and of a term.
abbrev pub list_bytes : Closed → List ℕ
list_bytes c = print (list (var_sxs c.vars))

abbrev pub term_bytes : Closed → List ℕ
term_bytes c = print (term_sx c.term)

-- Two answers that differ.
apart : {P : Type 0} {a b : ℕ} → told a ≡ refused b → P
apart e = let z : ◌≡◌ {A = ℕ} 0 1 = cc in absurd (omega arith)

-- The solution that the words are, what it is in SMT-LIB, and its n bytes in the slice.
pub record Made (words text l l' : List ℕ) (n : ℕ) : Type 0 where
  pub solution : Solution
  pub end : ℕ
  pub judged : judge_solution (length text) words ≡ reads solution end
  pub closed : Closed
  pub is : solution_term text solution ≡ got closed
  pub size : n ≡ length (closed_bytes closed)
  pub room : n ≤ length l
  pub leaves : l' ≡ over (closed_bytes closed) l

module _ (words text l : List ℕ) where
  -- The operation is done.
  pub made : {l' : List ℕ} {n : ℕ} → told n ≡ answer_of (smtlib_final words text l) → l' ≡ smtlib_out words text l → Made words text l l' n
  unfolding smtlib_final smtlib_out smtlib_by bytes_final written output_of pick
  made {l'} {n} a o = by-judged (judge_solution (length text) words) refl a o
    where
      by-room : (s : Solution) (at : ℕ) (c : Closed) (b : Bool) → judge_solution (length text) words ≡ reads s at → solution_term text s ≡ got c → leb (length (closed_bytes c)) (length l) ≡ b → told n ≡ answer_of (pick b (accepts (closed_bytes c) 0) (refuses (number no_room))) → l' ≡ output_of (λ bytes. bytes) (pick b (accepts (closed_bytes c) 0) (refuses (number no_room))) l → Made words text l l' n
      by-room s at c true j t h a o =
          let z : n ≡ length (closed_bytes c) = cc in
          record { solution = s; end = at; judged = j; closed = c; is = t; size = z; room = omega (arith, z, leb-true (length (closed_bytes c)) (length l) h); leaves = o }
      by-room s at c false j t h a o = apart a

      by-term : (s : Solution) (at : ℕ) (x : Ans Closed) → judge_solution (length text) words ≡ reads s at → solution_term text s ≡ x → told n ≡ answer_of (bytes_final l (and_then x λ c. got (closed_bytes c))) → l' ≡ output_of (λ bytes. bytes) (bytes_final l (and_then x λ c. got (closed_bytes c))) l → Made words text l l' n
      by-term s at (bad r) j t a o = apart a
      by-term s at (got c) j t a o = by-room s at c (leb (length (closed_bytes c)) (length l)) j t refl a o

      by-judged : (j : Judged Solution) → judge_solution (length text) words ≡ j → told n ≡ answer_of (smtlib_by text l j) → l' ≡ output_of (λ bytes. bytes) (smtlib_by text l j) l → Made words text l l' n
      by-judged (fails r) j a o = apart a
      by-judged (reads s at) j a o = by-term s at (solution_term text s) j refl a o

  -- The operation refuses a solution.
  pub not_made : (s : Solution) (n : ℕ) {r : ℕ} → length l ≡ 65536 → judge_solution (length text) words ≡ reads s n → refused r ≡ answer_of (smtlib_final words text l) → closed_text (solution_term text s) ≡ comment_line r
  unfolding smtlib_final smtlib_by bytes_final written pick closed_text
  not_made s n {r} long j a = by-term (solution_term text s) (rw j at a)
    where
      by-room : (c : Closed) (b : Bool) → refused r ≡ answer_of (pick b (accepts (closed_bytes c) 0) (refuses (number no_room))) → pick b (comment_line 0 ++ function_line (list_bytes c) (term_bytes c)) (comment_line (number no_room)) ≡ comment_line r
      by-room c true a = apart (sym a)
      by-room c false a = let z : number no_room ≡ r = cc in ap comment_line z

      by-term : (x : Ans Closed) → refused r ≡ answer_of (bytes_final l (and_then x λ c. got (closed_bytes c))) → closed_text x ≡ comment_line r
      by-term (bad e) a = let z : number e ≡ r = cc in ap comment_line z
      by-term (got c) a = by-room c (leb (length (closed_bytes c)) 65536) (rw long at a)

-- The list of a solution's variables, where the solution can be written.
list-text : (text : List ℕ) (s : Solution) (c : Closed) → solution_term text s ≡ got c → vars_text text s.params ≡ got (list_bytes c)
unfolding solution_term vars_text
list-text text s c e = go (vars_of text s.params) (term_of text s.body) e
  where
    go : (x : Ans (List Var)) (y : Ans Term) → and_then x (λ vs. and_then y λ t. got (record { vars = vs; term = t })) ≡ got c → and_then x (λ vs. got (print (list (var_sxs vs)))) ≡ got (list_bytes c)
    go (bad r) y q = let z : ◌≡◌ {A = ℕ} 0 1 = cc in absurd (omega arith)
    go (got vs) (bad r) q = let z : ◌≡◌ {A = ℕ} 0 1 = cc in absurd (omega arith)
    go (got vs) (got t) q = let z : ◌≡◌ {A = Closed} (record { vars = vs; term = t }) c = cc in ap (λ (d : Closed). got (list_bytes d)) z

-- What is printed where the bytes fit.
fits-text : (c : Closed) → length (closed_bytes c) ≤ 65536 → closed_text (got c) ≡ comment_line 0 ++ function_line (list_bytes c) (term_bytes c)
unfolding closed_text pick
fits-text c h = rw (le-leb (length (closed_bytes c)) 65536 h) refl

-- How long the bytes are.
pub bytes-long : (c : Closed) → length (closed_bytes c) ≡ length (list_bytes c) + (1 + length (term_bytes c))
unfolding closed_bytes
bytes-long c = length-append (list_bytes c) (32 ∷ term_bytes c) ∙ ap (λ (k : ℕ). length (list_bytes c) + k) (omega arith)

module _ {words text l₀ l l' : List ℕ} {k n : ℕ} (long : length l ≡ 65536) (m : Made words text l l' n)
    (listed : (s : Solution) (i : ℕ) (xs : List ℕ) → judge_solution (length text) words ≡ reads s i → vars_text text s.params ≡ got xs → WroteBytes l₀ 0 xs l k) where
  list_wrote : WroteBytes l₀ 0 (list_bytes m.closed) l k
  list_wrote = listed m.solution m.end (list_bytes m.closed) m.judged (list-text text m.solution m.closed m.is)

  -- The list ends at k.
  list-ends : k ≡ length (list_bytes m.closed)
  list-ends =
      either (length l₀) k
      (λ far. absurd (list_wrote.full far (omega (arith, list_wrote.kept, bytes-long m.closed, m.size, m.room)) (omega arith)))
      λ near. omega (arith, (list_wrote.fits near).0)

  -- The bytes of the solution, as the slice has them.
  bytes_are : take n l' ≡ list_bytes m.closed ++ (32 ∷ term_bytes m.closed)
  unfolding closed_bytes
  bytes_are = rw (m.leaves, over-fits (closed_bytes m.closed) l (omega (arith, m.size, m.room))) (take_at (closed_bytes m.closed) (drop (length (closed_bytes m.closed)) l) n (sym m.size))

  -- The slice has them, and the space behind the list is one of them.
  pub made_inside : n ≤ length l'
  made_inside = omega (arith, m.room, ap length m.leaves, over-length (closed_bytes m.closed) l)

  pub space-inside : k < length (take n l')
  space-inside = omega (arith, list-ends, ap length bytes_are, length-append (list_bytes m.closed) (32 ∷ term_bytes m.closed))

  -- The script by the bytes before and behind that space.
  pub made-text : (s : Solution) (i : ℕ) → judge_solution (length text) words ≡ reads s i → comment_line 0 ++ function_line (take k (take n l')) (drop (k + 1) (take n l')) ≡ closed_text (solution_term text s)
  made-text s i j =
      let same : m.solution ≡ s = same-value (sym m.judged ∙ j) in
      let before : take k (take n l') ≡ list_bytes m.closed = rw bytes_are (take_at (list_bytes m.closed) (32 ∷ term_bytes m.closed) k (sym list-ends)) in
      let behind : drop (k + 1) (take n l') ≡ term_bytes m.closed = rw (bytes_are, list-ends) (drop-append-add (list_bytes m.closed) (32 ∷ term_bytes m.closed) 1) in
      rw (before, behind) (sym (ap (λ (t : Solution). closed_text (solution_term text t)) (sym same) ∙ ap closed_text m.is ∙ fits-text m.closed (omega (arith, m.size, m.room, long))))
