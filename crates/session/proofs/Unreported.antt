-- What some operations need not be told or report: reading and sorts answer alike at every count and leave it, only reading reports a second
-- number, and no refusal is 0.
use Prim.Native.Nat.{ℕ, ◌+◌, ◌≤◌, ◌<◌}
use mathlib.Core.Path.{◌≡◌, refl, sym, ap, ◌∙◌}
use mathlib.Core.Bool.{Bool, true, false, false≢true}
use native.Mathlib.Omega.{arith}
use lib.Dec.{ltb}
use borrow.Author.Tests.{le-ltb}
use Rattle.reading.specs.Limits.{max_number}
use Rattle.reading.specs.Pick.{pick}
use Rattle.reading.specs.Answer.{number, no_room, numbers_spent, Res, ok, no, Final, accepts, refuses, finish, Said, accepted, refused, over, said_of, count_of, output_of}
use Rattle.reading.specs.Reading.{read_words}
use Rattle.grammar.specs.Sort.{sort_words}
use Rattle.grammar.proofs.Raise.{raise-plains}
use Rattle.grammar.proofs.AnswerHolds.{Post, map_post}
use Rattle.session.specs.Session.{Op, read_one, read_all, sort, expression, bind, solution, Call, Term, a_read, a_sort, an_expr, a_bind, a_solution, term_items, term_words, report, made, room_for, final, outcome}
use Rattle.session.specs.Compared.{op_of, reads_or_sorts}
use Rattle.session.proofs.Made.{Fine, make-fine}
use Rattle.session.proofs.Calls.{not-spent}

-- What is known of what a call makes, is known of what it decides, if refusals have it.
decided : (P : Final Term → Type 0) (room : Term → Bool) (c : ℕ) (x : Res Term) → ((r : ℕ) → 0 < r → P (refuses r)) → Post x (λ m n. P (accepts m n)) → P (finish room c x)
unfolding finish pick
decided P room c (no r) no' p = no' (number r) (not-spent r).0
decided P room c (ok m n) no' p = go (ltb max_number (c + n)) (room m)
  where
    go : (s b : Bool) → P (pick s (refuses numbers_spent) (pick b (accepts m n) (refuses (number no_room))))
    go true b = no' numbers_spent (omega arith)
    go false true = p
    go false false = no' (number no_room) (omega arith)

-- Reading and sorts leave the count.
pub count_kept : (call : Call) (c : ℕ) → reads_or_sorts call.op ≡ true → (outcome call c).count ≡ c
unfolding outcome final count_of
count_kept call c h =
    decided (λ f. count_of c f ≡ c) (room_for call) c (made call) (λ r _. refl)
    (map_post (made call) (Fine call.op 0) (λ m n. c + n ≡ c) (λ m n f. omega (arith, f.none h)) (make-fine call.op call.text call.tree 0))

-- The operations that report two numbers.
abbrev pub reports_two : Op → Bool
reports_two read_one = true
reports_two read_all = true
reports_two sort = false
reports_two expression = false
reports_two bind = false
reports_two solution = false

-- The second number, if one is reported, is 0.
abbrev pub NoSecond : Said → Type 0
NoSecond (accepted a b) = b ≡ 0
NoSecond (refused r) = Unit {0}

one_number : (m : Term) → reports_two (op_of m) ≡ false → NoSecond (report m)
unfolding report
one_number (a_read true r) h = absurd (false≢true (sym h))
one_number (a_read false r) h = absurd (false≢true (sym h))
one_number (a_sort s) h = refl
one_number (an_expr e) h = refl
one_number (a_bind b) h = refl
one_number (a_solution s) h = refl

pub second_none : (call : Call) (c : ℕ) → reports_two call.op ≡ false → NoSecond (outcome call c).said
unfolding outcome final said_of
second_none call c h =
    decided (λ f. NoSecond (said_of report f)) (room_for call) c (made call) (λ r _. tt)
    (map_post (made call) (Fine call.op 0) (λ m n. NoSecond (report m)) (λ m n f. one_number m (rw f.kind h)) (make-fine call.op call.text call.tree 0))

-- No refusal is 0.
abbrev pub Positive : Said → Type 0
Positive (accepted a b) = Unit {0}
Positive (refused r) = 0 < r

report-positive : (m : Term) → Positive (report m)
unfolding report
report-positive (a_read true r) = tt
report-positive (a_read false r) = tt
report-positive (a_sort s) = tt
report-positive (an_expr e) = tt
report-positive (a_bind b) = tt
report-positive (a_solution s) = tt

pub positive : (call : Call) (c : ℕ) → Positive (outcome call c).said
unfolding outcome final said_of
positive call c =
    decided (λ f. Positive (said_of report f)) (room_for call) c (made call) (λ r h. h)
    (map_post (made call) (Fine call.op 0) (λ m n. Positive (report m)) (λ m n f. report-positive m) (make-fine call.op call.text call.tree 0))

-- Reading and sorts have no fresh numbers, so that nothing is raised.
plain-words : (c : ℕ) (m : Term) → reads_or_sorts (op_of m) ≡ true → term_words c m ≡ term_words 0 m
unfolding term_items
plain-words c (a_read all r) h = rw (raise-plains c (read_words r), raise-plains 0 (read_words r)) refl
plain-words c (a_sort s) h = rw (raise-plains c (sort_words s), raise-plains 0 (sort_words s)) refl
plain-words c (an_expr e) h = absurd (false≢true h)
plain-words c (a_bind b) h = absurd (false≢true h)
plain-words c (a_solution s) h = absurd (false≢true h)

-- The outcome at any count, but for the count, is the one at 0.
pub record Anywhere (call : Call) (c : ℕ) : Type 0 where
  pub said : (outcome call 0).said ≡ (outcome call c).said
  pub tree : (outcome call 0).tree ≡ (outcome call c).tree
  pub draft : (outcome call 0).draft ≡ (outcome call c).draft
  pub out : (outcome call 0).out ≡ (outcome call c).out

pub read-anywhere : (call : Call) (c : ℕ) → c ≤ max_number → reads_or_sorts call.op ≡ true → Anywhere call c
unfolding outcome final finish said_of output_of
read-anywhere call c small h =
    let fine = make-fine call.op call.text call.tree 0 in
    let same : final call 0 ≡ final call c = go (made call) fine in
    let out : output_of (term_words 0) (final call 0) call.out ≡ output_of (term_words c) (final call 0) call.out =
    decided (λ f. output_of (term_words 0) f call.out ≡ output_of (term_words c) f call.out) (room_for call) 0 (made call) (λ r _. refl)
    (map_post (made call) (Fine call.op 0) (λ m n. over (term_words 0 m) call.out ≡ over (term_words c m) call.out) (λ m n f. rw (plain-words c m (rw f.kind h)) refl) fine) in
    record { said = ap (said_of report) same; tree = refl; draft = refl; out = out ∙ ap (λ (f : Final Term). output_of (term_words c) f call.out) same }
  where
    go : (x : Res Term) → Post x (Fine call.op 0) → finish (room_for call) 0 x ≡ finish (room_for call) c x
    go (no r) p = refl
    go (ok m n) p = let z : 0 ≡ n = p.none h in rw (le-ltb max_number (c + n) (omega arith), le-ltb max_number (0 + n) (omega arith)) refl
