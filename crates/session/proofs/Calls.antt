-- What one call does: its outcome by what it decides, and that it depends on the lengths of the slices only.
use Prim.Native.Nat.{ℕ, ◌+◌, ◌≤◌, ◌<◌}
use mathlib.Core.Path.{◌≡◌, refl, ap, ap₂, ◌∙◌}
use mathlib.Core.Bool.{true, false}
use mathlib.Core.List.{List}
use native.Mathlib.Omega.{arith}
use lib.Dec.{leb}
use lib.ListN.{length}
use Rattle.reading.specs.Limits.{max_number}
use Rattle.reading.specs.Pick.{pick}
use Rattle.reading.specs.Answer.{Refusal, too_long, not_utf8, ends_early, stray_close, unclosed, too_deep, no_room, malformed, decimal_read, repeated_name, bad_literal, bad_func, unwritable, unprintable, wrong_width, number, numbers_spent, and_then, check, Res, ok, no, Final, accepts, refuses, finish, accepted, refused, zeros, over, said_of, count_of, output_of}
use Rattle.reading.specs.Reading.{read_text, read_words}
use Rattle.reading.proofs.Finish.{finish-spent, finish-short, finish-long}
use Rattle.grammar.specs.Item.{words_of}
use Rattle.grammar.specs.ParseSort.{tree_at}
use Rattle.grammar.specs.Operations.{the_tree, make_sort, make_expr, make_bind, make_solution}
use Rattle.session.specs.Session.{Op, read_one, read_all, sort, expression, bind, solution, Call, Term, a_read, a_sort, an_expr, a_bind, a_solution, term_items, draft_items, term_words, report, make, made, room_for, final, Outcome, outcome}
use Rattle.session.specs.Compared.{Agree}

-- A refused call: the reader as it came in, and zeros throughout every lent slice.
abbrev pub refusal : Call → ℕ → ℕ → Outcome
refusal call c r = record { said = refused r; count = c; tree = zeros call.tree; draft = zeros call.draft; out = zeros call.out }

-- An accepted call at the count c, whose answer m binds n numbers.
abbrev pub acceptance : Call → ℕ → Term → ℕ → Outcome
acceptance call c m n =
    record { said = report m; count = c + n; tree = zeros call.tree; draft = zeros call.draft; out = over (term_words c m) call.out }

-- The outcome by what is decided.
outcome_by : Call → ℕ → Final Term → Outcome
outcome_by call c f =
    record { said = said_of report f; count = count_of c f; tree = zeros call.tree; draft = zeros call.draft; out = output_of (term_words c) f call.out }

pub when_refused : (call : Call) (c r : ℕ) → final call c ≡ refuses r → outcome call c ≡ refusal call c r
unfolding outcome outcome_by said_of count_of output_of
when_refused call c r e = ap (outcome_by call c) e

pub when_accepted : (call : Call) (c : ℕ) (m : Term) (n : ℕ) → final call c ≡ accepts m n → outcome call c ≡ acceptance call c m n
unfolding outcome outcome_by said_of count_of output_of
when_accepted call c m n e = ap (outcome_by call c) e

-- What a call makes depends on the length of the tree slice only.
tree-same : (text a b : List ℕ) → length a ≡ length b → the_tree text a ≡ the_tree text b
unfolding the_tree
tree-same text a b e =
    ap (λ (k : ℕ). and_then (read_text false text) (λ r. and_then (check (leb (length (read_words r)) k) no_room) (λ _. tree_at r.read 0))) e

make_same : (op : Op) (text a b : List ℕ) (n : ℕ) → length a ≡ length b → make op text a n ≡ make op text b n
unfolding make make_sort make_expr make_bind make_solution
make_same read_one text a b n e = refl
make_same read_all text a b n e = refl
make_same sort text a b n e = rw (tree-same text a b e) refl
make_same expression text a b n e = rw (tree-same text a b e) refl
make_same bind text a b n e = rw (tree-same text a b e) refl
make_same solution text a b n e = rw (tree-same text a b e) refl

pub made-same : (x y : Call) → x.op ≡ y.op → x.text ≡ y.text → length x.tree ≡ length y.tree → made x ≡ made y
made-same x y o t l = ap₂ (λ op text. make op text x.tree 0) o t ∙ make_same y.op y.text x.tree y.tree 0 l

pub room-same : (x y : Call) (m : Term) → length x.draft ≡ length y.draft → length x.out ≡ length y.out → room_for x m ≡ room_for y m
unfolding room_for
room-same x y m d o = ap₂ (λ (j k : ℕ). pick (leb (length (words_of (draft_items m))) j) (leb (length (words_of (term_items m))) k) false) d o

-- Calls that agree decide alike at one count.
pub final-same : (x y : Call) (c : ℕ) → Agree x y → final x c ≡ final y c
unfolding final finish
final-same x y c g = ap (finish (room_for x) c) (made-same x y g.op g.text g.tree) ∙ go (made y)
  where
    go : (r : Res Term) → finish (room_for x) c r ≡ finish (room_for y) c r
    go (ok m n) = rw (room-same x y m g.draft g.out) refl
    go (no r) = refl

-- What a call decides, by what it makes.
module _ (call : Call) (c : ℕ) where
  pub decides_early : (r : Refusal) → made call ≡ no r → final call c ≡ refuses (number r)
  unfolding final finish
  decides_early r e = ap (finish (room_for call) c) e

  pub decides_spent : (m : Term) (n : ℕ) → made call ≡ ok m n → max_number < c + n → final call c ≡ refuses numbers_spent
  unfolding final
  decides_spent m n e h = ap (finish (room_for call) c) e ∙ finish-spent (room_for call) c m n h

  pub decides_short : (m : Term) (n : ℕ) → made call ≡ ok m n → c + n ≤ max_number → room_for call m ≡ false → final call c ≡ refuses (number no_room)
  unfolding final
  decides_short m n e h s = ap (finish (room_for call) c) e ∙ finish-short (room_for call) c m n h s

  pub decides_long : (m : Term) (n : ℕ) → made call ≡ ok m n → c + n ≤ max_number → room_for call m ≡ true → final call c ≡ accepts m n
  unfolding final
  decides_long m n e h s = ap (finish (room_for call) c) e ∙ finish-long (room_for call) c m n h s

-- The refusals that are met are neither 0 nor 13.
pub not-spent : (r : Refusal) → (0 < number r) × (number r ≡ numbers_spent → ⊥)
not-spent too_long = (omega arith, λ e. omega arith)
not-spent not_utf8 = (omega arith, λ e. omega arith)
not-spent ends_early = (omega arith, λ e. omega arith)
not-spent stray_close = (omega arith, λ e. omega arith)
not-spent unclosed = (omega arith, λ e. omega arith)
not-spent too_deep = (omega arith, λ e. omega arith)
not-spent no_room = (omega arith, λ e. omega arith)
not-spent malformed = (omega arith, λ e. omega arith)
not-spent decimal_read = (omega arith, λ e. omega arith)
not-spent repeated_name = (omega arith, λ e. omega arith)
not-spent bad_literal = (omega arith, λ e. omega arith)
not-spent bad_func = (omega arith, λ e. omega arith)
not-spent unwritable = (omega arith, λ e. omega arith)
not-spent unprintable = (omega arith, λ e. omega arith)
not-spent wrong_width = (omega arith, λ e. omega arith)

-- An accepted call does not report a refusal.
apart : (a b r : ℕ) → accepted a b ≡ refused r → ⊥
apart a b r e = let z : ◌≡◌ {A = ℕ} 0 1 = cc in omega arith

pub no-refusal : (m : Term) (r : ℕ) → report m ≡ refused r → ⊥
unfolding report
no-refusal (a_read true x) r e = apart _ _ r e
no-refusal (a_read false x) r e = apart _ _ r e
no-refusal (a_sort s) r e = apart _ _ r e
no-refusal (an_expr x) r e = apart _ _ r e
no-refusal (a_bind b) r e = apart _ _ r e
no-refusal (a_solution s) r e = apart _ _ r e
