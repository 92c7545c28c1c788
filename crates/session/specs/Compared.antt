-- What demand 3 of document 01 compares: calls, and the terms that they are answered with. The comments in quotation marks are the paper's words.
use Rattle.std.specs.Prelude.{ℕ, ◌≡◌, Bool, true, false, [], length}
use Rattle.reading.specs.Answer.{Final, accepts, refuses}
use Rattle.grammar.specs.Scoped.{Scoped, ScopedPreds, ScopedSolution}
use Rattle.flattening.specs.Uncurry.{flattened}
use Rattle.session.specs.Session.{Op, read_one, read_all, sort, expression, bind, solution, Call, Term, a_read, a_sort, an_expr, a_bind, a_solution, room_for}

-- The operation that answers with such a term.
abbrev pub op_of : Term → Op
op_of (a_read false r) = read_one
op_of (a_read true r) = read_all
op_of (a_sort s) = sort
op_of (an_expr e) = expression
op_of (a_bind b) = bind
op_of (a_solution s) = solution

-- The operations that bind no number.
abbrev pub reads_or_sorts : Op → Bool
reads_or_sorts read_one = true
reads_or_sorts read_all = true
reads_or_sorts sort = true
reads_or_sorts expression = false
reads_or_sorts bind = false
reads_or_sorts solution = false

-- "a parameter encloses the solution's expression, an exists its body", "a let enclosing its body": each fresh number that an answer at the
-- count c uses is bound by one that encloses it.
abbrev pub ScopedTerm : ℕ → Term → Type 0
ScopedTerm c (a_read all r) = Unit {0}
ScopedTerm c (a_sort s) = Unit {0}
ScopedTerm c (an_expr e) = Scoped e c []
ScopedTerm c (a_bind b) = ScopedPreds c b.preds
ScopedTerm c (a_solution s) = ScopedSolution c (flattened s)

-- The same of what a call decides; a refusal uses no number.
abbrev pub ScopedFinal : ℕ → Final Term → Type 0
ScopedFinal c (accepts m n) = ScopedTerm c m
ScopedFinal c (refuses r) = Unit {0}

-- Two calls with the same operation and text, and slices of the same lengths; the words that the slices hold may differ.
pub record Agree (old new : Call) : Type 0 where
  pub op : old.op ≡ new.op
  pub text : old.text ≡ new.text
  pub tree : length old.tree ≡ length new.tree
  pub draft : length old.draft ≡ length new.draft
  pub out : length old.out ≡ length new.out

-- A call with the same operation and text, and a tree slice of the same length; its draft and output may have any lengths.
pub record SameText (call other : Call) : Type 0 where
  pub op : other.op ≡ call.op
  pub text : other.text ≡ call.text
  pub tree : length other.tree ≡ length call.tree

-- Such a call, whose draft and output are long enough for an answer.
pub record LongEnough (call long : Call) (m : Term) : Type 0 where
  pub same : SameText call long
  pub room : room_for long m ≡ true
