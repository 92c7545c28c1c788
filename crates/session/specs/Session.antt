-- Calls on a reader, and what each answers and leaves.
use Rattle.std.specs.Prelude.{ℕ, Bool, true, false, List, [], length}
use Rattle.reading.specs.Pick.{pick}
use Rattle.reading.specs.Answer.{Res, M, ◌>>=◌, done, lifted, Final, accepts, refuses, finish, fits_in, Said, accepted, zeros, output_of, said_of, count_of}
use Rattle.reading.specs.Reading.{Read, read_text, read_words, read_report}
use Rattle.grammar.specs.Sort.{Sort, sort_words}
use Rattle.grammar.specs.Item.{Item, plains, raise, words_of, bound}
use Rattle.grammar.specs.Expr.{Expr, expr_items, Bind, bind_items, Solution, solution_items}
use Rattle.grammar.specs.Operations.{make_sort, make_expr, make_bind, make_solution}
use Rattle.flattening.specs.Uncurry.{flattened}

pub data Op : Type 0 where
  read_one read_all sort expression bind solution : Op

-- A call: the operation, the text, and the words that the lent slices hold.
pub record Call : Type 0 where
  pub op : Op
  pub text : List ℕ
  pub tree : List ℕ
  pub draft : List ℕ
  pub out : List ℕ

-- What an operation makes of its text: one expression or all, a sort, an expression, a bind, a solution before flattening.
pub data Term : Type 0 where
  a_read : Bool → Read → Term
  a_sort : Sort → Term
  an_expr : Expr → Term
  a_bind : Bind → Term
  a_solution : Solution → Term

-- What the output is written from.
unfoldable pub term_items : Term → List Item
term_items (a_read all r) = plains (read_words r)
term_items (a_sort s) = plains (sort_words s)
term_items (an_expr e) = expr_items e
term_items (a_bind b) = bind_items b
term_items (a_solution s) = solution_items (flattened s)

-- What the draft takes while a solution is made.
unfoldable pub draft_items : Term → List Item
draft_items (a_read all r) = []
draft_items (a_sort s) = []
draft_items (an_expr e) = []
draft_items (a_bind b) = []
draft_items (a_solution s) = expr_items s.body

-- The words of the output at the reader's count c: each fresh number is raised by it.
abbrev pub term_words : ℕ → Term → List ℕ
term_words c m = words_of (raise c (term_items m))

-- The two numbers that an accepted call reports: those of reading, else the number of words and 0.
unfoldable pub report : Term → Said
report (a_read all r) = read_report all r
report (a_sort s) = accepted (length (sort_words s)) 0
report (an_expr e) = accepted (length (words_of (expr_items e))) 0
report (a_bind b) = accepted (length (words_of (bind_items b))) 0
report (a_solution s) = accepted (length (words_of (solution_items (flattened s)))) 0

unfoldable pub make : Op → List ℕ → List ℕ → M Term
make read_one text tree = do
  r ← lifted (read_text false text)
  done (a_read false r)
make read_all text tree = do
  r ← lifted (read_text true text)
  done (a_read true r)
make sort text tree = do
  s ← make_sort text tree
  done (a_sort s)
make expression text tree = do
  e ← make_expr text tree
  done (an_expr e)
make bind text tree = do
  b ← make_bind text tree
  done (a_bind b)
make solution text tree = do
  s ← make_solution text tree
  done (a_solution s)

-- What a call makes with numbers from 0 and how many it binds, or the refusal that comes before 13.
abbrev pub made : Call → Res Term
made call = make call.op call.text call.tree 0

-- The draft and the output are long enough.
unfoldable pub room_for : Call → Term → Bool
room_for call m = pick (fits_in call.draft (words_of (draft_items m))) (fits_in call.out (words_of (term_items m))) false

-- What a call on a reader at the count c decides.
unfoldable pub final : Call → ℕ → Final Term
final call c = finish (room_for call) c (made call)

-- The answer, the reader's count and the words of the three slices after a call.
pub record Outcome : Type 0 where
  pub said : Said
  pub count : ℕ
  pub tree : List ℕ
  pub draft : List ℕ
  pub out : List ℕ

-- Tree and draft are zero after every call; the output is zero after a refusal.
unfoldable pub outcome : Call → ℕ → Outcome
outcome call c =
    record {
      said = said_of report (final call c);
      count = count_of c (final call c);
      tree = zeros call.tree;
      draft = zeros call.draft;
      out = output_of (term_words c) (final call c) call.out;
    }

-- The numbers that what is decided at the count c binds.
unfoldable pub bound_by : ℕ → Final Term → List ℕ
bound_by c (accepts m n) = bound (raise c (term_items m))
bound_by c (refuses r) = []
