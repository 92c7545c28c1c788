-- Demand 3 of document 01, with the words that C-17 of document 02 gives it: one claim about every list of calls on one reader. It speaks of the
-- replies that the methods' contracts promise. The comments in quotation marks are the papers' words.
use Rattle.std.specs.Prelude.{ℕ, ◌+◌, ◌≤◌, ◌<◌, ◌≡◌, ◌⊎◌, true, List, [], ◌∷◌, ◌++◌, length}
use Rattle.reading.specs.Limits.{max_number}
use Rattle.reading.specs.Answer.{number, no_room, numbers_spent, Final, accepts, refuses, zeros, over}
use Rattle.grammar.specs.Item.{words_of, bound}
use Rattle.grammar.specs.Numbers.{Exactly}
use Rattle.session.specs.Session.{Call, Term, term_items, term_words, report, bound_by}
use Rattle.session.specs.Compared.{op_of, reads_or_sorts, ScopedTerm, ScopedFinal, Agree, SameText, LongEnough}
use Rattle.replies.specs.Sessions.{Reply, Turn, last_count}
use Rattle.replies.specs.Sessions.{Promised}
use Rattle.reading.specs.Answer.{refused}

-- A reply that refuses with the number r: the reader as it came in, and zeros throughout every lent slice.
pub record Refuses (call : Call) (c r : ℕ) (reply : Reply) : Type 0 where
  pub said : reply.said ≡ refused r
  pub next : reply.next ≡ c
  pub tree : reply.tree ≡ zeros call.tree
  pub draft : reply.draft ≡ zeros call.draft
  pub out : reply.out ≡ zeros call.out

-- A reply that answers with a term m of the call's operation, which binds n numbers: it reports the term, and the count is raised by n. The
-- term's words, each fresh number raised by c, stand whole from the start of the output on, and no later word is changed.
pub record Accepts (call : Call) (c : ℕ) (m : Term) (n : ℕ) (reply : Reply) : Type 0 where
  pub op : op_of m ≡ call.op
  pub said : reply.said ≡ report m
  pub next : reply.next ≡ c + n
  pub tree : reply.tree ≡ zeros call.tree
  pub draft : reply.draft ≡ zeros call.draft
  pub room : length (term_words c m) ≤ length call.out
  pub out : reply.out ≡ over (term_words c m) call.out

-- A reply that gives what is decided.
abbrev pub Gives : Call → ℕ → Final Term → Reply → Type 0
Gives call c (accepts m n) reply = Accepts call c m n reply
Gives call c (refuses r) reply = Refuses call c r reply

-- A turn at the count c has an answer, and every fresh number of it is bound by a parameter or "an enclosing exists or let" of that answer.
pub record Answered (c : ℕ) (t : Turn) : Type 0 where
  pub answer : Final Term
  pub gives : Gives t.call c answer t.reply
  pub scoped : ScopedFinal c answer

-- The same of every turn of a session; and the numbers that its answers bind.
abbrev pub AllAnswered : ℕ → List Turn → Type 0
AllAnswered c [] = Unit {0}
AllAnswered c (t ∷ ts) = Answered c t × AllAnswered t.reply.next ts

abbrev pub bound_in : (c : ℕ) (ts : List Turn) → AllAnswered c ts → List ℕ
bound_in c [] a = []
bound_in c (t ∷ ts) a = bound_by c a.0.answer ++ bound_in t.reply.next ts a.1

-- A call on an old reader, at the count c, and one on a new reader: both refuse with the number r, or both accept with the same term.
abbrev pub BothRefuse : Call → Call → ℕ → ℕ → Reply → Reply → Type 0
BothRefuse old new c r ro rn = Refuses old c r ro × Refuses new 0 r rn

abbrev pub BothAccept : Call → Call → ℕ → Term → ℕ → Reply → Reply → Type 0
BothAccept old new c m n ro rn = Accepts old c m n ro × Accepts new 0 m n rn

-- "if a refusal that comes before 13 applies": it does not depend on draft and output, and "both readers give it".
pub record Early (old new : Call) (c r : ℕ) (ro rn : Reply) : Type 0 where
  pub not13 : r ≡ numbers_spent → ⊥
  pub always : (other : Call) (reply : Reply) → SameText new other → Promised other 0 reply → Refuses other 0 r reply
  pub both : BothRefuse old new c r ro rn

-- "Otherwise": the new reader's answer is m, and binds n numbers.
pub record Later (old new : Call) (c : ℕ) (m : Term) (n : ℕ) (ro rn : Reply) : Type 0 where
  -- "n is how many numbers the new reader's answer binds, taken as if draft and output were long enough"
  pub as_if_long : (long : Call) (reply : Reply) → LongEnough new long m → Promised long 0 reply → Accepts long 0 m n reply
  pub binds : Exactly 0 (bound (term_items m)) n
  -- "The old reader answers 13 exactly when c + n exceeds 2^64 - 1."
  pub spent : max_number < c + n → Refuses old c numbers_spent ro
  pub not_spent : c + n ≤ max_number → ro.said ≡ refused numbers_spent → ⊥
  -- "Otherwise both give the same 7, or both accept, with the same words and reported numbers but each fresh number raised by c; the old
  -- one's count becomes c + n"
  pub otherwise : c + n ≤ max_number → BothRefuse old new c (number no_room) ro rn ⊎ BothAccept old new c m n ro rn
  pub new_words : term_words 0 m ≡ words_of (term_items m)
  -- "and its answer binds the n numbers from c on, each once"
  pub old_binds : Exactly c (bound_by c (accepts m n)) (c + n)
  pub scoped : ScopedTerm c m

-- The reply ro to a call on an old reader, at the count c, and the reply rn to a call that agrees with it on a new one.
pub data Alike (old new : Call) (c : ℕ) (ro rn : Reply) : Type 0 where
  early : (r : ℕ) → Early old new c r ro rn → Alike old new c ro rn
  later : (m : Term) (n : ℕ) → Later old new c m n ro rn → Alike old new c ro rn

-- "Demand 3 is a single claim about the whole list of calls": a list, which may be empty, of calls of the six operations, each with any text
-- and slices of any lengths and words, on a reader that was opened at a count.
pub record Demand3 (opened : ℕ) (turns : List Turn) : Type 0 where
  -- every call is answered, and every fresh number of every answer is bound by a parameter or an enclosing exists or let of that answer
  pub answered : AllAnswered opened turns
  -- no number is bound twice in the whole list, and the count is what the reader was opened at plus all that accepted answers bound
  pub numbers : Exactly opened (bound_in opened turns answered) (last_count opened turns)
  -- the count stays one that a reader holds
  pub fits : last_count opened turns ≤ max_number
  -- an old reader and a new one answer the next call alike
  pub alike : (old new : Call) (ro rn : Reply) → Agree old new → Promised old (last_count opened turns) ro → Promised new 0 rn
      → Alike old new (last_count opened turns) ro rn
  -- ".. or any in read or sort, both readers give it"
  pub read_or_sort : (old new : Call) (ro rn : Reply) → Agree old new → Promised old (last_count opened turns) ro → Promised new 0 rn
      → reads_or_sorts new.op ≡ true → (r : ℕ) → rn.said ≡ refused r → BothRefuse old new (last_count opened turns) r ro rn
