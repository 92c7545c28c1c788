-- Demand 3 of the C functions: what they return is a session on one reader.
use Prim.Native.Nat.{ℕ, ◌≤◌}
use mathlib.Core.Path.{◌≡◌, refl, sym, ◌∙◌}
use mathlib.Core.Bool.{Bool, true, false}
use mathlib.Core.List.{List, [], ◌∷◌}
use native.Mathlib.Omega.{arith}
use lib.Dec.{eqb}
use borrow.Author.Tests.{ne_eqb}
use Rattle.reading.specs.Limits.{max_number}
use Rattle.reading.specs.Pick.{pick}
use Rattle.session.specs.Session.{Call, outcome}
use Rattle.session.specs.Compared.{reads_or_sorts}
use Rattle.session.proofs.Unreported.{Positive, positive, count_kept, read-anywhere}
use Rattle.replies.specs.Sessions as reader
use Rattle.replies.specs.Demand3.{Demand3}
use Rattle.reading.specs.Answer.{Said, accepted, refused}
use Rattle.replies.proofs.Whole.{demand3, next_fits}
use Rattle.boundary.specs.Reply.{Reply, Promised, refusal_of, first_of, second_of}
use Rattle.boundary.specs.Sessions.{Turn, opens_at, leaves, Session, said_by, on_reader, all_on_reader}

-- What is said is told by the three numbers.
said-by : (s : Said) → Positive s → pick (eqb (refusal_of s) 0) (accepted (first_of s) (second_of s)) (refused (refusal_of s)) ≡ s
unfolding pick
said-by (accepted a b) p = refl
said-by (refused r) p = rw (ne_eqb r 0 (λ e. omega (arith, p))) refl

said_same : (call : Call) (c : ℕ) (r : Reply) → Promised call c r → said_by r ≡ (outcome call c).said
said_same call c r p = rw (p.refusal, p.first, p.second) (said-by (outcome call c).said (positive call c))

-- A promised reply of a C function, as one of the reader.
module _ (c : ℕ) (small : c ≤ max_number) (t : Turn) where
  on-reader : (b : Bool) → reads_or_sorts t.call.op ≡ b → Promised t.call (pick b 0 c) t.reply
      → reader.Promised t.call c (record { said = said_by t.reply; next = pick b c t.reply.next; tree = t.reply.tree; draft = t.reply.draft; out = t.reply.out })
  unfolding pick
  on-reader false e p = record { said = said_same t.call c t.reply p; count = p.count; working = p.working; body = p.body; output = p.output }
  on-reader true e p =
      let o = read-anywhere t.call c small e in
      record {
        said = said_same t.call 0 t.reply p ∙ o.said;
        count = sym (count_kept t.call c e);
        working = p.working ∙ o.tree;
        body = p.body ∙ o.draft;
        output = p.output ∙ o.out;
      }

  promised : Promised t.call (opens_at c t) t.reply → reader.Promised t.call c (on_reader c t).reply
  promised p = on-reader (reads_or_sorts t.call.op) refl p

pub session : (ts : List Turn) (c : ℕ) → c ≤ max_number → Session c ts → reader.Session c (all_on_reader c ts)
session [] c h s = tt
session (t ∷ ts) c h s = let p = promised c h t s.0 in (p, session ts (leaves c t) (next_fits {t = on_reader c t} h p) s.1)

-- Demand 3 holds of the C functions, for a caller who passes on each count that is returned.
pub c-demand3 : (opened : ℕ) → opened ≤ max_number → (turns : List Turn) → Session opened turns → Demand3 opened (all_on_reader opened turns)
c-demand3 opened h turns s = demand3 opened h (all_on_reader opened turns) (session turns opened h s)
