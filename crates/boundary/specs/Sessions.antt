-- A session over the C functions: each takes the count that the one before it returned. Read one, read all and sort take none and return
-- none; the caller's count stays as it is.
use Rattle.std.specs.Prelude.{ℕ, List, [], ◌∷◌, eqb}
use Rattle.reading.specs.Pick.{pick}
use Rattle.session.specs.Session.{Call}
use Rattle.session.specs.Compared.{reads_or_sorts}
use Rattle.replies.specs.Sessions as reader
use Rattle.reading.specs.Answer.{Said}
use Rattle.reading.specs.Answer.{accepted, refused}
use Rattle.boundary.specs.Reply.{Reply, Promised}

-- A call and what the C function returned and left.
pub record Turn : Type 0 where
  pub call : Call
  pub reply : Reply

-- The count of the reader that is opened for a call, where the caller's count is c; and the caller's count afterwards.
abbrev pub opens_at : ℕ → Turn → ℕ
opens_at c t = pick (reads_or_sorts t.call.op) 0 c

abbrev pub leaves : ℕ → Turn → ℕ
leaves c t = pick (reads_or_sorts t.call.op) c t.reply.next

-- Each reply is promised.
abbrev pub Session : ℕ → List Turn → Type 0
Session c [] = Unit {0}
Session c (t ∷ ts) = Promised t.call (opens_at c t) t.reply × Session (leaves c t) ts

-- What is said, by the number returned and the two that are reported.
abbrev pub said_by : Reply → Said
said_by r = pick (eqb r.refusal 0) (accepted r.first r.second) (refused r.refusal)

-- The same turns on one reader.
abbrev pub on_reader : ℕ → Turn → reader.Turn
on_reader c t =
    record {
      call = t.call;
      reply = record { said = said_by t.reply; next = leaves c t; tree = t.reply.tree; draft = t.reply.draft; out = t.reply.out };
    }

abbrev pub all_on_reader : ℕ → List Turn → List reader.Turn
all_on_reader c [] = []
all_on_reader c (t ∷ ts) = on_reader c t ∷ all_on_reader (leaves c t) ts
