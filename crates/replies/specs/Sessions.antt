-- What a method promises of its reply; and a session: calls on one reader, each on the reader that the last one returned.
use Rattle.std.specs.Prelude.{ℕ, ◌≡◌, List, [], ◌∷◌}
use Rattle.session.specs.Session.{Call, outcome}
use Rattle.reading.specs.Answer.{Said}

-- What a caller sees of a call: what is said, the count of the reader that comes back, and the words of the slices.
pub record Reply : Type 0 where
  pub said : Said
  pub next : ℕ
  pub tree : List ℕ
  pub draft : List ℕ
  pub out : List ℕ

-- The contract of every method, for a call on a reader at the count c: the reply is the outcome of the call.
pub record Promised (call : Call) (c : ℕ) (r : Reply) : Type 0 where
  pub said : r.said ≡ (outcome call c).said
  pub count : r.next ≡ (outcome call c).count
  pub working : r.tree ≡ (outcome call c).tree
  pub body : r.draft ≡ (outcome call c).draft
  pub output : r.out ≡ (outcome call c).out

-- A call and its reply.
pub record Turn : Type 0 where
  pub call : Call
  pub reply : Reply

-- A session on a reader at the count c: each reply is promised at the count that the reply before it returned.
abbrev pub Session : ℕ → List Turn → Type 0
Session c [] = Unit {0}
Session c (t ∷ ts) = Promised t.call c t.reply × Session t.reply.next ts

-- The count of the reader in the end.
abbrev pub last_count : ℕ → List Turn → ℕ
last_count c [] = c
last_count c (t ∷ ts) = last_count t.reply.next ts
