-- Hypotheses of demand 3 that can be met: every call has a reply that is promised, and every list of calls a session.
use Prim.Native.Nat.{ℕ}
use mathlib.Core.Path.{◌≡◌, refl, ap}
use mathlib.Core.List.{List, [], ◌∷◌, map}
use Rattle.session.specs.Session.{Call, outcome}
use Rattle.replies.specs.Sessions.{Reply, Turn, Session}
use Rattle.replies.specs.Sessions.{Promised}

-- The reply of a call at the count c.
abbrev pub reply_to : Call → ℕ → Reply
reply_to call c =
    record { said = (outcome call c).said; next = (outcome call c).count; tree = (outcome call c).tree; draft = (outcome call c).draft; out = (outcome call c).out }

pub promised : (call : Call) (c : ℕ) → Promised call c (reply_to call c)
promised call c = record { said = refl; count = refl; working = refl; body = refl; output = refl }

-- A session with these calls, on a reader that is opened at a count.
pub record Had (opened : ℕ) (calls : List Call) : Type 0 where
  pub turns : List Turn
  pub session : Session opened turns
  pub all : map (λ (t : Turn). t.call) turns ≡ calls

pub session_of : (calls : List Call) (opened : ℕ) → Had opened calls
session_of [] opened = record { turns = []; session = tt; all = refl }
session_of (x ∷ xs) opened =
    let rest = session_of xs (outcome x opened).count in
    record { turns = record { call = x; reply = reply_to x opened } ∷ rest.turns; session = (promised x opened, rest.session); all = ap (λ (l : List Call). x ∷ l) rest.all }
