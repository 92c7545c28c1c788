-- What a C function returns and leaves, and what it promises of that.
use Rattle.std.specs.Prelude.{ℕ, ◌≡◌, List, []}
use Rattle.reading.specs.Answer.{Said, accepted, refused}
use Rattle.flattening.specs.Operations.{flatten_said, flatten_out}
use Rattle.session.specs.Session.{Call, outcome}

-- What is said, as three numbers: the refusal, 0 if accepted, and the two that are reported, 0 after a refusal.
abbrev pub refusal_of : Said → ℕ
refusal_of (accepted a b) = 0
refusal_of (refused r) = r

abbrev pub first_of : Said → ℕ
first_of (accepted a b) = a
first_of (refused r) = 0

abbrev pub second_of : Said → ℕ
second_of (accepted a b) = b
second_of (refused r) = 0

-- What a C caller sees of a call: the number returned, the two numbers reported, the count afterwards, and the words of the slices.
pub record Reply : Type 0 where
  pub refusal : ℕ
  pub first : ℕ
  pub second : ℕ
  pub next : ℕ
  pub tree : List ℕ
  pub draft : List ℕ
  pub out : List ℕ

-- Expression, bind and solution report one number, and the count.
abbrev pub counted : ℕ → ℕ → ℕ → List ℕ → List ℕ → List ℕ → Reply
counted refusal words next tree draft out =
    record { refusal = refusal; first = words; second = 0; next = next; tree = tree; draft = draft; out = out }

-- Read one, read all and sort are calls on a reader that is opened at 0, and they leave it at 0.
abbrev pub uncounted : ℕ → ℕ → ℕ → List ℕ → List ℕ → Reply
uncounted refusal first second tree out =
    record { refusal = refusal; first = first; second = second; next = 0; tree = tree; draft = []; out = out }

-- The contract of every C function that calls a reader, opened at the count c: the reply is the outcome of the call.
pub record Promised (call : Call) (c : ℕ) (r : Reply) : Type 0 where
  pub refusal : r.refusal ≡ refusal_of (outcome call c).said
  pub first : r.first ≡ first_of (outcome call c).said
  pub second : r.second ≡ second_of (outcome call c).said
  pub count : r.next ≡ (outcome call c).count
  pub working : r.tree ≡ (outcome call c).tree
  pub body : r.draft ≡ (outcome call c).draft
  pub output : r.out ≡ (outcome call c).out

-- What a C caller sees of flattening: the number returned, how many words there are, and the output.
pub record Flat : Type 0 where
  pub refusal : ℕ
  pub words : ℕ
  pub out : List ℕ

abbrev pub flat : ℕ → ℕ → List ℕ → Flat
flat refusal words out = record { refusal = refusal; words = words; out = out }

-- The contract of the C function that flattens words, which takes no reader.
pub record Flattened (words out : List ℕ) (r : Flat) : Type 0 where
  pub refusal : r.refusal ≡ refusal_of (flatten_said words out)
  pub count : r.words ≡ first_of (flatten_said words out)
  pub output : r.out ≡ flatten_out words out
