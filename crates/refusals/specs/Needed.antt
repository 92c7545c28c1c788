-- For each number of words a byte a text that needs more than half of it.
use Rattle.std.specs.Prelude.{ℕ, ◌-◌, ◌*◌, Bool, true, false, ◌≡◌, refl, List, eqb, ltb, length, replicate}
use Rattle.reading.specs.Pick.{pick}
use Rattle.reading.specs.Bytes.{ascii}
use Rattle.reading.specs.Answer.{Said, accepted, refused, number, no_room}
use Rattle.session.specs.Session.{Op, read_one, read_all, sort, expression, bind, solution, Call, outcome}
use Rattle.session.specs.Compute.{reader_computes}
use Rattle.refusals.specs.Refusals.{per_byte, roomy_call}

-- The slices that a call is lent.
pub data Slice : Type 0 where
  tree draft out : Slice

-- Words for each byte of the text, in one slice.
abbrev pub per_byte_of : Op → Slice → ℕ
per_byte_of op tree = (per_byte op).tree
per_byte_of op draft = (per_byte op).draft
per_byte_of op out = (per_byte op).out

-- A call with so many words in one slice; its other slices are kept.
abbrev pub lending : Slice → ℕ → Call → Call
lending tree n c = record { op = c.op; text = c.text; tree = replicate n 0; draft = c.draft; out = c.out }
lending draft n c = record { op = c.op; text = c.text; tree = c.tree; draft = replicate n 0; out = c.out }
lending out n c = record { op = c.op; text = c.text; tree = c.tree; draft = c.draft; out = replicate n 0 }

-- The refusal 7.
unfoldable pub is_seven : Said → Bool
is_seven (accepted a b) = false
is_seven (refused r) = eqb r (number no_room)

-- A new reader refuses a text with 7 where one slice has so many words.
unfoldable pub lacks_room : Op → Slice → List ℕ → ℕ → Bool
unfolding reader_computes is_seven
lacks_room op s text n = is_seven (outcome (lending s n (roomy_call op text)) 0).said

-- A text needs so many words in a slice, which are more than half of what is promised to be enough: with one word fewer its call is
-- refused with 7, with these it is not.
unfoldable pub needs : Op → Slice → List ℕ → ℕ → Bool
unfolding lacks_room
needs op s text n =
    pick (lacks_room op s text n) false (pick (lacks_room op s text (n - 1)) (ltb (per_byte_of op s * length text) (2 * n)) false)

-- Nothing is promised of a slice that an operation does not use; of any other some text needs more than half.
pub data Used (op : Op) (s : Slice) : Type 0 where
  unused : per_byte_of op s ≡ 0 → Used op s
  needed : (text : List ℕ) (n : ℕ) → needs op s text n ≡ true → Used op s

-- So it is for every operation and slice: the text, and the words that it needs.
pub used : (op : Op) (s : Slice) → Used op s
unfolding needs
used read_one tree = unused refl
used read_one draft = unused refl
used read_one out = needed (ascii "1") 5 refl
used read_all tree = unused refl
used read_all draft = unused refl
used read_all out = needed (ascii "1") 5 refl
used sort tree = needed (ascii "1") 5 refl
used sort draft = unused refl
used sort out = needed (ascii "(func 64()a)") 133 refl
used expression tree = needed (ascii "1") 5 refl
used expression draft = unused refl
used expression out = needed (ascii "((1 apply(func 64()(func 64()a)))1)") 269 refl
used bind tree = needed (ascii "1") 5 refl
used bind draft = unused refl
used bind out = needed (ascii "((a(func 64()(func 64()a)))(1))") 270 refl
used solution tree = needed (ascii "1") 5 refl
used solution draft = needed (ascii "(1()((1 apply(func 64()(func 64()(func 64()a))))1))") 397 refl
used solution out = needed (ascii "(1((a(func 64()(func 64()a))))1)") 269 refl
