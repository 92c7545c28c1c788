-- What an operation decides, as the code answers it, and what it has left in the output before it clears.
use Rattle.std.specs.Prelude.{ℕ, ◌+◌, ◌-◌, ◌≡◌, List, ltb, length, Result, Ok, Err}
use Rattle.reading.specs.Limits.{max_number}
use Rattle.reading.specs.Pick.{pick}
use Rattle.reading.specs.Answer.{Final, accepts, refuses, over, zeros}
use Rattle.grammar.specs.Item.{Item, words_of, raised_words}
use Rattle.grammar.specs.Expr.{Expr, expr_items, Bind, bind_items, Solution, param_items, body_items}
use Rattle.grammar.specs.Sort.{Sort, sort_words}
use Rattle.words.specs.declared.refusal.Refusal.{Refusal}
use Rattle.words.specs.declared.refusal.Refusal.TheVariants as refusal
use Rattle.words.specs.Answered.{Answered, told, refused, answered, sized_by}
use Rattle.plans.specs.declared.progress.Progress.{Progress}
use Rattle.parse.specs.declared.Counted.{Counted}
use Rattle.parse.specs.declared.Drafted.{Drafted}

-- The answer of the operation sort.
abbrev pub sort_said : Final Sort → Answered ℕ
sort_said f = sized_by sort_words f

-- A value's words are laid over the output; after a refusal it is still to be cleared.
abbrev pub Laid : {A : Type 0} → (A → List ℕ) → Final A → List ℕ → List ℕ → Type 0
Laid words (accepts a n) out out' = out' ≡ over (words a) out
Laid words (refuses r) out out' = Unit {0}

-- The answer is given, and no slice is cleared yet.
pub record Attempted {A : Type 0} (words : A → List ℕ) (f : Final A) (out out' : List ℕ) (r : Result ℕ Refusal) : Type 0 where
  pub answer : answered r ≡ sized_by words f
  pub left : Laid words f out out'

-- How many words a value has, and the reader's count afterwards; or the refusal's number.
abbrev pub counted_by : {A : Type 0} → (A → List Item) → ℕ → Final A → Answered Counted
counted_by items c (accepts a n) = told (record { words = length (words_of (items a)); count = c + n })
counted_by items c (refuses r) = refused r

-- The answers of the operations expression and bind.
abbrev pub expr_said : ℕ → Final Expr → Answered Counted
expr_said c f = counted_by expr_items c f

abbrev pub bind_said : ℕ → Final Bind → Answered Counted
bind_said c f = counted_by bind_items c f

-- The same as Attempted, at the reader's count.
pub record AttemptedAt {A : Type 0} (items : A → List Item) (c : ℕ) (f : Final A) (out out' : List ℕ) (r : Result Counted Refusal) : Type 0 where
  pub answer : answered r ≡ counted_by items c f
  pub left : Laid (raised_words items c) f out out'

-- The count behind so many words that take so many numbers: 13, and last 7 where there is room for fewer words.
abbrev pub count_on : ℕ → ℕ → ℕ → ℕ → Result ℕ Refusal
count_on words fresh c room = pick (ltb (max_number - c) fresh) (Err refusal.NumbersSpent) (pick (ltb room words) (Err refusal.NoRoom) (Ok (c + fresh)))

-- What is made of a count, or the refusal.
abbrev pub with_count : {A : Type 0} → (ℕ → A) → Result ℕ Refusal → Result A Refusal
with_count f (Ok c) = Ok (f c)
with_count f (Err e) = Err e

-- What comes behind the refusals met in the tree.
abbrev pub finished_by : Result Progress Refusal → ℕ → ℕ → Result Counted Refusal
finished_by (Err e) c room = Err e
finished_by (Ok p) c room = with_count (λ k. record { words = p.words; count = k }) (count_on p.words p.next c room)

-- A value, or an error that a refusal gives.
abbrev pub ValueOr : {A E : Type 0} → (Refusal → E → Type 0) → Result A Refusal → Result A E → Type 0
ValueOr gives (Ok a) r = r ≡ Ok a
ValueOr gives (Err x) r = (e : _) × (r ≡ Err e) × gives x e

-- The same as `finished_by`, whatever errors say refusals.
abbrev pub Finished : {E : Type 0} → (Refusal → E → Type 0) → Result Progress E → ℕ → ℕ → Result Counted E → Type 0
Finished gives (Err e) c room r = r ≡ Err e
Finished gives (Ok p) c room r = ValueOr gives (finished_by (Ok p) c room) r

-- The output is cleared after a refusal.
abbrev pub closed_by : {E : Type 0} → Result Counted E → List ℕ → List ℕ
closed_by (Ok a) out = out
closed_by (Err e) out = zeros out

-- The answer of a draft: how many words the parameters and the body have, and the count afterwards.
abbrev pub draft_said : ℕ → Final Solution → Answered Drafted
draft_said c (accepts s n) = told (record { params = length (words_of (param_items s)); body = length (words_of (body_items s)); count = c + n })
draft_said c (refuses r) = refused r
