-- What the draft of a solution decides behind its tree, and what it has left in the slices before it clears.
use Rattle.std.specs.Prelude.{ℕ, ◌≡◌, List, Result, Ok, Err}
use Rattle.reading.specs.Answer.{Final}
use Rattle.grammar.specs.Item.{raised_words}
use Rattle.grammar.specs.Expr.{Solution, param_items, body_items}
use Rattle.words.specs.declared.refusal.Refusal.{Refusal}
use Rattle.words.specs.Answered.{answered}
use Rattle.solutions.specs.declared.parts.Parts.{Parts}
use Rattle.parse.specs.Answers.{Laid, draft_said, count_on, with_count}
use Rattle.parse.specs.declared.Drafted.{Drafted}

-- Behind the refusals met in the tree: 13, and last 7 where the draft slice has room for fewer words.
abbrev pub judged_by : Result Parts Refusal → ℕ → ℕ → Result Drafted Refusal
judged_by (Err e) c room = Err e
judged_by (Ok p) c room = with_count (λ k. record { params = p.params; body = p.body; count = k }) (count_on p.body p.fresh c room)

-- The answer is given, and no slice is cleared yet.
pub record AttemptedDraft (c : ℕ) (f : Final Solution) (d d' o o' : List ℕ) (r : Result Drafted Refusal) : Type 0 where
  pub answer : answered r ≡ draft_said c f
  pub body : Laid (raised_words body_items c) f d d'
  pub params : Laid (raised_words param_items c) f o o'
