-- What a function answers that passes a refusal on, at the exit of a `?`.
use mathlib.Core.Path.{◌≡◌, ap, ◌∙◌}
use Rattle.std.specs.Prelude.{Result, Ok, Err}
use Rattle.std.specs.Result.{IsErr, IsErrAnd}
use Rattle.words.specs.Answered.{Answered, refused, answered}
use Rattle.words.specs.Refusals.{number_of}
use Rattle.words.specs.declared.refusal.Refusal.{Refusal}

pub exits : {T : Type 0} {x : Answered T} (e : Refusal) (r : Result T Refusal) → IsErr r × IsErrAnd r (λ y. y ≡ e) → refused (number_of e) ≡ x → answered r ≡ x
exits e (Ok a) h q = absurd h.1
exits e (Err y) h q = ap (λ z. refused (number_of z)) h.1 ∙ q
