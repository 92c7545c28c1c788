-- A solution as the code reads it: its parameters are laid in the output, its body in the draft slice.
use Rattle.std.specs.Prelude.{ℕ, Result, Ok, Err, ◌+◌, ◌*◌, ◌≤◌, ◌≡◌, List, [], ◌∷◌, length}
use Rattle.reading.specs.Limits.{max_bytes, max_lists}
use Rattle.reading.specs.Bytes.{Span}
use Rattle.reading.specs.Tree.{Tree, tree_words, nesting}
use Rattle.reading.specs.Answer.{Refusal as Met, Res, ok, no, chain, lifted}
use Rattle.grammar.specs.Item.{raised_words}
use Rattle.grammar.specs.Expr.{Expr, Solution, expr_items, param_items, body_items}
use Rattle.grammar.specs.Scope.{distinct}
use Rattle.grammar.specs.ParseExpr.{child}
use Rattle.places.specs.Spot.{Spot}
use Rattle.scopes.specs.Scopes.{Pairs}
use Rattle.writing.specs.Laid.{laid}
use Rattle.places.specs.Outcome.{bound}
use Rattle.plans.specs.Plans.{factor}
use Rattle.solutions.specs.declared.parts.Parts.{Parts}
use Rattle.words.specs.declared.refusal.Refusal.{Refusal}
use Rattle.words.specs.Refusals.{refusal_of}

-- Where the n parameters of a solution and its body stand.
pub record BodyHere (text ws : List ℕ) (pairs n body : ℕ) : Type 0 where
  pub params : Pairs ws pairs n
  pub there : pairs ≡ 0 → ⊥
  pub spot : Spot ws body
  pub nests : 1 + nesting spot.tree ≤ max_lists
  pub room : n + factor * length (tree_words spot.tree) ≤ bound
  pub bytes : length text ≤ max_bytes

-- The body under its parameters; 10 comes behind it.
unfoldable pub body_of : List ℕ → Tree → List Span → ℕ → Res Expr
body_of text t names next = chain ((child text t).plainly (record { names = names; first = 0 } ∷ []) next) (λ e n. chain (lifted (distinct text names) n) (λ _ m. ok e m))

-- What was made of the body: its words are laid in the draft slice, u words of the parameters being written before.
pub data BodyDone (count u : ℕ) (d d' : List ℕ) : Res Expr → Result Parts Refusal → Type 0 where
  body_wrote : {e : Expr} {n : ℕ} {r : Result Parts Refusal} → r ≡ Ok (record { params = u; body = length (raised_words expr_items count e); fresh = n }) → d' ≡ laid d 0 (raised_words expr_items count e) → BodyDone count u d d' (ok e n) r
  body_refused : {x : Met} {r : Result Parts Refusal} → r ≡ Err (refusal_of x) → BodyDone count u d d' (no x) r

-- What was made of the whole.
pub data PartsDone (count : ℕ) (d d' o o' : List ℕ) : Res Solution → Result Parts Refusal → Type 0 where
  parts_wrote : {s : Solution} {n : ℕ} {r : Result Parts Refusal} → r ≡ Ok (record { params = length (raised_words param_items count s); body = length (raised_words body_items count s); fresh = n }) → d' ≡ laid d 0 (raised_words body_items count s) → o' ≡ laid o 0 (raised_words param_items count s)
      → PartsDone count d d' o o' (ok s n) r
  parts_refused : {x : Met} {r : Result Parts Refusal} → r ≡ Err (refusal_of x) → PartsDone count d d' o o' (no x) r
