-- What the parser of expressions asks of a call and leaves behind it: a plan, operands, an expression.
use Rattle.std.specs.Prelude.{◌≡◌, ℕ, ◌+◌, ◌*◌, ◌<◌, ◌≤◌, true, false, List, [], ◌∷◌, ◌++◌, length, drop, Result, Ok, Err}
use Rattle.reading.specs.Limits.{max_bytes, max_lists}
use Rattle.reading.specs.Bytes.{Span}
use Rattle.reading.specs.Tree.{symbol, Tree, Trees, atom, list, tcons, trees, tree_words, trees_words, nesting, nestings}
use Rattle.reading.specs.Answer.{Refusal as Met, ok, no}
use Rattle.grammar.specs.Scope.{Scope}
use Rattle.grammar.specs.ParseExpr.{child}
use Rattle.grammar.specs.Written.{W, told, after, operands_w, end_w, Last, no_last, seen_last, plain_last, bound_last}
use Rattle.places.specs.Spot.{Spot}
use Rattle.scopes.specs.Scopes.{Pairs, Opened, inner, slots}
use Rattle.writing.specs.Laid.{laid}
use Rattle.places.specs.Outcome.{bound}
use Rattle.plans.specs.Late.{filled}
use Rattle.words.specs.declared.refusal.Refusal.{Refusal}
use Rattle.words.specs.Refusals.{refusal_of}
use Rattle.plans.specs.declared.progress.Progress.{Progress}
use Rattle.plans.specs.declared.plan.Plan.{Plan}
use Rattle.plans.specs.declared.plan.Plan.TheVariants.{Leaf, Go}
use Rattle.plans.specs.declared.plan.Run.{Run}

-- A tree of so many words is written in at most 16 times as many, and takes at most as many numbers.
abbrev pub factor : ℕ
factor = 16

-- So far the words have come, and this number is next.
abbrev pub reached : ℕ → ℕ → Result Progress Refusal
reached w m = Ok (record { words = w; next = m })

-- The words are laid from w on, the next number is m, and both stay within b.
pub record Wrote (ws : List ℕ) (m w : ℕ) (o o' : List ℕ) (b : ℕ) (r : Result Progress Refusal) : Type 0 where
  pub is : r ≡ reached (w + length ws) m
  pub words : o' ≡ laid o w ws
  pub room : w + length ws + m ≤ b

-- What a call did: it wrote the words; or it was refused, and the output is free.
pub data Parsed : W → ℕ → List ℕ → List ℕ → ℕ → Result Progress Refusal → Type 0 where
  wrote : {ws : List ℕ} {m w : ℕ} {o o' : List ℕ} {b : ℕ} {r : Result Progress Refusal} → Wrote ws m w o o' b r → Parsed (ok ws m) w o o' b r
  refused : {e : Met} {w : ℕ} {o o' : List ℕ} {b : ℕ} {r : Result Progress Refusal} → r ≡ Err (refusal_of e) → Parsed (no e) w o o' b r

-- The most that the words of a tree, and its numbers, come to.
abbrev pub most : ℕ → ℕ → Tree → ℕ
most w next t = w + next + factor * length (tree_words t)

-- Where a tree stands, the scopes round it, and room for its words and numbers.
pub record Here (text ws : List ℕ) (at : ℕ) (es : List ℕ) (d w next : ℕ) : Type 0 where
  pub spot : Spot ws at
  pub scopes : List Scope
  pub holds : Opened ws es d scopes
  pub long : slots ≤ length es
  pub shallow : d + nesting spot.tree ≤ max_lists
  pub room : most w next spot.tree ≤ bound
  pub bytes : length text ≤ max_bytes

-- The same of some trees, one after the other.
pub record Row (text ws : List ℕ) (at have : ℕ) (es : List ℕ) (d w next : ℕ) : Type 0 where
  pub items : Trees
  pub rest : List ℕ
  pub words : drop at ws ≡ trees_words items ++ rest
  pub many : have ≡ trees items
  pub scopes : List Scope
  pub holds : Opened ws es d scopes
  pub long : slots ≤ length es
  pub shallow : d + nestings items ≤ max_lists
  pub room : w + next + factor * length (trees_words items) ≤ bound
  pub bytes : length text ≤ max_bytes

-- A list of these items at a place, so many scopes being open round it.
pub record Listed (text ws : List ℕ) (at w next : ℕ) (items : Trees) : Type 0 where
  pub rest : List ℕ
  pub words : drop at ws ≡ tree_words (list items) ++ rest
  pub scopes : List Scope
  pub depth : ℕ
  pub shallow : depth + nesting (list items) ≤ max_lists
  pub room : most w next (list items) ≤ bound
  pub bytes : length text ≤ max_bytes

-- Some list.
pub record SomeList (text ws : List ℕ) (at w next : ℕ) : Type 0 where
  pub items : Trees
  pub listed : Listed text ws at w next items

-- A list with a first item.
pub record Filled (text ws : List ℕ) (at w next : ℕ) : Type 0 where
  pub head : Tree
  pub others : Trees
  pub listed : Listed text ws at w next (tcons head others)

-- A list that begins with a symbol.
pub record Headed (text ws : List ℕ) (at w next : ℕ) : Type 0 where
  pub name : Span
  pub others : Trees
  pub listed : Listed text ws at w next (tcons (atom (symbol name)) others)

-- A tree at a place beyond another.
pub record EndSpot (ws : List ℕ) (at l : ℕ) (t : Tree) : Type 0 where
  pub rest : List ℕ
  pub words : drop l ws ≡ tree_words t ++ rest
  pub beyond : at < l

-- The pair of a let that is written from w on: its name is bound behind the operands, and the words of its number are still free.
pub record BoundPair (ws : List ℕ) (w : ℕ) (r : Run) (s : Span) : Type 0 where
  pub place : Pairs ws r.pair 1
  pub named : place.names ≡ s ∷ []
  pub there : 0 < r.pair
  pub free : w + 3 ≤ r.words
  pub alone : r.names ≡ 0

-- The place of one tree more, 0 if there is none; whether it is not seen through; and the pair whose name is bound in it, 0 if there is none.
abbrev pub EndsAt : List ℕ → ℕ → ℕ → Run → Last → Type 0
EndsAt ws at w r no_last = (r.last ≡ 0) × (r.pair ≡ 0)
EndsAt ws at w r (seen_last t) = EndSpot ws at r.last t × (r.plain ≡ false) × (r.pair ≡ 0)
EndsAt ws at w r (plain_last t) = EndSpot ws at r.last t × (r.plain ≡ true) × (r.pair ≡ 0)
EndsAt ws at w r (bound_last s t) = EndSpot ws at r.last t × (r.plain ≡ false) × BoundPair ws w r s

-- How deep that tree nests, and how many words it has; one more for a number that is taken before it.
abbrev pub end_nesting : Last → ℕ
end_nesting no_last = 0
end_nesting (seen_last t) = nesting t
end_nesting (plain_last t) = nesting t
end_nesting (bound_last s t) = nesting t

abbrev pub end_size : Last → ℕ
end_size no_last = 0
end_size (seen_last t) = length (tree_words t)
end_size (plain_last t) = length (tree_words t)
end_size (bound_last s t) = length (tree_words t) + 1

-- The next number behind words, if they are written.
abbrev pub Counts : W → ℕ → Type 0
Counts (ok ws n) m = n ≡ m
Counts (no e) m = Unit {0}

-- What is left to do of x, that a tree at a place is to be written as: operands, and what comes behind them. The number of a let is laid
-- behind its kind's word before the body is read.
pub record Running (text : List ℕ) (count : ℕ) (ws : List ℕ) (at depth next : ℕ) (sc : List Scope) (x : W) (w : ℕ) (o o' : List ℕ) (b : ℕ) (r : Run) : Type 0 where
  pub items : Trees
  pub rest : List ℕ
  pub words : drop r.first ws ≡ trees_words items ++ rest
  pub many : r.have ≡ trees items
  pub beyond : at < r.first
  pub final : Last
  pub ends : EndsAt ws at w r final
  pub bind : Pairs ws r.names r.fresh
  pub shallow : depth + 1 + nestings items ≤ max_lists
  pub end_shallow : depth + 1 + end_nesting final ≤ max_lists
  pub room : r.words + (next + r.fresh) + factor * length (trees_words items) + factor * end_size final ≤ b
  pub goes : (o'' : List ℕ) (q : Result Progress Refusal) (m : ℕ)
      → Counts (operands_w text count items r.want (inner r.names bind.names next sc) (next + r.fresh)) m
      → Parsed (after (operands_w text count items r.want (inner r.names bind.names next sc) (next + r.fresh))
      (λ n. end_w text count final (inner r.names bind.names next sc) bind.names n)) r.words (filled r.pair (w + 1) (count + m) o') o'' b q
      → Parsed x w o o'' b q

-- What a plan says of x: it is refused, it is written, or what is left to do.
abbrev pub Plans : (text : List ℕ) (count : ℕ) (ws : List ℕ) (at depth next : ℕ) (sc : List Scope) (x : W) (w : ℕ) (o o' : List ℕ) (b : ℕ) → Result Plan Refusal → Type 0
Plans text count ws at depth next sc x w o o' b (Err e) = Parsed x w o o' b (Err e)
Plans text count ws at depth next sc x w o o' b (Ok (Leaf u)) = Parsed x w o o' b (reached u next)
Plans text count ws at depth next sc x w o o' b (Ok (Go r)) = Running text count ws at depth next sc x w o o' b r

-- The plan of a tree.
abbrev pub Planned : (text : List ℕ) (count : ℕ) (ws : List ℕ) (at : ℕ) (es : List ℕ) (d w next : ℕ) (h : Here text ws at es d w next) (o o' : List ℕ) → Result Plan Refusal → Type 0
Planned text count ws at es d w next h o o' r =
    Plans text count ws at d next h.scopes (told count ((child text h.spot.tree).plainly h.scopes next)) w o o' (most w next h.spot.tree) r

-- The plan of a list, which is to be written as x.
abbrev pub PlannedList : (text : List ℕ) (count : ℕ) (ws : List ℕ) (at w next : ℕ) (items : Trees) (h : Listed text ws at w next items) (x : W) (o o' : List ℕ) → Result Plan Refusal → Type 0
PlannedList text count ws at w next items h x o o' r = Plans text count ws at h.depth next h.scopes x w o o' (most w next (list items)) r
