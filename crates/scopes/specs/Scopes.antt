-- The code's open scopes, of parameters, exists and let alike: entries of a slice, each the place of its first pair in the tree, how many
-- pairs there are, and its first fresh number.
use Rattle.std.specs.Prelude.{◌≡◌, ℕ, zero, suc, ◌+◌, ◌*◌, ◌%◌, ◌^◌, ◌<◌, ◌≤◌, List, [], ◌∷◌, ◌++◌, length, drop, ◌==◌, slice_index, slice_set, Option, Some, None}
use Rattle.reading.specs.Limits.{max_lists}
use Rattle.reading.specs.Pick.{pick}
use Rattle.reading.specs.Bytes.{Span, Maybe, nothing, just}
use Rattle.reading.specs.Tree.{Trees, symbol, atom, list, tnil, tcons, trees_words}
use Rattle.grammar.specs.Scope.{Scope, same_name}

-- Trees that are lists beginning with a name, as `(name sort)` and the `(name value)` of a let do, and the names.
pub data Named : Trees → List Span → Type 0 where
  none : Named tnil []
  more : {s : Span} {us ts : Trees} {ss : List Span} → Named ts ss → Named (tcons (list (tcons (atom (symbol s)) us)) ts) (s ∷ ss)

-- So many of them from a place on.
pub record Pairs (ws : List ℕ) (at n : ℕ) : Type 0 where
  pub names : List Span
  pub pairs : Trees
  pub rest : List ℕ
  pub words : drop at ws ≡ trees_words pairs ++ rest
  pub named : Named pairs names
  pub many : n ≡ length names

-- An entry is a scope: the place of its first pair, how many pairs, its first number.
pub record IsScope (ws : List ℕ) (at n k : ℕ) (s : Scope) : Type 0 where
  pub place : Pairs ws at n
  pub names : s.names ≡ place.names
  pub first : k ≡ s.first

-- The entries below a depth are the open scopes, the innermost last in the slice and first in the list.
abbrev pub Opened : List ℕ → List ℕ → ℕ → List Scope → Type 0
Opened ws es zero [] = Unit {0}
Opened ws es zero (s ∷ sc) = ⊥
Opened ws es (suc d) [] = ⊥
Opened ws es (suc d) (s ∷ sc) = IsScope ws (slice_index es (3 * d)) (slice_index es (3 * d + 1)) (slice_index es (3 * d + 2)) s × Opened ws es d sc

-- The numbers of as many entries as lists can stand inside one another.
abbrev pub slots : ℕ
slots = 3 * max_lists

-- The entries below a depth are the same in both.
pub record Kept (es es' : List ℕ) (d : ℕ) : Type 0 where
  pub same : (i : ℕ) → i < 3 * d → slice_index es' i ≡ slice_index es i

-- One entry more, unless its place is 0.
unfoldable pub pushed : List ℕ → ℕ → ℕ → ℕ → ℕ → List ℕ
pushed es d at n k = pick (at == 0) es (slice_set (slice_set (slice_set es (3 * d) at) (3 * d + 1) n) (3 * d + 2) k)

-- The depth inside: one more, unless the place is 0.
unfoldable pub deeper : ℕ → ℕ → ℕ
deeper d at = pick (at == 0) d (d + 1)

-- One scope more, unless its place is 0.
unfoldable pub inner : ℕ → List Span → ℕ → List Scope → List Scope
inner place names first sc = pick (place == 0) sc (record { names = names; first = first } ∷ sc)

-- The scopes that are open.
pub record OpenScopes (ws es : List ℕ) (d : ℕ) : Type 0 where
  pub scopes : List Scope
  pub holds : Opened ws es d scopes
  pub within : 3 * d ≤ length es

-- The first place of a name among names, or how many there are.
unfoldable pub place_among : List ℕ → Span → List Span → ℕ
place_among text s [] = 0
place_among text s (x ∷ xs) = pick (same_name text s x) 0 (suc (place_among text s xs))

-- What is found of the first place of a name among n names, at place p: that place, or none where there is no such name.
abbrev pub PlacedAt : ℕ → ℕ → Option ℕ → Type 0
PlacedAt p n (Some i) = (i ≡ p) × (i < n)
PlacedAt p n None = n ≤ p

-- The fresh number that a name means, raised by the count.
abbrev pub Meant : ℕ → Maybe ℕ → Option ℕ → Type 0
Meant count nothing r = r ≡ None
Meant count (just k) r = r ≡ Some ((count + k) % 2 ^ 64)
