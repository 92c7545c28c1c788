-- Laws of stores one behind the other.
use Prim.Native.Nat.{ℕ, suc, ◌+◌}
use mathlib.Core.Path.{◌≡◌, refl, ap, ◌∙◌}
use mathlib.Core.List.{List, [], ◌∷◌, ◌++◌}
use native.Mathlib.Numerals.{add-one, add-two, add-three, add-four, add_five, add_six, add_seven, add_eight}
use native.Mathlib.Omega.{arith}
use lib.ListN.{length, set}
use lib.Seq.{sets}
use Rattle.reading.specs.Answer.{over}
use Rattle.reading.proofs.Over.{over-more}

-- Stores of the first values, and of others behind them.
pub sets_append : (vs ws o : List ℕ) (i : ℕ) → sets (sets o i vs) (i + length vs) ws ≡ sets o i (vs ++ ws)
sets_append [] ws o i = ap (λ (k : ℕ). sets o k ws) (omega arith)
sets_append (v ∷ vs) ws o i = ap (λ (k : ℕ). sets (sets (set o i v) (suc i) vs) k ws) (omega arith) ∙ sets_append vs ws (set o i v) (suc i)

-- Stores from the start on.
pub sets_over : (vs o : List ℕ) → sets o 0 vs ≡ over vs o
unfolding over
sets_over vs o = over-more vs [] o 0 refl

-- Nine stores, as `word` makes them.
pub sets-nine : (o : List ℕ) (at : ℕ) (a b c d e f g h i : ℕ) → set (set (set (set (set (set (set (set (set o at a) (at + 1) b) (at + 2) c) (at + 3) d) (at + 4) e) (at + 5) f) (at + 6) g) (at + 7) h) (at + 8) i ≡ sets o at (a ∷ b ∷ c ∷ d ∷ e ∷ f ∷ g ∷ h ∷ i ∷ [])
sets-nine o at a b c d e f g h i = rw (add-one at, add-two at, add-three at, add-four at, add_five at, add_six at, add_seven at, add_eight at) refl
