-- The rest of an output lent on.
use Prim.Native.Nat.{ℕ, ◌-◌, min}
use mathlib.Core.Path.{◌≡◌, refl, sym, ◌∙◌}
use mathlib.Core.List.{List, [], ◌++◌, append-nil}
use native.Mathlib.Omega.{arith}
use lib.ListN.{length, take, drop, length-drop, drop_of_length-le}
use lib.Seq.{sets, take_all}
use Rattle.reading.specs.Answer.{over}
use Rattle.reading.proofs.Over.{over_append, over-more}
use Rattle.words.proofs.Clip.{take_min, drop_min}

-- The rest of m was lent from w on, or from its end, and b was laid over it.
pub lent-rest : (b m ys : List ℕ) (w f : ℕ) → f ≡ min w (length m) → ys ≡ over b (take (length m - f) (drop f m)) → take f m ++ (ys ++ drop (length m - f) (drop f m)) ≡ take w m ++ over b (drop w m)
lent-rest b m ys w f q r =
    let whole : take (length m - f) (drop f m) ≡ drop f m = take_all (length m - f) (drop f m) (omega (arith, length-drop f m)) in
    let none : drop (length m - f) (drop f m) ≡ [] = drop_of_length-le (drop f m) {i = length m - f} (omega (arith, length-drop f m)) in
    rw (none, append-nil, r, whole, q, take_min, drop_min)

-- The words a were laid over o, which gave m. The rest of m was lent from behind them, or from its end, and b was laid over it: a and b are laid over o.
pub lent : (a b o m ys : List ℕ) (f : ℕ) → m ≡ over a o → f ≡ min (length a) (length m) → ys ≡ over b (take (length m - f) (drop f m)) → take f m ++ (ys ++ drop (length m - f) (drop f m)) ≡ over (a ++ b) o
lent a b o m ys f p q r = lent-rest b m ys (length a) f q r ∙ rw p (sym (over_append a b o))

-- Words that are stored one after the other from the start.
pub over-stored : (ws o : List ℕ) → sets o 0 ws ≡ over ws o
unfolding over
over-stored ws o = over-more ws [] o 0 refl
