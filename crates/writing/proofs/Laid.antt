-- Laws of words that are laid from a place on.
use Prim.Native.Nat.{ℕ, zero, suc, ◌+◌, ◌≤◌, ◌<◌}
use mathlib.Core.Path.{◌≡◌, refl, sym, ap, ◌∙◌}
use mathlib.Core.List.{List, [], ◌∷◌, ◌++◌}
use native.Mathlib.Omega.{arith}
use native.Mathlib.Nat.{add-zero}
use lib.ListN.{length, set, take, drop, length-set}
use Rattle.reading.specs.Answer.{over}
use Rattle.writing.specs.Laid.{laid}

-- Words laid behind words.
pub laid_append : (a b o : List ℕ) (w : ℕ) → laid o w (a ++ b) ≡ laid (laid o w a) (w + length a) b
unfolding laid
laid_append [] b o w = rw (add-zero w)
laid_append (x ∷ a) b o w =
    laid_append a b (set o w x) (w + 1) ∙ ap (λ (k : ℕ). laid (laid (set o w x) (w + 1) a) k b) (omega arith)

-- The output keeps its length.
pub length-laid : (ws o : List ℕ) (w : ℕ) → length (laid o w ws) ≡ length o
unfolding laid
length-laid [] o w = refl
length-laid (x ∷ ws) o w = length-laid ws (set o w x) (w + 1) ∙ length-set o w x

-- A word stored twice at one place, or two words at two places.
pub set-again : (l : List ℕ) (i a b : ℕ) → set (set l i a) i b ≡ set l i b
set-again [] i a b = refl
set-again (x ∷ l) zero a b = refl
set-again (x ∷ l) (suc i) a b = ap (λ m. x ∷ m) (set-again l i a b)

pub set_apart : (l : List ℕ) (i j a b : ℕ) → i < j → set (set l j a) i b ≡ set (set l i b) j a
set_apart [] i j a b h = refl
set_apart (x ∷ l) i zero a b h = absurd (omega (arith, h))
set_apart (x ∷ l) zero (suc j) a b h = refl
set_apart (x ∷ l) (suc i) (suc j) a b h = ap (λ m. x ∷ m) (set_apart l i j a b (omega (arith, h)))

-- A word stored in front of words that were laid before, or behind them.
pub set-laid : (ws l : List ℕ) (i u v : ℕ) → i < u → set (laid l u ws) i v ≡ laid (set l i v) u ws
unfolding laid
set-laid [] l i u v h = refl
set-laid (w ∷ ws) l i u v h =
    set-laid ws (set l u w) i (u + 1) v (omega (arith, h)) ∙ ap (λ m. laid m (u + 1) ws) (set_apart l i u w v h)

pub set-behind : (ws l : List ℕ) (u j v : ℕ) → u + length ws ≤ j → set (laid l u ws) j v ≡ laid (set l j v) u ws
unfolding laid
set-behind [] l u j v h = refl
set-behind (w ∷ ws) l u j v h =
    set-behind ws (set l u w) (u + 1) j v (omega (arith, h)) ∙ ap (λ m. laid m (u + 1) ws) (sym (set_apart l u j v w (omega (arith, h))))

-- Words laid in front of words, sooner or later.
pub laid-early : (vs ws l : List ℕ) (i u : ℕ) → i + length vs ≤ u → laid (laid l u ws) i vs ≡ laid (laid l i vs) u ws
unfolding laid
laid-early [] ws l i u h = refl
laid-early (v ∷ vs) ws l i u h = ap (λ m. laid m (i + 1) vs) (set-laid ws l i u v (omega arith)) ∙ laid-early vs ws (set l i v) (i + 1) u (omega arith)

-- No output stays one, and a word in front stays in front.
laid_empty : (ws : List ℕ) (w : ℕ) → laid [] w ws ≡ []
unfolding laid
laid_empty [] w = refl
laid_empty (x ∷ ws) w = laid_empty ws (w + 1)

laid-later : (ws o : List ℕ) (x w : ℕ) → laid (x ∷ o) (suc w) ws ≡ x ∷ laid o w ws
unfolding laid
laid-later [] o x w = refl
laid-later (a ∷ ws) o x w =
    let e : suc w + 1 ≡ suc (w + 1) = omega arith in
    ap (λ (k : ℕ). laid (x ∷ set o w a) k ws) e ∙ laid-later ws (set o w a) x (w + 1)

-- Words laid from a place on are laid over the rest from there.
pub laid-over : (ws o : List ℕ) (w : ℕ) → take w o ++ over ws (drop w o) ≡ laid o w ws
unfolding laid over
laid-over [] [] zero = refl
laid-over [] [] (suc w) = refl
laid-over (a ∷ ws) [] zero = sym (laid_empty ws 1)
laid-over (a ∷ ws) [] (suc w) = sym (laid_empty ws (suc w + 1))
laid-over [] (x ∷ o) zero = refl
laid-over (a ∷ ws) (x ∷ o) zero = ap (λ (l : List ℕ). a ∷ l) (laid-over ws o zero) ∙ sym (laid-later ws o a 0)
laid-over ws (x ∷ o) (suc w) = ap (λ (l : List ℕ). x ∷ l) (laid-over ws o w) ∙ sym (laid-later ws o x w)

-- Words laid from the start are laid over the output.
pub over-start : (ws o : List ℕ) → laid o 0 ws ≡ over ws o
over-start ws o = sym (laid-over ws o 0)
