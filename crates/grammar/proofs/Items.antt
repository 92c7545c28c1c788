-- Laws of items: their words, and the numbers that they use and bind.
use Prim.Native.Nat.{ℕ, ◌+◌}
use mathlib.Core.Path.{◌≡◌, refl, ap, ◌∙◌}
use mathlib.Core.List.{List, [], ◌∷◌, ◌++◌}
use lib.ListN.{length, length-append}
use Rattle.grammar.specs.Sort.{two}
use Rattle.grammar.specs.Item.{Item, plain, uses, binds, plains, words_of, used, bound}

-- The words of items, one list after the other.
pub words_append : (a b : List Item) → words_of (a ++ b) ≡ words_of a ++ words_of b
unfolding words_of
words_append [] b = refl
words_append (plain w ∷ its) b = ap (λ l. w ∷ l) (words_append its b)
words_append (uses k ∷ its) b = ap (λ l. two k ++ l) (words_append its b)
words_append (binds k ∷ its) b = ap (λ l. two k ++ l) (words_append its b)

-- How many words they have.
pub length-words : (a b : List Item) → length (words_of (a ++ b)) ≡ length (words_of a) + length (words_of b)
length-words a b = ap length (words_append a b) ∙ length-append (words_of a) (words_of b)

-- The numbers that they use.
pub used_append : (a b : List Item) → used (a ++ b) ≡ used a ++ used b
unfolding used
used_append [] b = refl
used_append (plain w ∷ its) b = used_append its b
used_append (uses k ∷ its) b = ap (λ l. k ∷ l) (used_append its b)
used_append (binds k ∷ its) b = used_append its b

-- The numbers that they bind.
pub bound_append : (a b : List Item) → bound (a ++ b) ≡ bound a ++ bound b
unfolding bound
bound_append [] b = refl
bound_append (plain w ∷ its) b = bound_append its b
bound_append (uses k ∷ its) b = bound_append its b
bound_append (binds k ∷ its) b = ap (λ l. k ∷ l) (bound_append its b)

-- Plain words are their own words.
pub words-plains : (ws : List ℕ) → words_of (plains ws) ≡ ws
unfolding words_of
words-plains [] = refl
words-plains (w ∷ ws) = ap (λ l. w ∷ l) (words-plains ws)

-- Plain words use no number.
pub used-plains : (ws : List ℕ) → used (plains ws) ≡ []
unfolding used
used-plains [] = refl
used-plains (w ∷ ws) = used-plains ws

-- Plain words bind no number.
pub bound-plains : (ws : List ℕ) → bound (plains ws) ≡ []
unfolding bound
bound-plains [] = refl
bound-plains (w ∷ ws) = bound-plains ws

-- The words of plain words in front of other items.
pub words-front : (ws : List ℕ) (its : List Item) → words_of (plains ws ++ its) ≡ ws ++ words_of its
unfolding words_of
words-front [] its = refl
words-front (w ∷ ws) its = ap (λ l. w ∷ l) (words-front ws its)

-- Plain words in front use no number.
pub used-front : (ws : List ℕ) (its : List Item) → used (plains ws ++ its) ≡ used its
unfolding used
used-front [] its = refl
used-front (w ∷ ws) its = used-front ws its

-- Plain words in front bind no number.
pub bound-front : (ws : List ℕ) (its : List Item) → bound (plains ws ++ its) ≡ bound its
unfolding bound
bound-front [] its = refl
bound-front (w ∷ ws) its = bound-front ws its
