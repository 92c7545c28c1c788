-- The words of rows of sorts, of Abs, and of a function's inputs and output.
use Prim.Native.Nat.{ℕ, zero, suc, ◌+◌, ◌-◌, ◌*◌, ◌≤◌}
use mathlib.Core.Path.{◌≡◌, refl, sym, ap, ◌∙◌}
use mathlib.Core.List.{List, [], ◌∷◌, ◌++◌, append-nil}
use native.Mathlib.Omega.{arith}
use native.Mathlib.Nat.{add-suc, suc-add, add-zero}
use native.Mathlib.Numerals.{add-one}
use lib.ListN.{length, length-append, set}
use lib.Seq.{sets}
use Rattle.reading.specs.Answer.{over}
use Rattle.reading.proofs.Over.{over-more}
use Rattle.grammar.specs.Sort.{Sort, Sorts, snil, scons, sorts, sort_words, sorts_words, funcs, abstracted}
use Rattle.sorts.specs.Rows.{mark, row_words, abs_words}

-- What stands before a sort of a row.
pub mark-short : (m : ℕ) → length (mark m) ≤ 1
mark-short zero = omega arith
mark-short (suc m) = omega arith

pub mark-none : (m : ℕ) → m ≡ 0 → mark m ≡ []
mark-none m e = rw e refl

pub mark-some : (m : ℕ) → (m ≡ 0 → ⊥) → mark m ≡ 8 ∷ []
mark-some zero h = absurd (h refl)
mark-some (suc m) h = refl

-- The first sort of a row.
pub row_cons : (m : ℕ) (s : Sort) (ss : Sorts) → row_words m (scons s ss) ≡ mark m ++ (sort_words s ++ row_words (m - 1) ss)
unfolding row_words
row_cons zero s ss = refl
row_cons (suc m) s ss = let e : m ≡ suc m - 1 = omega arith in ap (λ k. 8 ∷ sort_words s ++ row_words k ss) e

-- A row without inputs.
pub row_plain : (ss : Sorts) → row_words 0 ss ≡ sorts_words ss
unfolding row_words sort_words
row_plain snil = refl
row_plain (scons s ss) = ap (λ l. sort_words s ++ l) (row_plain ss)

-- How many words a row has at most.
pub row-short : (m : ℕ) (ss : Sorts) → length (row_words m ss) ≤ length (sorts_words ss) + sorts ss
unfolding row_words sort_words sorts
row-short m snil = omega arith
row-short zero (scons s ss) = omega (arith, row-short zero ss, length-append (sort_words s) (row_words zero ss), length-append (sort_words s) (sorts_words ss))
row-short (suc m) (scons s ss) = omega (arith, row-short m ss, length-append (sort_words s) (row_words m ss), length-append (sort_words s) (sorts_words ss))

-- One sort more at the end.
abbrev pub snoc : Sorts → Sort → Sorts
snoc snil o = scons o snil
snoc (scons s ss) o = scons s (snoc ss o)

-- A function's words are those of its inputs, marked, and its output.
pub funcs-words : (ss : Sorts) (o : Sort) → sort_words (funcs ss o) ≡ row_words (sorts ss) (snoc ss o)
unfolding funcs sort_words row_words sorts
funcs-words snil o = sym (append-nil (sort_words o))
funcs-words (scons s ss) o = ap (λ l. 8 ∷ sort_words s ++ l) (funcs-words ss o)

-- The words of Abs, and of a sort behind them.
pub abs_length : (i n : ℕ) → length (abs_words i n) ≡ n * 2
unfolding abs_words
abs_length i zero = refl
abs_length i (suc n) = omega (arith, abs_length (suc i) n)

pub abs_words_lem : (i n : ℕ) (s : Sort) → sort_words (abstracted n i s) ≡ abs_words i n ++ sort_words s
unfolding abs_words abstracted sort_words
abs_words_lem i zero s = refl
abs_words_lem i (suc n) s = ap (λ l. 9 ∷ i ∷ l) (abs_words_lem (suc i) n s)

abs_more : (i n : ℕ) → abs_words i (suc n) ≡ abs_words i n ++ (9 ∷ (i + n) ∷ [])
unfolding abs_words
abs_more i zero = ap (λ k. 9 ∷ k ∷ []) (sym (add-zero i))
abs_more i (suc n) = ap (λ l. 9 ∷ i ∷ l) (abs_more (suc i) n ∙ ap (λ k. abs_words (suc i) n ++ (9 ∷ k ∷ [])) (suc-add i n ∙ sym (add-suc i n)))

-- One Abs more is stored behind those that are.
pub abs_next : (i index : ℕ) (o m m₁ m₂ : List ℕ) → index ≡ i → m ≡ over (abs_words 0 i) o → m₁ ≡ set m (i * 2) 9 → m₂ ≡ set m₁ (i * 2 + 1) index → m₂ ≡ over (abs_words 0 (i + 1)) o
abs_next i index o m m₁ m₂ z e p q =
    let h : sets (over (abs_words 0 i) o) (i * 2) (9 ∷ (0 + i) ∷ []) ≡ over (abs_words 0 i ++ (9 ∷ (0 + i) ∷ [])) o = over-more (9 ∷ (0 + i) ∷ []) (abs_words 0 i) o (i * 2) (sym (abs_length 0 i)) in
    let k : 0 + i ≡ index = omega arith in
    rw (add-one i, abs_more 0 i, ← h, k, q, p, e, add-one (i * 2))
