-- The words of a sort are read as that sort, wherever they stand; and so are binders.
use Prim.Native.Nat.{ℕ, zero, suc, ◌+◌, ◌^◌, ◌≤◌}
use mathlib.Core.Path.{◌≡◌, refl, ap}
use mathlib.Core.List.{List, [], ◌∷◌, ◌++◌}
use native.Mathlib.Omega.{arith}
use lib.ListN.{length, length-append}
use Rattle.reading.specs.Pick.{pick}
use Rattle.reading.specs.Tree.{span_words}
use Rattle.reading.specs.At.{At}
use Rattle.reading.proofs.Placed.{at_here, at_left, at_right, at_tail, at-inside}
use Rattle.grammar.specs.Sort.{c_set, c_map, c_data, Sort, Sorts, s_int, s_bool, s_real, s_str, s_bit_vec, s_size, s_var, s_func, s_abs, s_app, snil, scons, sorts, two, sort_words, sorts_words}
use Rattle.grammar.specs.Item.{words_of}
use Rattle.grammar.specs.Expr.{Binder, sort_items, binder_items}
use Rattle.grammar.specs.Shape.{SortCoded, SortsCoded, BindersCoded}
use Rattle.grammar.proofs.Items.{words-front}
use Rattle.judging.specs.Judge.{reads, choose, several, ctors, sort_kinds, sort_deep, sort_at, binder_at, binders_at}
use Rattle.judging.proofs.FieldsBack.{moved, word_back, two_back, span-back}

-- What holds with room for one more.
pub deeper : (P : ℕ → Type 0) (k f : ℕ) → suc k ≤ f → ((g : ℕ) → k ≤ g → P (suc g)) → P f
deeper P k zero h j = absurd (omega arith)
deeper P k (suc g) h j = j g (omega arith)

module _ (limit : ℕ) (ws : List ℕ) where
  -- The sort is read at a position, with room for so much nesting.
  abbrev Back : Sort → ℕ → ℕ → Type 0
  Back s at deep = sort_deep limit deep ws at ≡ reads s (at + length (sort_words s))

  mutual
    unfolding sort_deep sort_kinds choose ctors pick several sort_words sorts

    sort-deep : (s : Sort) (deep at : ℕ) → SortCoded s limit → length (sort_words s) ≤ deep → At ws at (sort_words s) → sort_deep limit deep ws at ≡ reads s (at + length (sort_words s))
    sort-deep s_int deep at c h a = deeper (Back s_int at) 0 deep h λ g l. rw (word_back a) refl
    sort-deep s_bool deep at c h a = deeper (Back s_bool at) 0 deep h λ g l. rw (word_back a) refl
    sort-deep s_real deep at c h a = deeper (Back s_real at) 0 deep h λ g l. rw (word_back a) refl
    sort-deep s_str deep at c h a = deeper (Back s_str at) 0 deep h λ g l. rw (word_back a) refl
    sort-deep (s_bit_vec s) deep at c h a =
        deeper (Back (s_bit_vec s) at) (length (sort_words s)) deep h λ g l.
        rw (word_back a, sort-deep s g (at + 1) c l (at_tail a)) (moved (omega arith))
    sort-deep (s_size width) deep at c h a =
        deeper (Back (s_size width) at) 1 deep h λ g l. rw (word_back a, word_back (at_tail a)) (moved (omega arith))
    sort-deep (s_var i) deep at c h a =
        deeper (Back (s_var i) at) 2 deep h λ g l. rw (word_back a, two_back i c (at_tail a)) (moved (omega arith))
    sort-deep (s_func s t) deep at c h a =
        deeper (Back (s_func s t) at) (length (sort_words s ++ sort_words t)) deep h λ g l.
        let n : length (sort_words s ++ sort_words t) ≡ length (sort_words s) + length (sort_words t) = length-append (sort_words s) (sort_words t) in
        let b : At ws (at + 1) (sort_words s ++ sort_words t) = at_tail a in
        rw (word_back a, sort-deep s g (at + 1) c.0 (omega arith) (at_left (sort_words s) (sort_words t) b), sort-deep t g (at + 1 + length (sort_words s)) c.1 (omega arith) (at_right (sort_words s) (sort_words t) b)) (moved (omega arith))
    sort-deep (s_abs i s) deep at c h a =
        deeper (Back (s_abs i s) at) (suc (length (sort_words s))) deep h λ g l.
        rw (word_back a, word_back (at_tail a), sort-deep s g (at + 1 + 1) c (omega arith) (at_tail (at_tail a))) (moved (omega arith))
    sort-deep (s_app c_set ss) deep at c h a =
        deeper (Back (s_app c_set ss) at) (suc (suc (length (sorts_words ss)))) deep h λ g l.
        let b : At ws (at + 1 + 1) (sorts ss ∷ sorts_words ss) = at_tail (at_tail a) in
        rw (word_back a, word_back (at_tail a), word_back b, sorts-deep ss g (at + 1 + 1 + 1) c.1 (omega arith) (at_tail b)) (moved (omega arith))
    sort-deep (s_app c_map ss) deep at c h a =
        deeper (Back (s_app c_map ss) at) (suc (suc (length (sorts_words ss)))) deep h λ g l.
        let b : At ws (at + 1 + 1) (sorts ss ∷ sorts_words ss) = at_tail (at_tail a) in
        rw (word_back a, word_back (at_tail a), word_back b, sorts-deep ss g (at + 1 + 1 + 1) c.1 (omega arith) (at_tail b)) (moved (omega arith))
    sort-deep (s_app (c_data s) ss) deep at c h a =
        deeper (Back (s_app (c_data s) ss) at) (suc (suc (suc (suc (length (sorts_words ss)))))) deep h λ g l.
        let b : At ws (at + 1 + 1) (span_words s ++ (sorts ss ∷ sorts_words ss)) = at_tail (at_tail a) in
        let d : At ws (at + 1 + 1 + 2) (sorts ss ∷ sorts_words ss) = at_right (span_words s) (sorts ss ∷ sorts_words ss) b in
        rw (word_back a, word_back (at_tail a), span-back limit s c.0 b, word_back d, sorts-deep ss g (at + 1 + 1 + 2 + 1) c.1 (omega arith) (at_tail d)) (moved (omega arith))

    sorts-deep : (ss : Sorts) (deep at : ℕ) → SortsCoded ss limit → length (sorts_words ss) ≤ deep → At ws at (sorts_words ss) → several (sort_deep limit deep) snil scons (sorts ss) ws at ≡ reads ss (at + length (sorts_words ss))
    sorts-deep snil deep at c h a = moved (omega arith)
    sorts-deep (scons s ss) deep at c h a =
        let n : length (sort_words s ++ sorts_words ss) ≡ length (sort_words s) + length (sorts_words ss) = length-append (sort_words s) (sorts_words ss) in
        rw (sort-deep s deep at c.0 (omega arith) (at_left (sort_words s) (sorts_words ss) a), sorts-deep ss deep (at + length (sort_words s)) c.1 (omega arith) (at_right (sort_words s) (sorts_words ss) a)) (moved (omega arith))

  -- A sort is read where its words stand: there are at least as many words as it nests.
  pub sort-at : (s : Sort) (at : ℕ) → SortCoded s limit → At ws at (sort_words s) → sort_at limit ws at ≡ reads s (at + length (sort_words s))
  unfolding sort_at
  sort-at s at c a = sort-deep s (length ws) at c (omega (arith, at-inside a)) a

-- Fresh numbers have 64 bits.
module _ (limit numbers : ℕ) (few : numbers ≤ 2 ^ 64) (ws : List ℕ) where
  -- Binders are read where their words stand.
  pub binders-at : (bs : List Binder) (at : ℕ) → BindersCoded bs limit numbers → At ws at (words_of (binder_items bs)) → binders_at limit (length bs) ws at ≡ reads bs (at + length (words_of (binder_items bs)))
  unfolding binders_at binder_at several binder_items words_of
  binders-at [] at c a = moved (omega arith)
  binders-at (b ∷ bs) at c a =
      let ss : List ℕ = sort_words b.sort in
      let more : List ℕ = words_of (binder_items bs) in
      let e : words_of (sort_items b.sort ++ binder_items bs) ≡ ss ++ more = words-front ss (binder_items bs) in
      let h : At ws at (two b.var ++ (ss ++ more)) = rw e at a in
      let k : At ws (at + 2) (ss ++ more) = at_right (two b.var) (ss ++ more) h in
      rw (two_back b.var (omega (arith, c.0)) h, sort-at limit ws b.sort (at + 2) c.1 (at_left ss more k), binders-at bs (at + 2 + length ss) c.2 (at_right ss more k))
      (moved (omega (arith, ap length e, length-append ss more)))

-- A sort between a front and a rest.
pub sort-back : (limit : ℕ) (s : Sort) → SortCoded s limit → (front rest : List ℕ) → sort_at limit (front ++ (sort_words s ++ rest)) (length front) ≡ reads s (length front + length (sort_words s))
sort-back limit s c front rest = sort-at limit (front ++ (sort_words s ++ rest)) s (length front) c (at_here front (sort_words s) rest)

-- Binders between a front and a rest.
pub binders-back : (limit numbers : ℕ) → numbers ≤ 2 ^ 64 → (bs : List Binder) → BindersCoded bs limit numbers → (front rest : List ℕ) → binders_at limit (length bs) (front ++ (words_of (binder_items bs) ++ rest)) (length front) ≡ reads bs (length front + length (words_of (binder_items bs)))
binders-back limit numbers few bs c front rest =
    binders-at limit numbers few (front ++ (words_of (binder_items bs) ++ rest)) bs (length front) c (at_here front (words_of (binder_items bs)) rest)
