-- The loop over trees that stand side by side: what is left to do, and how that makes the whole.
use Prim.Native.Nat.{ℕ, ◌+◌, ◌-◌, ◌*◌, ◌≤◌, ◌<◌, min}
use mathlib.Core.Path.{◌≡◌, refl, sym, ap, ◌∙◌}
use mathlib.Core.List.{List, [], ◌++◌, append-nil, append_assoc}
use native.Mathlib.Omega.{arith}
use lib.ListN.{length, take, drop, length-append, length-drop}
use lib.Seq.{drop-drop, sets}
use Rattle.reading.specs.Tree.{Tree, Trees, tnil, tcons, tree_words, trees_words}
use Rattle.reading.specs.Answer.{Ans, got, bad, and_then, over}
use Rattle.reading.proofs.Over.{over-more}
use Rattle.lexing.proofs.Lexing.Parts.{tail}
use Rattle.grammar.specs.Sort.{Sort, Sorts, scons, sort_words}
use Rattle.grammar.specs.ParseSort
use Rattle.grammar.specs.ParseSort.{each_sort}
use Rattle.sorts.specs.Rows.{mark, row_words}
use Rattle.sorts.specs.Outcome.{Outcome, wrote, refused}
use Rattle.words.specs.declared.refusal.Refusal.{Refusal}
use Rattle.std.specs.Prelude.{Result, Ok, Err}
use Rattle.grammar.proofs.AnswerHolds.{Every, map-every}
use Rattle.grammar.proofs.SortOf.{SortOf, SortsOf, sort_of_lem, sorts_of_lem}
use Rattle.sorts.proofs.RowWords.{mark-short, row_cons, row-short}
use Rattle.sorts.proofs.Lend.{lent}
use Rattle.sorts.proofs.Outcomes.{never, same_count, done-short}
use Rattle.reading.proofs.TreeHead.{tree-two, Split, split, no-trees, first-words, other-words}

-- How many words the sort of a tree and a mark have at most, and the sorts of trees with their marks.
module _ (text : List ℕ) where
  pub sort-short : (t : Tree) {o o' : List ℕ} {r : Result ℕ Refusal} {v : ℕ} → Outcome sort_words (ParseSort.parse_sort text t) o o' r → r ≡ Ok v → v + 1 ≤ 16 * length (tree_words t)
  sort-short t {o} {o'} {r} {v} y e = go (ParseSort.parse_sort text t) (sort_of_lem text t) y
    where
      go : (x : Ans Sort) → Every x (SortOf t) → Outcome sort_words x o o' r → v + 1 ≤ 16 * length (tree_words t)
      go (got s) h (wrote p q) = omega (arith, h.short, same_count e p)
      go (bad c) h (refused p) = never e p

  pub row-bound : (m : ℕ) (ts : Trees) {o o' : List ℕ} {r : Result ℕ Refusal} {v : ℕ} → Outcome (row_words m) (each_sort (ParseSort.views text ts)) o o' r → r ≡ Ok v → v ≤ 16 * length (trees_words ts)
  row-bound m ts y e = done-short (each_sort (ParseSort.views text ts)) (16 * length (trees_words ts)) y e (map-every (each_sort (ParseSort.views text ts)) (SortsOf ts) (λ ss. length (row_words m ss) ≤ 16 * length (trees_words ts)) (λ ss h. omega (arith, h.short, row-short m ss)) (sorts_of_lem text ts))

-- One sort more behind the words that are written.
step_row : (left : ℕ) (s : Sort) (ws : List ℕ) (x : Ans Sorts) {o o' : List ℕ} {r : Result ℕ Refusal} → Outcome (λ ss. (ws ++ (mark left ++ sort_words s)) ++ row_words (left - 1) ss) x o o' r → Outcome (λ ss. ws ++ row_words left ss) (and_then x λ ss. got (scons s ss)) o o' r
step_row left s ws (got ss) {o} (wrote p q) =
    let e : (ws ++ (mark left ++ sort_words s)) ++ row_words (left - 1) ss ≡ ws ++ row_words left (scons s ss) = append_assoc ws (mark left ++ sort_words s) (row_words (left - 1) ss) ∙ ap (λ l. ws ++ l) (append_assoc (mark left) (sort_words s) (row_words (left - 1) ss) ∙ sym (row_cons left s ss)) in
    wrote (p ∙ ap (λ l. Ok (length l)) e) (q ∙ ap (λ l. over l o) e)
step_row left s ws (bad e) (refused p) = refused p

-- The first of some trees is read first.
each_cons : (text : List ℕ) (t : Tree) (us : Trees) (x : Ans Sort) → ParseSort.parse_sort text t ≡ x → each_sort (ParseSort.views text (tcons t us)) ≡ and_then x λ s. and_then (each_sort (ParseSort.views text us)) λ ss. got (scons s ss)
unfolding each_sort ParseSort.view ParseSort.parse_sort
each_cons text t us x e = rw e refl

-- Behind some trees and w words: the trees that are left, and how what they are read as makes the whole.
pub record Left (text : List ℕ) (ts : Trees) (items : List ℕ) (m : ℕ) (o : List ℕ) (at w left : ℕ) (out : List ℕ) : Type 0 where
  pub before : List ℕ
  pub rest : Trees
  pub words : drop at items ≡ trees_words rest
  pub count : w ≡ length before
  pub wrote : out ≡ over before o
  pub room : w ≤ 16 * at
  pub goes : (o'' : List ℕ) (r : Result ℕ Refusal) → Outcome (λ ss. before ++ row_words left ss) (each_sort (ParseSort.views text rest)) o o'' r → Outcome (row_words m) (each_sort (ParseSort.views text ts)) o o'' r

-- The first of the trees that are left at a place, where k is how many words it has, and the words that are lent of it.
pub record Turn (items : List ℕ) (at k : ℕ) (rest : Trees) : Type 0 where
  pub next : Split (drop at items) rest
  pub size : k ≡ length (tree_words next.first)
  pub part : take k (take (length items - at) (drop at items)) ≡ tree_words next.first
  pub fits : at + k ≤ length items
  pub some : 2 ≤ k

-- There is a first tree where words are left.
pub left-some : (items : List ℕ) (at : ℕ) {rest : Trees} → drop at items ≡ trees_words rest → at < length items → Split (drop at items) rest
left-some items at {rest} e h = split rest e (λ z. omega (arith, length-drop at items))

-- The code's size of the first tree is right for it.
pub turn : (items : List ℕ) (at k : ℕ) {rest : Trees} → drop at items ≡ trees_words rest → at < length items → ((t : Tree) (us : List ℕ) → take (length items - at) (drop at items) ≡ tree_words t ++ us → k ≡ length (tree_words t)) → Turn items at k rest
turn items at k e h n =
    let q = left-some items at e h in
    let z : k ≡ length (tree_words q.first) = n q.first (trees_words q.others) (tail items at ∙ q.words) in
    record {
      next = q;
      size = z;
      part = first-words q.first q.others (tail items at ∙ q.words) k z;
      fits = omega (arith, z, length-drop at items, ap length q.words, length-append (tree_words q.first) (trees_words q.others));
      some = omega (arith, z, tree-two q.first);
    }

module _ (text : List ℕ) (ts : Trees) (items : List ℕ) (m : ℕ) (o : List ℕ) where
  -- Nothing is read.
  pub left-start : items ≡ trees_words ts → Left text ts items m o 0 0 m o
  unfolding over
  left-start e = record { before = []; rest = ts; words = e; count = refl; wrote = refl; room = omega arith; goes = λ o'' r y. y }

  module _ (at w left : ℕ) (out : List ℕ) (p : Left text ts items m o at w left out) where
    -- All is read.
    pub left_end : length items ≤ at → Outcome (row_words m) (each_sort (ParseSort.views text ts)) o out (Ok w)
    unfolding each_sort ParseSort.view row_words
    left_end h = p.goes out (Ok w) (ended p.rest (no-trees p.rest p.words (omega (arith, length-drop at items))))
      where
        ended : (us : Trees) → us ≡ tnil → Outcome (λ ss. p.before ++ row_words left ss) (each_sort (ParseSort.views text us)) o out (Ok w)
        ended us e = rw e (wrote (ap Ok (p.count ∙ ap length (sym (append-nil p.before)))) (p.wrote ∙ ap (λ l. over l o) (sym (append-nil p.before))))

    module _ (q : Split (drop at items) p.rest) where
      rest-is : (x : Ans Sort) → ParseSort.parse_sort text q.first ≡ x → each_sort (ParseSort.views text p.rest) ≡ and_then x λ s. and_then (each_sort (ParseSort.views text q.others)) λ ss. got (scons s ss)
      rest-is x e = ap (λ us. each_sort (ParseSort.views text us)) q.is ∙ each_cons text q.first q.others x e

      -- The next tree is refused.
      pub left-refused : {o₁ ys z : List ℕ} {r : Result ℕ Refusal} {k : Refusal} → Outcome sort_words (ParseSort.parse_sort text q.first) o₁ ys r → r ≡ Err k → Outcome (row_words m) (each_sort (ParseSort.views text ts)) o z (Err k)
      left-refused {o₁} {ys} {z} {r} {k} y e = go (ParseSort.parse_sort text q.first) refl y
        where
          go : (x : Ans Sort) → ParseSort.parse_sort text q.first ≡ x → Outcome sort_words x o₁ ys r → Outcome (row_words m) (each_sort (ParseSort.views text ts)) o z (Err k)
          go (got s) i (wrote a b) = never a e
          go (bad c) i (refused a) = p.goes z (Err k) (rw (rest-is (bad c) i) (refused (sym e ∙ a)))

      -- The next tree is read.
      pub left-more : (m₁ ys : List ℕ) (next f k : ℕ) {r : Result ℕ Refusal} {v : ℕ} → next ≡ w + length (mark left) → m₁ ≡ sets out w (mark left) → f ≡ min next (length m₁) → k ≡ length (tree_words q.first) → Outcome sort_words (ParseSort.parse_sort text q.first) (take (length m₁ - f) (drop f m₁)) ys r → r ≡ Ok v → Left text ts items m o (at + k) (next + v) (left - 1) (take f m₁ ++ (ys ++ drop (length m₁ - f) (drop f m₁)))
      left-more m₁ ys next f k {r} {v} n g b h y e = go (ParseSort.parse_sort text q.first) refl (sort-short text q.first y e) y
        where
          go : (x : Ans Sort) → ParseSort.parse_sort text q.first ≡ x → v + 1 ≤ 16 * length (tree_words q.first) → Outcome sort_words x (take (length m₁ - f) (drop f m₁)) ys r → Left text ts items m o (at + k) (next + v) (left - 1) (take f m₁ ++ (ys ++ drop (length m₁ - f) (drop f m₁)))
          go (got s) i short (wrote a c) =
              let vl : v ≡ length (sort_words s) = same_count e a in
              let marked : m₁ ≡ over (p.before ++ mark left) o = g ∙ ap (λ l. sets l w (mark left)) p.wrote ∙ over-more (mark left) p.before o w p.count in
              let nl : next ≡ length (p.before ++ mark left) = omega (arith, n, p.count, length-append p.before (mark left)) in
              record {
                before = p.before ++ (mark left ++ sort_words s);
                rest = q.others;
                words = sym (drop-drop k at items) ∙ other-words q.first q.others q.words k h;
                count = omega (arith, n, vl, p.count, length-append p.before (mark left ++ sort_words s), length-append (mark left) (sort_words s));
                wrote = lent (p.before ++ mark left) (sort_words s) o m₁ ys f marked (rw (← nl) b) c ∙ ap (λ l. over l o) (append_assoc p.before (mark left) (sort_words s));
                room = omega (arith, p.room, n, mark-short left, short, h);
                goes = λ o'' r' z. p.goes o'' r' (rw (rest-is (got s) i) (step_row left s p.before (each_sort (ParseSort.views text q.others)) z));
              }
          go (bad c) i short (refused a) = never e a
