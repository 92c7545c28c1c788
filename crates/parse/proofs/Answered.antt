-- From the tree of a text to what an operation decides, answers and leaves.
use Prim.Native.Nat.{ℕ, ◌≤◌, ◌<◌}
use mathlib.Core.Path.{◌≡◌, refl, sym, ap, ◌∙◌}
use mathlib.Core.List.{List}
use native.Mathlib.Omega.{arith}
use lib.ListN.{length, take, replicate, length-take}
use borrow.Author.Tests.{le-leb, lt-leb}
use Rattle.reading.specs.Tree.{Tree}
use Rattle.reading.specs.Answer.{Refusal as Met, number, no_room, Ans, got, bad, lifted, Final, accepts, refuses, finish, fits_in, zeros, output_of}
use Rattle.reading.proofs.Finish.{finish-short, finish-long}
use Rattle.grammar.specs.Sort.{Sort, sort_words}
use Rattle.grammar.specs.ParseSort.{parse_sort}
use Rattle.grammar.specs.Operations.{the_tree, make_sort, sort_final}
use Rattle.sorts.specs.Outcome.{IsTree, Outcome, wrote, refused}
use Rattle.parse.specs.Answers.{Laid, Attempted}
use Rattle.std.specs.Prelude.{Result, Ok, Err}
use Rattle.words.specs.declared.refusal.Refusal.{Refusal}
use Rattle.words.specs.declared.refusal.Refusal.TheVariants as refusal
use Rattle.words.specs.Refusals.{number_of}
use Rattle.words.specs.Answered.{answered, told, refused as answer_refused, sized_by}
use Rattle.words.proofs.Numbered.{number_told}
use Rattle.std.specs.Prelude.{is_err}
use mathlib.Core.Bool.{true, false}
use Rattle.parse.specs.TreeOf.{TreeIn, NoTree}

module _ (text tree out : List ℕ) where
  abbrev whole : Final Sort
  whole = sort_final text tree out

  no-tree-final : (e : Met) → the_tree text tree ≡ bad e → whole ≡ refuses (number e)
  unfolding sort_final make_sort finish
  no-tree-final e p = rw p

  module _ (t : Tree) (p : the_tree text tree ≡ got t) where
    tree-final : whole ≡ finish (λ s. fits_in out (sort_words s)) 0 (lifted (parse_sort text t) 0)
    unfolding sort_final make_sort
    tree-final = rw p

    bad-final : (e : Met) → parse_sort text t ≡ bad e → whole ≡ refuses (number e)
    unfolding finish
    bad-final e q = tree-final ∙ rw q

    short-final : (s : Sort) → parse_sort text t ≡ got s → length out < length (sort_words s) → whole ≡ refuses (number no_room)
    short-final s q l =
        tree-final ∙ ap (λ (x : Ans Sort). finish (λ u. fits_in out (sort_words u)) 0 (lifted x 0)) q
        ∙ finish-short (λ u. fits_in out (sort_words u)) 0 s 0 (omega arith) (lt-leb (length (sort_words s)) (length out) l)

    long-final : (s : Sort) → parse_sort text t ≡ got s → length (sort_words s) ≤ length out → whole ≡ accepts s 0
    long-final s q l =
        tree-final ∙ ap (λ (x : Ans Sort). finish (λ u. fits_in out (sort_words u)) 0 (lifted x 0)) q
        ∙ finish-long (λ u. fits_in out (sort_words u)) 0 s 0 (omega arith) (le-leb (length (sort_words s)) (length out) l)

-- The words lent are those of a tree.
pub is-tree : {text tree tree' : List ℕ} {n : ℕ} (x : TreeIn text tree tree' n) → IsTree (take n tree')
is-tree x = record { tree = x.it; words = x.there; small = rw length-take (omega (arith, x.small)) }

module _ {text tree out : List ℕ} where
  -- No tree: its refusal.
  pub without-tree : {n : Refusal} {out' : List ℕ} → NoTree text tree n → Attempted sort_words (sort_final text tree out) out out' (Err n)
  without-tree x = let e = no-tree-final text tree out x.why x.is in record { answer = rw e (ap answer_refused x.tells); left = rw e tt }

  module _ {tree' : List ℕ} {n : ℕ} (x : TreeIn text tree tree' n) where
    module _ {out' : List ℕ} {r : Result ℕ Refusal} (y : Outcome sort_words (parse_sort text x.it) out out' r) where
      pub sort-refused : {k : Refusal} → r ≡ Err k → Attempted sort_words (sort_final text tree out) out out' (Err k)
      sort-refused {k} e = go (parse_sort text x.it) refl y
        where
          go : (a : Ans Sort) → parse_sort text x.it ≡ a → Outcome sort_words a out out' r → Attempted sort_words (sort_final text tree out) out out' (Err k)
          go (got s) q (wrote c d) = let z : ◌≡◌ {A = ℕ} 0 1 = cc in absurd (omega arith)
          go (bad w) q (refused c) = let f = bad-final text tree out x.it x.is w q in record { answer = rw f (ap answered (sym e ∙ c) ∙ ap answer_refused (number_told w)); left = rw f tt }

      module _ {w : ℕ} (e : r ≡ Ok w) where
        pub sort-short : {n' : ℕ} → n' ≡ length out → n' < w → Attempted sort_words (sort_final text tree out) out out' (Err refusal.NoRoom)
        sort-short {n'} m l = go (parse_sort text x.it) refl y
          where
            go : (a : Ans Sort) → parse_sort text x.it ≡ a → Outcome sort_words a out out' r → Attempted sort_words (sort_final text tree out) out out' (Err refusal.NoRoom)
            go (bad u) q (refused c) = let z : ◌≡◌ {A = ℕ} 0 1 = cc in absurd (omega arith)
            go (got s) q (wrote c d) =
                let k : w ≡ length (sort_words s) = cc in
                let f = short-final text tree out x.it x.is s q (omega arith) in
                record { answer = rw f refl; left = rw f tt }

        pub sort-long : {n' : ℕ} → n' ≡ length out → w ≤ n' → Attempted sort_words (sort_final text tree out) out out' (Ok w)
        sort-long {n'} m l = go (parse_sort text x.it) refl y
          where
            go : (a : Ans Sort) → parse_sort text x.it ≡ a → Outcome sort_words a out out' r → Attempted sort_words (sort_final text tree out) out out' (Ok w)
            go (bad u) q (refused c) = let z : ◌≡◌ {A = ℕ} 0 1 = cc in absurd (omega arith)
            go (got s) q (wrote c d) =
                let k : w ≡ length (sort_words s) = cc in
                let f = long-final text tree out x.it x.is s q (omega arith) in
                record { answer = rw f (ap told k); left = rw f d }

module _ {A : Type 0} {words : A → List ℕ} {f : Final A} {out out' : List ℕ} where
  -- An accepted call leaves the words.
  pub kept : (r : Result ℕ Refusal) → Attempted words f out out' r → is_err r ≡ false → out' ≡ output_of words f out
  unfolding output_of
  kept (Err x) s h = cc
  kept (Ok w) s h = go f s.answer s.left
    where
      go : (g : Final A) → told w ≡ sized_by words g → Laid words g out out' → out' ≡ output_of words g out
      go (accepts a n) q l = l
      go (refuses k) q l = cc

  -- A refused one is cleared.
  pub cleared : (r : Result ℕ Refusal) → Attempted words f out out' r → is_err r ≡ true → {out'' : List ℕ} → length out' ≡ length out → out'' ≡ zeros out' → out'' ≡ output_of words f out
  unfolding output_of
  cleared (Ok w) s h k z = cc
  cleared (Err x) s h k z = z ∙ ap (λ (m : ℕ). replicate m 0) k ∙ go f s.answer
    where
      go : (g : Final A) → answer_refused (number_of x) ≡ sized_by words g → zeros out ≡ output_of words g out
      go (accepts a m) q = cc
      go (refuses m) q = refl
