-- The tree that read one leaves in a slice.
use Prim.Native.Nat.{ℕ, ◌≤◌}
use mathlib.Core.Path.{◌≡◌, refl, sym, ap, subst, ◌∙◌}
use mathlib.Core.Bool.{Bool, true, false}
use mathlib.Core.List.{List, append-nil}
use native.Mathlib.Omega.{arith}
use lib.ListN.{length, take, drop}
use lib.Seq.{take_at}
use borrow.Author.Tests.{leb-true}
use Rattle.reading.specs.Tree.{Trees, tree_words, trees_words}
use Rattle.reading.specs.Answer.{Refusal, number, no_room, Ans, got, bad, lifted, Final, accepts, refuses, finish, fits_in, said_of, over, output_of}
use Rattle.reading.specs.Reading.{Read, read_text, read_words, read_report, read_final, read_said, read_out}
use Rattle.std.specs.Prelude.{Result, Ok, Err}
use Rattle.words.specs.declared.refusal.Refusal.{Refusal as Told}
use Rattle.words.specs.declared.report.Report.{Report}
use Rattle.words.specs.Answered.{heard}
use Rattle.reading.proofs.Finish.{finish-short, finish-long}
use Rattle.reading.proofs.Over.{over-fits, over-length}
use Rattle.reading.proofs.Read.{read-size, read_short}
use Rattle.reading.proofs.TextTree.{text-tree}
use Rattle.grammar.specs.ParseSort.{tree_at}
use Rattle.grammar.specs.Operations.{the_tree}
use Rattle.parse.specs.TreeOf.{TreeIn, NoTree, TreeOf}

module _ (text tree : List ℕ) where
  final-bad : (e : Refusal) → read_text false text ≡ bad e → read_final false text tree ≡ refuses (number e)
  unfolding read_final finish
  final-bad e p = rw p

  final-short : (q : Read) → read_text false text ≡ got q → fits_in tree (read_words q) ≡ false → read_final false text tree ≡ refuses (number no_room)
  unfolding read_final
  final-short q p b = ap (λ (x : Ans Read). finish (λ r. fits_in tree (read_words r)) 0 (lifted x 0)) p ∙ finish-short (λ r. fits_in tree (read_words r)) 0 q 0 (omega arith) b

  final-long : (q : Read) → read_text false text ≡ got q → fits_in tree (read_words q) ≡ true → read_final false text tree ≡ accepts q 0
  unfolding read_final
  final-long q p b = ap (λ (x : Ans Read). finish (λ r. fits_in tree (read_words r)) 0 (lifted x 0)) p ∙ finish-long (λ r. fits_in tree (read_words r)) 0 q 0 (omega arith) b

  said_of_lem : {f : Final Read} → read_final false text tree ≡ f → read_said false text tree ≡ said_of (read_report false) f
  unfolding read_said
  said_of_lem e = rw e

  -- The tree of what was read.
  tree_of : (q : Read) → read_text false text ≡ got q → fits_in tree (read_words q) ≡ true → {tree' : List ℕ} {n : ℕ} → tree' ≡ over (read_words q) tree → n ≡ length (read_words q) → TreeIn text tree tree' n
  unfolding the_tree tree_at tree_words
  tree_of q p b {tree'} {n} o k =
      let t = text-tree text q p in
      let w : read_words q ≡ tree_words t.0 = ap trees_words t.1 ∙ append-nil (tree_words t.0) in
      let f : length (read_words q) ≤ length tree = leb-true (length (read_words q)) (length tree) b in
      let l : length tree' ≡ length tree = ap length o ∙ over-length (read_words q) tree in
      record {
        it = t.0;
        is = rw (p, b) (ap (λ (ts : Trees). tree_at ts 0) t.1);
        there = ap (take n) (o ∙ over-fits (read_words q) tree f) ∙ take_at (read_words q) (drop (length (read_words q)) tree) n (sym k) ∙ w;
        within = omega arith;
        nests = t.2.nests;
        short = t.2.short;
        small = omega (arith, read-size false text q p, read_short false text q p);
      }

module _ {text tree tree' : List ℕ} {r : Result Report Told} (a : heard r ≡ read_said false text tree) (o : tree' ≡ read_out false text tree) where
  pub tree_in : {n : Report} → r ≡ Ok n → TreeIn text tree tree' n.first
  unfolding read_out output_of said_of
  tree_in {n} e = go (read_text false text) refl
    where
      room : (q : Read) → read_text false text ≡ got q → (b : Bool) → fits_in tree (read_words q) ≡ b → TreeIn text tree tree' n.first
      room q p false b = let s = said_of_lem text tree (final-short text tree q p b) in let h = ap heard (sym e) ∙ a ∙ s in let z : ◌≡◌ {A = ℕ} 0 1 = cc in absurd (omega arith)
      room q p true b =
          let s = said_of_lem text tree (final-long text tree q p b) in
          let k : n.first ≡ length (read_words q) = let h : heard (Ok n) ≡ said_of (read_report false) (accepts q 0) = ap heard (sym e) ∙ a ∙ s in cc in
          tree_of text tree q p b (o ∙ rw (final-long text tree q p b) refl) k

      go : (x : Ans Read) → read_text false text ≡ x → TreeIn text tree tree' n.first
      go (bad w) p = let s = said_of_lem text tree (final-bad text tree w p) in let h = ap heard (sym e) ∙ a ∙ s in let z : ◌≡◌ {A = ℕ} 0 1 = cc in absurd (omega arith)
      go (got q) p = room q p (fits_in tree (read_words q)) refl

  pub no-tree : {n : Told} → r ≡ Err n → NoTree text tree n
  unfolding said_of the_tree
  no-tree {n} e = go (read_text false text) refl
    where
      room : (q : Read) → read_text false text ≡ got q → (b : Bool) → fits_in tree (read_words q) ≡ b → NoTree text tree n
      room q p true b = let s = said_of_lem text tree (final-long text tree q p b) in let h = ap heard (sym e) ∙ a ∙ s in let z : ◌≡◌ {A = ℕ} 0 1 = cc in absurd (omega arith)
      room q p false b = let s = said_of_lem text tree (final-short text tree q p b) in record { why = no_room; is = rw (p, b) refl; tells = let h = ap heard (sym e) ∙ a ∙ s in cc }

      go : (x : Ans Read) → read_text false text ≡ x → NoTree text tree n
      go (bad w) p = let s = said_of_lem text tree (final-bad text tree w p) in record { why = w; is = rw p refl; tells = let h = ap heard (sym e) ∙ a ∙ s in cc }
      go (got q) p = room q p (fits_in tree (read_words q)) refl

-- ---- the same of what the operations ask for

-- The words of the tree are there.
pub there-is : {text tree tree' : List ℕ} {r : Result ℕ Told} {n : ℕ} → TreeOf text tree tree' r → r ≡ Ok n → TreeIn text tree tree' n
there-is {text} {tree} {tree'} x e = subst (λ (z : Result ℕ Told). TreeOf text tree tree' z) e x

-- There is none.
pub there-none : {text tree : List ℕ} (tree' : List ℕ) {r : Result ℕ Told} {n : Told} → TreeOf text tree tree' r → r ≡ Err n → NoTree text tree n
there-none {text} {tree} tree' x e = subst (λ (z : Result ℕ Told). TreeOf text tree tree' z) e x
