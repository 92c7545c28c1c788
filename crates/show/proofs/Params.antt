-- The words of parameters, where they stand, and the lines that they make.
use Prim.Native.Nat.{ℕ, zero, suc, ◌+◌, ◌-◌, ◌*◌, ◌≤◌, ◌<◌}
use mathlib.Core.Path.{◌≡◌, refl, sym, ap, ◌∙◌}
use mathlib.Core.List.{List, [], ◌∷◌, ◌++◌, append_assoc}
use native.Mathlib.Omega.{arith}
use lib.ListN.{length, length-append}
use lib.Seq.{take_at}
use Rattle.reading.proofs.Placed.{at_drop}
use Rattle.grammar.specs.Sort.{two, sort_words}
use Rattle.grammar.specs.Item.{Item, words_of}
use Rattle.grammar.specs.Expr.{Binder, Expr, expr_items, Solution, binder_items, sort_items, solution_items}
use Rattle.grammar.proofs.Items.{words-front}
use Rattle.judging.specs.Judge.{reads, several, two_words, sort_at, binder_at, binders_at}
use Rattle.judging.specs.Spelled.{Spelled}
use Rattle.judging.proofs.FieldsBack.{moved}
use Rattle.judging.proofs.Spell.{Low, post_reads, spelled-inside, spelled_none, spelled_seq, a-two}
use Rattle.judging.proofs.SpellSort.{a-sort}
use Rattle.judging.proofs.Taken.{first_read, same-value, same_end}
use Rattle.flattening.specs.Operations.{no_text}
use Rattle.show.specs.Lines.{line, refusal_text, param_lines, solution_text}
use Rattle.show.proofs.Printing.{between, line-length}

-- The words of a parameter.
abbrev pub param_words : Binder → List ℕ
param_words b = two b.var ++ sort_words b.sort

-- The words of parameters and a body: the first parameter, and the others.
words-next : (b : Binder) (bs : List Binder) (its : List Item) → words_of (binder_items (b ∷ bs) ++ its) ≡ param_words b ++ words_of (binder_items bs ++ its)
unfolding binder_items words_of
words-next b bs its =
    ap (λ l. two b.var ++ words_of l) (append_assoc (sort_items b.sort) (binder_items bs) its)
    ∙ ap (λ l. two b.var ++ l) (words-front (sort_words b.sort) (binder_items bs ++ its))

-- Nine bytes a word.
lines-length : (bs : List Binder) (e : Expr) → length (param_lines bs ++ line (words_of (expr_items e))) ≡ 9 * length (words_of (binder_items bs ++ expr_items e))
unfolding param_lines binder_items
lines-length [] e = line-length (words_of (expr_items e))
lines-length (b ∷ bs) e =
    let a : List ℕ = line (param_words b) in
    let r : List ℕ = param_lines bs ++ line (words_of (expr_items e)) in
    ap length (append_assoc a (param_lines bs) (line (words_of (expr_items e))))
    ∙ omega (arith, length-append a r, line-length (param_words b), lines-length bs e, ap length (words-next b bs (expr_items e)), length-append (param_words b) (words_of (binder_items bs ++ expr_items e)))

-- The whole text, which lacks the word for the number of parameters.
pub text-length : (s : Solution) → length (solution_text s) + 6 ≡ 9 * length (words_of (solution_items s))
unfolding solution_text refusal_text solution_items words_of
text-length s = omega (arith, lines-length s.params s.body)

-- Words that are spelled between two places are the words between them.
pub between-spelled : {words xs : List ℕ} {from to : ℕ} → Spelled words from to xs → between words from to ≡ xs
between-spelled {words} {xs} {from} {to} s =
    let n : to - from ≡ length xs = omega (arith, s.ends) in
    rw (n, at_drop s.stands) (take_at xs s.stands.rest (length xs) refl)

-- The next of the parameters that are read from a place on: its sort ends at another place, from which the others are read.
pub record Next (words : List ℕ) (from left : ℕ) (bs : List Binder) (behind : ℕ) : Type 0 where
  pub binder : Binder
  pub others : List Binder
  pub is : bs ≡ binder ∷ others
  pub to : ℕ
  pub sort : sort_at no_text words (from + 2) ≡ reads binder.sort to
  pub then : binders_at no_text (left - 1) words to ≡ reads others behind
  pub spelled : Spelled words from to (param_words binder)

module _ (words : List ℕ) {bs : List Binder} {behind : ℕ} where
  -- A number and a sort.
  next-at : Low words → (from left : ℕ) → from ≤ length words → (b : Binder) (others : List Binder) (m : ℕ) → binder_at no_text words from ≡ reads b m → binders_at no_text (left - 1) words m ≡ reads others behind → bs ≡ b ∷ others → Next words from left bs behind
  unfolding binder_at
  next-at low from left h b others m x u e =
      first_read (two_words words from) _ words x λ k a p q.
      first_read (sort_at no_text words a) _ words q λ s t f g.
      let n : Spelled words from a (two k) = post_reads (two_words words from) (λ i j. Spelled words from j (two i)) ((a-two low).reach from from (spelled_none h)) p in
      let o : Spelled words a t (sort_words s) = post_reads (sort_at no_text words a) (λ i j. Spelled words a j (sort_words i)) ((a-sort no_text low).reach a a (spelled_none (spelled-inside n))) f in
      let l : a ≡ from + 2 = omega (arith, n.ends) in
      let c : Binder = record { var = k; sort = s } in
      record {
        binder = c;
        others = others;
        is = e ∙ ap (λ (d : Binder). d ∷ others) (sym (same-value g));
        to = t;
        sort = rw l at f;
        then = rw (same_end g) u;
        spelled = spelled_seq n o;
      }

  pub next-read : Low words → (from left : ℕ) → from ≤ length words → 0 < left → binders_at no_text left words from ≡ reads bs behind → Next words from left bs behind
  unfolding binders_at several
  next-read low from zero h z e = absurd (omega arith)
  next-read low from (suc left) h z e =
      let k : suc left - 1 ≡ left = omega arith in
      first_read (binder_at no_text words from) _ words e λ b m x y.
      first_read (binders_at no_text left words m) _ words y λ others n u v.
      next-at low from (suc left) h b others m x (rw k (u ∙ moved (same_end v))) (sym (same-value v))

  -- No parameter is left.
  pub none_read : (from left : ℕ) → left ≤ 0 → binders_at no_text left words from ≡ reads bs behind → (bs ≡ []) × (from ≡ behind)
  unfolding binders_at several
  none_read from zero h e = (sym (same-value e), same_end e)
  none_read from (suc left) h e = absurd (omega arith)
