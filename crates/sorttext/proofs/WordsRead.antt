-- What was read of a sort, of a binder and of several: where it begins, what it says, and where it is spelled.
use Prim.Native.Nat.{ℕ, zero, suc, ◌+◌, ◌-◌, ◌*◌, ◌^◌, ◌≤◌, ◌<◌}
use mathlib.Core.Path.{◌≡◌, sym, ap, ◌∙◌}
use mathlib.Core.List.{List, [], ◌∷◌}
use native.Mathlib.Omega.{arith}
use lib.ListN.{length, get_or}
use Rattle.grammar.specs.Sort.{Sort, sort_words}
use Rattle.grammar.specs.Expr.{Binder}
use Rattle.judging.specs.Judge.{reads, word, two_words, several, sort_deep, sort_at, binder_at, binders_at}
use Rattle.judging.specs.Spelled.{Spelled}
use Rattle.judging.proofs.Taken.{never-reads, first_read, same-value, same_end, word_read}
use Rattle.judging.proofs.Spell.{Low, post_reads, spelled_none}
use Rattle.judging.proofs.SpellSort.{a-sort}

-- A sort begins inside the words, and is spelled there.
deep-inside : (limit deep : ℕ) (ws : List ℕ) (at : ℕ) {s : Sort} {n : ℕ} → sort_deep limit deep ws at ≡ reads s n → at < length ws
unfolding sort_deep
deep-inside limit zero ws at e = never-reads e
deep-inside limit (suc deep) ws at e = first_read (word ws at) _ ws e λ k m x y. (word_read ws at x).2

pub sort-spelled : (limit : ℕ) (ws : List ℕ) (at : ℕ) {s : Sort} {n : ℕ} → Low ws → sort_at limit ws at ≡ reads s n → Spelled ws at n (sort_words s)
unfolding sort_at
sort-spelled limit ws at low e =
    let h : at < length ws = deep-inside limit (length ws) ws at e in
    post_reads (sort_at limit ws at) (λ s n. Spelled ws at n (sort_words s)) ((a-sort limit {ws = ws} low).reach at at (spelled_none (omega (arith, h)))) e

-- A binder is a number of two words and a sort.
pub record OneBinder (limit : ℕ) (ws : List ℕ) (at : ℕ) (b : Binder) (n : ℕ) : Type 0 where
  pub starts : at < length ws
  pub number : get_or ws at 0 + get_or ws (at + 1) 0 * 2 ^ 32 ≡ b.var
  pub sorted : sort_at limit ws (at + 2) ≡ reads b.sort n

pub binder-read : (limit : ℕ) (ws : List ℕ) (at : ℕ) {b : Binder} {n : ℕ} → binder_at limit ws at ≡ reads b n → OneBinder limit ws at b n
unfolding binder_at two_words
binder-read limit ws at {b} {n} e =
    first_read (two_words ws at) _ ws e λ k m x y.
    first_read (sort_at limit ws m) _ ws y λ s j u v.
    first_read (word ws at) _ ws x λ low i f g.
    first_read (word ws i) _ ws g λ high o p q.
    let r = word_read ws at f in
    let t = word_read ws i p in
    let c : record { var = k; sort = s } ≡ b = same-value v in
    let d : low + high * 2 ^ 32 ≡ k = same-value q in
    let z : m ≡ at + 2 = omega (arith, sym (same_end q), t.1, r.1) in
    record {
      starts = r.2;
      number = rw (← r.1, ← r.0, ← t.0) (d ∙ ap (λ (w : Binder). w.var) c);
      sorted = ap (λ (w : ℕ). sort_at limit ws w) (sym z) ∙ u ∙ ap (λ (w : Binder). reads w.sort j) c ∙ ap (reads b.sort) (same_end v);
    }

-- None, or the first of several and the others.
pub record FirstBinder (limit : ℕ) (ws : List ℕ) (at i : ℕ) (bs : List Binder) (m : ℕ) : Type 0 where
  pub first : Binder
  pub others : List Binder
  pub next : ℕ
  pub one : binder_at limit ws at ≡ reads first next
  pub rest : binders_at limit (i - 1) ws next ≡ reads others m
  pub all : bs ≡ first ∷ others

pub binders-first : (limit : ℕ) (ws : List ℕ) (at i : ℕ) {bs : List Binder} {m : ℕ} → 0 < i → binders_at limit i ws at ≡ reads bs m → FirstBinder limit ws at i bs m
unfolding binders_at several
binders-first limit ws at zero h e = absurd (omega (arith, h))
binders-first limit ws at (suc i) {bs} {m} h e =
    first_read (binder_at limit ws at) _ ws e λ b n x y.
    first_read (several (binder_at limit) [] (λ (z : Binder) zs. z ∷ zs) i ws n) _ ws y λ os j u v.
    let k : suc i - 1 ≡ i = omega arith in
    record {
      first = b;
      others = os;
      next = n;
      one = x;
      rest = rw k (u ∙ ap (reads os) (same_end v));
      all = sym (same-value v);
    }

pub binders-none : (limit : ℕ) (ws : List ℕ) (at i : ℕ) {bs : List Binder} {m : ℕ} → i ≤ 0 → binders_at limit i ws at ≡ reads bs m → (bs ≡ []) × (at ≡ m)
unfolding binders_at several
binders-none limit ws at zero h e = (sym (same-value e), same_end e)
binders-none limit ws at (suc i) h e = absurd (omega (arith, h))
