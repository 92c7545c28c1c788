-- What the readers of a sort's fields and of binders answer, by what the code has tested.
use Prim.Native.Nat.{ℕ, zero, suc, ◌+◌, ◌-◌, ◌≤◌, ◌<◌}
use mathlib.Core.Path.{◌≡◌, refl, sym, ap, ◌∙◌}
use mathlib.Core.List.{List, [], ◌∷◌}
use native.Mathlib.Omega.{arith}
use lib.ListN.{length, get_or}
use borrow.Author.Tests.{lt-ltb, le-ltb, le-leb, lt-leb}
use Rattle.reading.specs.Pick.{pick}
use Rattle.reading.specs.Bytes.{nothing}
use Rattle.grammar.specs.Sort.{Ctor, c_data}
use Rattle.grammar.specs.Expr.{Binder}
use Rattle.judging.specs.Judge.{Judged, reads, fails, FromWords, go_on, ◌>>=◌, ret, word, among, choose, two_words, several, span_within, ctors, sort_at, binder_at, binders_at}
use Rattle.sortwords.specs.SortFields.{one_field, ctor_at, app_fields, sort_fields, sort_head, inside_of}
use Rattle.judging.specs.Ends.{end_of}
use Rattle.words.specs.Answered.{Answered, told, refused}
use Rattle.sortwords.specs.declared.Inside.{Inside}
use Rattle.judging.proofs.ReadFields.{word_in, word_out, There, there-reads}

-- A value behind which nothing is read ends where it ends.
end-map : {A B : Type 0} (x : Judged A) (f : A → B) (ws : List ℕ) → end_of x ≡ end_of (go_on x (λ a. ret (f a)) ws)
end-map (reads a n) f ws = refl
end-map (fails r) f ws = refl

inside-map : {A : Type 0} (x : Judged A) (n : ℕ) (ws : List ℕ) {b : ℕ} → told b ≡ end_of x → told (record { next = b; sorts = n }) ≡ inside_of (go_on x (λ a. ret n) ws)
inside-map (reads a m) n ws {b} e = let z : b ≡ m = cc in ap (λ (i : ℕ). told (record { next = i; sorts = n })) z
inside-map (fails r) n ws e = let z : ◌≡◌ {A = ℕ} 0 1 = cc in absurd (omega arith)

inside-no : {A : Type 0} (x : Judged A) (f : A → FromWords ℕ) (ws : List ℕ) {r : ℕ} → refused r ≡ end_of x → refused r ≡ inside_of (go_on x f ws)
inside-no (reads a m) f ws e = let z : ◌≡◌ {A = ℕ} 0 1 = cc in absurd (omega arith)
inside-no (fails s) f ws {r} e = let z : r ≡ s = cc in ap refused z

among_far : {A : Type 0} (rs : List A) (j : ℕ) → length rs ≤ j → among rs j ≡ nothing
among_far [] j h = refl
among_far (r ∷ rs) zero h = absurd (omega arith)
among_far (r ∷ rs) (suc j) h = among_far rs j (omega arith)

module _ (ws : List ℕ) (at : ℕ) where
  -- A word of any value.
  pub field_out : (n : ℕ) → length ws ≤ at → refused 14 ≡ inside_of (one_field n ws at)
  unfolding one_field
  field_out n h = rw (word_out ws at h) refl

  pub field_in : (n : ℕ) → at < length ws → told (record { next = at + 1; sorts = n }) ≡ inside_of (one_field n ws at)
  unfolding one_field
  field_in n h = rw (word_in ws at h) refl

  -- Two words.
  pub two-short : {n : ℕ} → n ≡ length ws - at → n < 2 → refused 14 ≡ end_of (two_words ws at)
  unfolding two_words
  two-short {n} e h = go (length ws - at) refl (omega (arith, e, h))
    where
      go : (m : ℕ) → length ws - at ≡ m → m < 2 → refused 14 ≡ end_of (two_words ws at)
      go zero f l = rw (word_out ws at (omega (arith, f))) refl
      go (suc m) f l = rw (word_in ws at (omega (arith, f)), word_out ws (at + 1) (omega (arith, f, l))) refl

  pub two_in : {n : ℕ} → n ≡ length ws - at → 2 ≤ n → told (at + 2) ≡ end_of (two_words ws at)
  unfolding two_words
  two_in e h =
      let z : at + 2 ≡ at + 1 + 1 = omega arith in
      rw (z, word_in ws at (omega (arith, e, h)), word_in ws (at + 1) (omega (arith, e, h))) refl

module _ (limit : ℕ) (ws : List ℕ) (at : ℕ) where
  -- A span.
  pub span-short : {n : ℕ} → n ≡ length ws - at → n < 2 → refused 14 ≡ end_of (span_within limit ws at)
  unfolding span_within
  span-short {n} e h = go (length ws - at) refl (omega (arith, e, h))
    where
      go : (m : ℕ) → length ws - at ≡ m → m < 2 → refused 14 ≡ end_of (span_within limit ws at)
      go zero f l = rw (word_out ws at (omega (arith, f))) refl
      go (suc m) f l = rw (word_in ws at (omega (arith, f)), word_out ws (at + 1) (omega (arith, f, l))) refl

  pub span_far : {n : ℕ} → n ≡ length ws - at → 2 ≤ n → limit < get_or ws at 0 + get_or ws (at + 1) 0 → refused 14 ≡ end_of (span_within limit ws at)
  unfolding span_within pick
  span_far e h l =
      rw (word_in ws at (omega (arith, e, h)), word_in ws (at + 1) (omega (arith, e, h)), lt-leb (get_or ws at 0 + get_or ws (at + 1) 0) limit l) refl

  pub span_in : {n : ℕ} → n ≡ length ws - at → 2 ≤ n → get_or ws at 0 + get_or ws (at + 1) 0 ≤ limit → told (at + 2) ≡ end_of (span_within limit ws at)
  unfolding span_within pick
  span_in e h l =
      let z : at + 2 ≡ at + 1 + 1 = omega arith in
      rw (z, word_in ws at (omega (arith, e, h)), word_in ws (at + 1) (omega (arith, e, h)), le-leb (get_or ws at 0 + get_or ws (at + 1) 0) limit l) refl

  -- A constructor.
  pub ctor-out : length ws ≤ at → refused 14 ≡ end_of (ctor_at limit ws at)
  unfolding ctor_at
  ctor-out h = rw (word_out ws at h) refl

  -- By its word, k.
  pub ctor_plain : {k : ℕ} → There ws at k → k < 2 → told (at + 1) ≡ end_of (ctor_at limit ws at)
  unfolding ctor_at choose ctors pick
  ctor_plain {k = zero} t l = rw (there-reads ws at t) refl
  ctor_plain {k = suc zero} t l = rw (there-reads ws at t) refl
  ctor_plain {k = suc (suc k)} t l = absurd (omega (arith, l))

  pub ctor_data : {k : ℕ} {r : Answered ℕ} → There ws at k → k ≡ 2 → r ≡ end_of (span_within limit ws (at + 1)) → r ≡ end_of (ctor_at limit ws at)
  unfolding ctor_at choose ctors pick
  ctor_data t e s = rw (there-reads ws at t, e) (s ∙ end-map (span_within limit ws (at + 1)) c_data ws)

  pub ctor-other : {k : ℕ} → There ws at k → 2 < k → refused 14 ≡ end_of (ctor_at limit ws at)
  unfolding ctor_at choose ctors pick
  ctor-other {k} t l = rw (there-reads ws at t, le-ltb k 0 (omega arith), among_far (ctors limit) (k - 0) (omega (arith, l))) refl

  -- A constructor and the number of its sorts.
  pub app-no : {r : ℕ} → refused r ≡ end_of (ctor_at limit ws at) → refused r ≡ inside_of (app_fields limit ws at)
  unfolding app_fields
  app-no e = inside-no (ctor_at limit ws at) _ ws e

  pub app-out : {b : ℕ} → told b ≡ end_of (ctor_at limit ws at) → length ws ≤ b → refused 14 ≡ inside_of (app_fields limit ws at)
  unfolding app_fields
  app-out {b} e h = go (ctor_at limit ws at) e
    where
      go : (x : Judged Ctor) → told b ≡ end_of x → refused 14 ≡ inside_of (go_on x (λ c. word >>= λ n. ret n) ws)
      go (reads c m) f = let z : b ≡ m = cc in rw (word_out ws m (omega arith)) refl
      go (fails s) f = let z : ◌≡◌ {A = ℕ} 0 1 = cc in absurd (omega arith)

  pub app_in : {b k : ℕ} → told b ≡ end_of (ctor_at limit ws at) → There ws b k → told (record { next = b + 1; sorts = k }) ≡ inside_of (app_fields limit ws at)
  unfolding app_fields
  app_in {b} {k} e t = go (ctor_at limit ws at) e
    where
      go : (x : Judged Ctor) → told b ≡ end_of x → told (record { next = b + 1; sorts = k }) ≡ inside_of (go_on x (λ c. word >>= λ n. ret n) ws)
      go (reads c m) f = let z : b ≡ m = cc in rw (← z, there-reads ws b t) refl
      go (fails s) f = let z : ◌≡◌ {A = ℕ} 0 1 = cc in absurd (omega arith)

  -- The kind and the fields of a sort.
  pub head-out : length ws ≤ at → refused 14 ≡ inside_of (sort_head limit ws at)
  unfolding sort_head
  head-out h = rw (word_out ws at h) refl

  plain-fields : (k : ℕ) → 0 < k → k < 5 → told (record { next = at + 1; sorts = 0 }) ≡ inside_of (choose 1 (sort_fields limit) k ws (at + 1))
  unfolding choose sort_fields pick
  plain-fields zero l h = absurd (omega arith)
  plain-fields (suc zero) l h = refl
  plain-fields (suc (suc zero)) l h = refl
  plain-fields (suc (suc (suc zero))) l h = refl
  plain-fields (suc (suc (suc (suc zero)))) l h = refl
  plain-fields (suc (suc (suc (suc (suc k))))) l h = absurd (omega arith)

  -- By its word, k.
  module _ {k : ℕ} (there : There ws at k) where
    head_at : {r : Answered Inside} → r ≡ inside_of (choose 1 (sort_fields limit) k ws (at + 1)) → r ≡ inside_of (sort_head limit ws at)
    unfolding sort_head
    head_at f = rw (there-reads ws at there) f

    -- Int, Bool, Real and Str.
    pub head_plain : 1 ≤ k → k < 5 → told (record { next = at + 1; sorts = 0 }) ≡ inside_of (sort_head limit ws at)
    head_plain l m = head_at (plain-fields k (omega (arith, l)) m)

    pub head-none : k < 1 → refused 14 ≡ inside_of (sort_head limit ws at)
    unfolding choose pick
    head-none l = head_at (rw (lt-ltb k 1 l) refl)

    pub head-other : 10 < k → refused 14 ≡ inside_of (sort_head limit ws at)
    unfolding choose sort_fields pick
    head-other l = head_at (rw (le-ltb k 1 (omega (arith, l)), among_far (sort_fields limit) (k - 1) (omega (arith, l))) refl)

    -- BitVec and Func have no fields.
    pub head_bitvec : k ≡ 5 → told (record { next = at + 1; sorts = 1 }) ≡ inside_of (sort_head limit ws at)
    unfolding choose sort_fields pick
    head_bitvec e = head_at (rw e refl)

    pub head-func : k ≡ 8 → told (record { next = at + 1; sorts = 2 }) ≡ inside_of (sort_head limit ws at)
    unfolding choose sort_fields pick
    head-func e = head_at (rw e refl)

    -- A width, and a number with the sort that it abstracts.
    pub head-size : {r : Answered Inside} → k ≡ 6 → r ≡ inside_of (one_field 0 ws (at + 1)) → r ≡ inside_of (sort_head limit ws at)
    unfolding choose sort_fields pick
    head-size e f = head_at (rw e f)

    pub head_abs : {r : Answered Inside} → k ≡ 9 → r ≡ inside_of (one_field 1 ws (at + 1)) → r ≡ inside_of (sort_head limit ws at)
    unfolding choose sort_fields pick
    head_abs e f = head_at (rw e f)

    -- A variable's number.
    pub head-var : {b : ℕ} → k ≡ 7 → told b ≡ end_of (two_words ws (at + 1)) → told (record { next = b; sorts = 0 }) ≡ inside_of (sort_head limit ws at)
    unfolding choose sort_fields pick
    head-var e f = head_at (rw e (inside-map (two_words ws (at + 1)) 0 ws f))

    pub head-var-no : {r : ℕ} → k ≡ 7 → refused r ≡ end_of (two_words ws (at + 1)) → refused r ≡ inside_of (sort_head limit ws at)
    unfolding choose sort_fields pick
    head-var-no e f = head_at (rw e (inside-no (two_words ws (at + 1)) (λ i. ret 0) ws f))

    pub head-app : {r : Answered Inside} → k ≡ 10 → r ≡ inside_of (app_fields limit ws (at + 1)) → r ≡ inside_of (sort_head limit ws at)
    unfolding choose sort_fields pick
    head-app e f = head_at (rw e f)

-- What the answers of the code say of the reading.
at_case : {A P : Type 0} (x : Judged A) {b : ℕ} → told b ≡ end_of x → ((a : A) → x ≡ reads a b → P) → P
at_case (reads a m) {b} e f = let z : m ≡ b = cc in f a (ap (reads a) z)
at_case (fails r) e f = let z : ◌≡◌ {A = ℕ} 0 1 = cc in absurd (omega arith)

no_case : {A : Type 0} (x : Judged A) {r : ℕ} → refused r ≡ end_of x → x ≡ fails r
no_case (reads a m) e = let z : ◌≡◌ {A = ℕ} 0 1 = cc in absurd (omega arith)
no_case (fails s) {r} e = cc

-- Binders, one after the other.
module _ (limit : ℕ) (ws : List ℕ) (at : ℕ) where
  pub binders-done : (n : ℕ) → n ≤ 0 → end_of (binders_at limit n ws at) ≡ told at
  unfolding binders_at several
  binders-done zero h = refl
  binders-done (suc n) h = absurd (omega arith)

  pub binders-next : (n m : ℕ) {b e : ℕ} → n ≡ m + 1 → told b ≡ end_of (two_words ws at) → told e ≡ end_of (sort_at limit ws b) → end_of (binders_at limit n ws at) ≡ end_of (binders_at limit m ws e)
  unfolding binders_at several binder_at
  binders-next zero m h k l = absurd (omega arith)
  binders-next (suc n) m {b} {e} h k l =
      let i : m ≡ n = omega (arith, h) in
      at_case (two_words ws at) k λ v E.
      at_case (sort_at limit ws b) l λ s F.
      rw (E, F, i) (sym (end-map (several (binder_at limit) [] (λ (y : Binder) ys. y ∷ ys) n ws e) _ ws))

  pub binders-two : (n : ℕ) {r : ℕ} → 0 < n → refused r ≡ end_of (two_words ws at) → end_of (binders_at limit n ws at) ≡ refused r
  unfolding binders_at several binder_at
  binders-two zero h k = absurd (omega arith)
  binders-two (suc n) h k = rw (no_case (two_words ws at) k) refl

  pub binders-sort : (n : ℕ) {b r : ℕ} → 0 < n → told b ≡ end_of (two_words ws at) → refused r ≡ end_of (sort_at limit ws b) → end_of (binders_at limit n ws at) ≡ refused r
  unfolding binders_at several binder_at
  binders-sort zero h k l = absurd (omega arith)
  binders-sort (suc n) {b} {r} h k l = at_case (two_words ws at) k λ v E. rw (E, no_case (sort_at limit ws b) l) refl
