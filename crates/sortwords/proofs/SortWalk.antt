-- A sort is read by a walk over the words that counts the sorts still to come.
use Prim.Native.Nat.{ℕ, zero, suc, ◌+◌, ◌-◌, ◌≤◌, ◌<◌}
use mathlib.Core.Path.{◌≡◌, refl, sym, ap, ◌∙◌}
use mathlib.Core.Bool.{Bool, true, false}
use mathlib.Core.List.{List, [], ◌∷◌}
use native.Mathlib.Omega.{arith}
use lib.Dec.{ltb, leb}
use lib.ListN.{length, get_or}
use Rattle.reading.specs.Pick.{pick}
use Rattle.reading.specs.Answer.{not_words}
use Rattle.grammar.specs.Sort.{Sort, c_set, c_map, c_data, s_int, s_bool, s_real, s_str, s_bit_vec, s_size, s_var, s_func, s_abs, s_app, snil, scons}
use Rattle.judging.specs.Judge.{Judged, reads, fails, FromWords, go_on, ◌>>=◌, ret, fail, word, among, or_fail, choose, two_words, several, span_within, ctors, sort_kinds, sort_deep, sort_at}
use Rattle.sortwords.specs.SortFields.{one_field, ctor_at, app_fields, sort_fields, sort_head, inside_of}
use Rattle.judging.specs.Ends.{end_of}
use Rattle.words.specs.Answered.{Answered, told, refused}
use Rattle.sortwords.specs.declared.Inside.{Inside}
use Rattle.judging.proofs.ReadFields.{word_in, word_out}

-- What follows a reading, or its refusal.
unfoldable pub after : {A : Type 0} → Judged A → (A → ℕ → Answered ℕ) → Answered ℕ
after (reads a n) k = k a n
after (fails r) k = refused r

-- The place behind so many sorts, by a walk over at most so many.
unfoldable pub walk : ℕ → List ℕ → ℕ → ℕ → ℕ → Answered ℕ
walk limit ws zero zero at = told at
walk limit ws zero (suc p) at = refused not_words
walk limit ws (suc g) zero at = told at
walk limit ws (suc g) (suc p) at = after (sort_head limit ws at) (λ n b. walk limit ws g (n + p) b)

-- Whether a place is inside.
data Place (at n : ℕ) : Type 0 where
  within : at < n → Place at n
  out : n ≤ at → Place at n

place : (at n : ℕ) → Place at n
place at zero = out (omega arith)
place zero (suc n) = within (omega arith)
place (suc at) (suc n) = go (place at n)
  where
    go : Place at n → Place (suc at) (suc n)
    go (within l) = within (omega arith)
    go (out l) = out (omega arith)

-- What the answers of the code say of the reading.
sorts_in : Answered Inside → ℕ
sorts_in (told i) = i.sorts
sorts_in (refused r) = 0

next_in : Answered Inside → ℕ
next_in (told i) = i.next
next_in (refused r) = 0

inside-next : (x : Judged ℕ) {b n : ℕ} → told (record { next = b; sorts = n }) ≡ inside_of x → x ≡ reads n b
unfolding sorts_in next_in
inside-next (reads m c) {b} {n} e =
    let p : n ≡ m = ap sorts_in e in
    let q : b ≡ c = ap next_in e in
    rw (p, q) refl
inside-next (fails r) e = let z : ◌≡◌ {A = ℕ} 0 1 = cc in absurd (omega arith)

inside-no : (x : Judged ℕ) {r : ℕ} → refused r ≡ inside_of x → x ≡ fails r
inside-no (reads m c) e = let z : ◌≡◌ {A = ℕ} 0 1 = cc in absurd (omega arith)
inside-no (fails r) e = cc

module _ (limit : ℕ) (ws : List ℕ) where
  -- Nothing is read behind the end.
  head-out : (at : ℕ) → length ws ≤ at → sort_head limit ws at ≡ fails not_words
  unfolding sort_head
  head-out at h = rw (word_out ws at h) refl

  walk-out : (at g p : ℕ) → length ws ≤ at → 0 < p → walk limit ws g p at ≡ refused not_words
  unfolding walk after
  walk-out at g zero h l = absurd (omega arith)
  walk-out at zero (suc p) h l = refl
  walk-out at (suc g) (suc p) h l = rw (head-out at h) refl

  -- Readers that stay where they are or go on.
  abbrev Onward : {A : Type 0} → FromWords A → Type 0
  Onward {A} p = (at n : ℕ) (a : A) → p ws at ≡ reads a n → at ≤ n

  onward_ret : {A : Type 0} (x : A) → Onward (ret x)
  onward_ret x at n a e = let z : at ≡ n = cc in omega arith

  onward_fail : {A : Type 0} (r : ℕ) → Onward {A = A} (fail r)
  onward_fail r at n a e = let z : ◌≡◌ {A = ℕ} 0 1 = cc in absurd (omega arith)

  onward_pick : {A : Type 0} (t : Bool) (p q : FromWords A) → Onward p → Onward q → Onward (pick t p q)
  unfolding pick
  onward_pick true p q P Q = P
  onward_pick false p q P Q = Q

  onward_word : Onward word
  unfolding word pick
  onward_word at n a e = go (ltb at (length ws)) e
    where
      go : (t : Bool) → pick t (reads (get_or ws at 0) (at + 1)) (fails not_words) ≡ reads a n → at ≤ n
      go true f = let z : at + 1 ≡ n = cc in omega arith
      go false f = let z : ◌≡◌ {A = ℕ} 0 1 = cc in absurd (omega arith)

  onward_bind : {A B : Type 0} (p : FromWords A) (f : A → FromWords B) → Onward p → ((a : A) → Onward (f a)) → Onward (p >>= f)
  onward_bind {A} {B} p f P F at n b e = go (p ws at) refl e
    where
      go : (x : Judged A) → p ws at ≡ x → go_on x f ws ≡ reads b n → at ≤ n
      go (reads a m) g h = omega (arith, P at m a g, F a m n b h)
      go (fails r) g h = let z : ◌≡◌ {A = ℕ} 0 1 = cc in absurd (omega arith)

  onward_two : Onward two_words
  unfolding two_words
  onward_two = onward_bind word _ onward_word (λ a. onward_bind word _ onward_word (λ b. onward_ret _))

  onward_span : Onward (span_within limit)
  unfolding span_within
  onward_span =
      onward_bind word _ onward_word (λ a. onward_bind word _ onward_word (λ b. onward_pick (leb (a + b) limit) _ _ (onward_ret _) (onward_fail not_words)))

  -- Each reader of a list is onward, and so is the one that a number picks.
  abbrev EachOnward : {A : Type 0} → List (FromWords A) → Type 0
  EachOnward [] = Unit {0}
  EachOnward (r ∷ rs) = Onward r × EachOnward rs

  onward_among : {A : Type 0} (rs : List (FromWords A)) → EachOnward rs → (j : ℕ) → Onward (or_fail (among rs j))
  onward_among [] h j = onward_fail not_words
  onward_among (r ∷ rs) h zero = h.0
  onward_among (r ∷ rs) h (suc j) = onward_among rs h.1 j

  onward_ctor : Onward (ctor_at limit)
  unfolding ctor_at choose ctors
  onward_ctor =
      onward_bind word _ onward_word λ k.
      onward_pick (ltb k 0) _ _ (onward_fail not_words) (onward_among (ctors limit) (onward_ret c_set, (onward_ret c_map, (onward_bind (span_within limit) (λ s. ret (c_data s)) onward_span (λ s. onward_ret (c_data s)), tt))) (k - 0))

  -- What follows is the walk over so many sorts, from a place on.
  abbrev Follows : {A : Type 0} → ℕ → ℕ → (A → ℕ → Answered ℕ) → Type 0
  Follows {A} at q k = (a : A) (b g : ℕ) → at ≤ b → length ws ≤ b + g → k a b ≡ walk limit ws g q b

  -- A reader is a walk over so many sorts, from a place on.
  abbrev Walks : {A : Type 0} → ℕ → FromWords A → ℕ → Type 0
  Walks {A} lo p n = (at q g : ℕ) (k : A → ℕ → Answered ℕ) → lo ≤ at → length ws ≤ at + g → Follows at q k → after (p ws at) k ≡ walk limit ws g (n + q) at

  -- What follows the second of two readers follows the first, through the second.
  after-bind : {A B : Type 0} (x : Judged A) (f : A → FromWords B) (k : B → ℕ → Answered ℕ) → after (go_on x f ws) k ≡ after x (λ a b. after (f a ws b) k)
  unfolding after
  after-bind (reads a n) f k = refl
  after-bind (fails r) f k = refl

  -- Readers put together walk over the sum of what they walk over.
  walks_ret : {A : Type 0} (lo : ℕ) (x : A) → Walks lo (ret x) 0
  unfolding after
  walks_ret lo x at q g k l e h = h x at g (omega arith) e ∙ ap (λ (j : ℕ). walk limit ws g j at) (omega arith)

  walks_then : {A B : Type 0} (lo m n : ℕ) (p : FromWords A) (f : A → FromWords B) → Walks lo p m → ((a : A) → Walks lo (f a) n) → Walks lo (p >>= f) (m + n)
  walks_then lo m n p f P F at q g k l e h =
      let i : m + (n + q) ≡ m + n + q = omega arith in
      after-bind (p ws at) f k
      ∙ P at (n + q) g (λ a b. after (f a ws b) k) l e (λ a b g' u v. F a b q g' k (omega arith) v (λ c d g'' w x. h c d g'' (omega arith) x))
      ∙ ap (λ (j : ℕ). walk limit ws g j at) i

  walks_map : {A B : Type 0} (lo n : ℕ) (p : FromWords A) (f : A → B) → Walks lo p n → Walks lo (p >>= λ a. ret (f a)) n
  unfolding after
  walks_map lo n p f P at q g k l e h =
      after-bind (p ws at) (λ a. ret (f a)) k ∙ P at q g (λ a b. k (f a) b) l e (λ a b g' u v. h (f a) b g' u v)

  walks_count : {A : Type 0} (lo m n : ℕ) (p : FromWords A) → m ≡ n → Walks lo p m → Walks lo p n
  walks_count lo m n p c P at q g k l e h = P at q g k l e h ∙ ap (λ (j : ℕ). walk limit ws g (j + q) at) c

  walks_several : {A B : Type 0} (lo : ℕ) (d : FromWords A) (none : B) (put : A → B → B) → Walks lo d 1 → (n : ℕ) → Walks lo (several d none put n) n
  unfolding several
  walks_several lo d none put D zero = walks_ret lo none
  walks_several lo d none put D (suc n) =
      walks_count lo (1 + n) (suc n) (several d none put (suc n)) (omega arith) (walks_then lo 1 n d (λ a. several d none put n >>= λ b. ret (put a b)) D (λ a. walks_map lo n (several d none put n) (put a) (walks_several lo d none put D n)))

  -- A reader of a sort's fields and of the sorts inside it does what the reader of the fields alone does, and then walks on.
  abbrev Enters : ℕ → FromWords Sort → FromWords ℕ → Type 0
  Enters lo r h = (at q g : ℕ) (k : Sort → ℕ → Answered ℕ) → lo ≤ at → length ws ≤ at + g → Follows at q k → after (r ws at) k ≡ after (h ws at) (λ n b. walk limit ws g (n + q) b)

  -- The same for each way of putting readers together.
  enters_walks : (lo n : ℕ) (r : FromWords Sort) → Walks lo r n → Enters lo r (ret n)
  unfolding after
  enters_walks lo n r R at q g k l e h = R at q g k l e h

  enters_ret : (lo : ℕ) (s : Sort) → Enters lo (ret s) (ret 0)
  enters_ret lo s = enters_walks lo 0 (ret s) (walks_ret lo s)

  enters_map : {A : Type 0} (lo n : ℕ) (p : FromWords A) (f : A → Sort) → Walks lo p n → Enters lo (p >>= λ a. ret (f a)) (ret n)
  enters_map lo n p f P = enters_walks lo n (p >>= λ a. ret (f a)) (walks_map lo n p f P)

  enters_fail : (lo r : ℕ) → Enters lo (fail r) (fail r)
  unfolding after
  enters_fail lo r at q g k l e h = refl

  enters_pick : (lo : ℕ) (t : Bool) (r : FromWords Sort) (h : FromWords ℕ) → Enters lo r h → Enters lo (pick t (fail not_words) r) (pick t (fail not_words) h)
  unfolding pick
  enters_pick lo true r h E = enters_fail lo not_words
  enters_pick lo false r h E = E

  enters_bind : {A : Type 0} (lo : ℕ) (p : FromWords A) (f : A → FromWords Sort) (h : A → FromWords ℕ) → Onward p → ((a : A) → Enters lo (f a) (h a)) → Enters lo (p >>= f) (p >>= h)
  unfolding after
  enters_bind {A} lo p f h P F at q g k l e z = go (p ws at) refl
    where
      go : (x : Judged A) → p ws at ≡ x → after (go_on x f ws) k ≡ after (go_on x h ws) (λ n b. walk limit ws g (n + q) b)
      go (reads a n) i = let j : at ≤ n = P at n a i in F a n q g k (omega arith) (omega arith) (λ c d g' w x. z c d g' (omega arith) x)
      go (fails r) i = refl

  -- The same of each pair of two lists, and of the pair that a number picks.
  abbrev EachEnters : ℕ → List (FromWords Sort) → List (FromWords ℕ) → Type 0
  EachEnters lo [] [] = Unit {0}
  EachEnters lo (r ∷ rs) (h ∷ hs) = Enters lo r h × EachEnters lo rs hs
  EachEnters lo [] (h ∷ hs) = ⊥
  EachEnters lo (r ∷ rs) [] = ⊥

  enters_among : (lo : ℕ) (rs : List (FromWords Sort)) (hs : List (FromWords ℕ)) → EachEnters lo rs hs → (j : ℕ) → Enters lo (or_fail (among rs j)) (or_fail (among hs j))
  enters_among lo [] [] e j = enters_fail lo not_words
  enters_among lo (r ∷ rs) (h ∷ hs) e zero = e.0
  enters_among lo (r ∷ rs) (h ∷ hs) e (suc j) = enters_among lo rs hs e.1 j
  enters_among lo [] (h ∷ hs) e j = absurd e
  enters_among lo (r ∷ rs) [] e j = absurd e

  -- Brackets do not matter.
  bind_assoc : {A B C : Type 0} (x : Judged A) (f : A → FromWords B) (g : B → FromWords C) → go_on x (λ a. f a >>= g) ws ≡ go_on (go_on x f ws) g ws
  bind_assoc (reads a n) f g = refl
  bind_assoc (fails r) f g = refl

  -- An application's constructor and the number of its sorts, then the sorts.
  enters_app : (lo : ℕ) (d : FromWords Sort) → Walks lo d 1 → Enters lo (word >>= λ k. choose 0 (ctors limit) k >>= λ c. word >>= λ n. several d snil scons n >>= λ ss. ret (s_app c ss)) (app_fields limit)
  unfolding app_fields ctor_at
  enters_app lo d D at q g k l e z =
      ap (λ (x : Judged Sort). after x k) (bind_assoc (word ws at) (choose 0 (ctors limit)) (λ c. word >>= λ n. several d snil scons n >>= λ ss. ret (s_app c ss)))
      ∙ enters_bind lo (word >>= choose 0 (ctors limit)) _ _ onward_ctor (λ c. enters_bind lo word _ _ onward_word (λ n. enters_map lo n (several d snil scons n) (s_app c) (walks_several lo d snil scons D n))) at q g k l e z

  -- All the kinds of sorts.
  enters_kinds : (lo : ℕ) (d : FromWords Sort) → Walks lo d 1 → (j : ℕ) → Enters lo (or_fail (among (sort_kinds limit d) j)) (or_fail (among (sort_fields limit) j))
  unfolding sort_kinds sort_fields one_field
  enters_kinds lo d D =
      enters_among lo (sort_kinds limit d) (sort_fields limit) (
        enters_ret lo s_int,
        (
          enters_ret lo s_bool,
          (
            enters_ret lo s_real,
            (
              enters_ret lo s_str,
              (
                enters_map lo 1 d s_bit_vec D,
                (
                  enters_bind lo word _ _ onward_word (λ i. enters_ret lo (s_size i)),
                  (
                    enters_bind lo two_words _ _ onward_two (λ i. enters_ret lo (s_var i)),
                    (
                      enters_walks lo 2 (d >>= λ s. d >>= λ t. ret (s_func s t)) (walks_then lo 1 1 d (λ s. d >>= λ t. ret (s_func s t)) D (λ s. walks_map lo 1 d (s_func s) D)),
                      (
                        enters_bind lo word _ _ onward_word (λ i. enters_map lo 1 d (s_abs i) D),
                        (enters_app lo d D, tt),
                      ),
                    ),
                  ),
                ),
              ),
            ),
          ),
        ),
      )

  -- The kind of a sort and what follows it, where the kind is inside the words.
  sort_enters : (deep lo at q g : ℕ) (k : Sort → ℕ → Answered ℕ) → lo ≤ at → at < length ws → length ws ≤ at + g → Follows at q k → Walks (suc lo) (sort_deep limit deep) 1 → after (choose 1 (sort_kinds limit (sort_deep limit deep)) (get_or ws at 0) ws (at + 1)) k ≡ walk limit ws g (1 + q) at
  unfolding choose walk sort_head
  sort_enters deep lo at q zero k l i e h D = absurd (omega arith)
  sort_enters deep lo at q (suc g) k l i e h D =
      let n : ℕ = get_or ws at 0 in
      let j : 1 + q ≡ suc q = omega arith in
      rw (j, word_in ws at i)
      (enters_pick (suc lo) (ltb n 1) _ _ (enters_kinds (suc lo) (sort_deep limit deep) D (n - 1)) (at + 1) q g k (omega arith) (omega arith) (λ a b g' u v. h a b g' (omega arith) v))

  -- A sort is a walk over one sort, if there is room for as much nesting as there are words left.
  sort_walks : (deep lo : ℕ) → length ws ≤ lo + deep → Walks lo (sort_deep limit deep) 1
  unfolding sort_deep after
  sort_walks zero lo r at q g k l e h = sym (walk-out at g (1 + q) (omega arith) (omega arith))
  sort_walks (suc deep) lo r at q g k l e h = go (sort_walks deep (suc lo) (omega arith)) (place at (length ws))
    where
      go : Walks (suc lo) (sort_deep limit deep) 1 → Place at (length ws) → after (go_on (word ws at) (choose 1 (sort_kinds limit (sort_deep limit deep))) ws) k ≡ walk limit ws g (1 + q) at
      go D (out o) = rw (word_out ws at o) (sym (walk-out at g (1 + q) o (omega arith)))
      go D (within i) = rw (word_in ws at i) (sort_enters deep lo at q g k l i e h D)

  -- Nothing is left to walk over.
  pub walk-done : (g p at : ℕ) → p ≤ 0 → walk limit ws g p at ≡ told at
  unfolding walk
  walk-done zero zero at h = refl
  walk-done (suc g) zero at h = refl
  walk-done zero (suc p) at h = absurd (omega arith)
  walk-done (suc g) (suc p) at h = absurd (omega arith)

  -- The place behind what is read, as what follows it.
  end_after : {A : Type 0} (x : Judged A) → end_of x ≡ after x (λ a b. told b)
  unfolding after
  end_after (reads a n) = refl
  end_after (fails r) = refl

  -- A sort ends where the walk over one sort ends.
  pub walk_start : (at : ℕ) → end_of (sort_at limit ws at) ≡ walk limit ws (length ws) 1 at
  unfolding sort_at
  walk_start at =
      end_after (sort_deep limit (length ws) ws at)
      ∙ sort_walks (length ws) at (omega arith) at 0 (length ws) (λ a b. told b) (omega arith) (omega arith) (λ a b g u v. sym (walk-done g 0 b (omega arith)))

  -- A reader that refuses with 14 alone.
  abbrev Only14 : {A : Type 0} → FromWords A → Type 0
  Only14 p = (at r : ℕ) → p ws at ≡ fails r → r ≡ not_words

  -- All the readers of a sort's fields are such.
  only-ret : {A : Type 0} (x : A) → Only14 (ret x)
  only-ret x at r e = let z : ◌≡◌ {A = ℕ} 0 1 = cc in absurd (omega arith)

  only-fail : {A : Type 0} → Only14 {A = A} (fail not_words)
  only-fail at r e = cc

  only-pick : {A : Type 0} (t : Bool) (p q : FromWords A) → Only14 p → Only14 q → Only14 (pick t p q)
  unfolding pick
  only-pick true p q P Q = P
  only-pick false p q P Q = Q

  only-word : Only14 word
  unfolding word pick
  only-word at r e = go (ltb at (length ws)) e
    where
      go : (t : Bool) → pick t (reads (get_or ws at 0) (at + 1)) (fails not_words) ≡ fails r → r ≡ not_words
      go true f = let z : ◌≡◌ {A = ℕ} 0 1 = cc in absurd (omega arith)
      go false f = cc

  only-bind : {A B : Type 0} (p : FromWords A) (f : A → FromWords B) → Only14 p → ((a : A) → Only14 (f a)) → Only14 (p >>= f)
  only-bind {A} {B} p f P F at r e = go (p ws at) refl e
    where
      go : (x : Judged A) → p ws at ≡ x → go_on x f ws ≡ fails r → r ≡ not_words
      go (reads a m) g h = F a m r h
      go (fails s) g h = let z : s ≡ r = cc in sym z ∙ P at s g

  abbrev EachOnly14 : {A : Type 0} → List (FromWords A) → Type 0
  EachOnly14 [] = Unit {0}
  EachOnly14 (r ∷ rs) = Only14 r × EachOnly14 rs

  only-among : {A : Type 0} (rs : List (FromWords A)) → EachOnly14 rs → (j : ℕ) → Only14 (or_fail (among rs j))
  only-among [] h j = only-fail
  only-among (r ∷ rs) h zero = h.0
  only-among (r ∷ rs) h (suc j) = only-among rs h.1 j

  only_two : Only14 two_words
  unfolding two_words
  only_two = only-bind word _ only-word (λ a. only-bind word _ only-word (λ b. only-ret _))

  only-span : Only14 (span_within limit)
  unfolding span_within
  only-span = only-bind word _ only-word (λ a. only-bind word _ only-word (λ b. only-pick (leb (a + b) limit) _ _ (only-ret _) only-fail))

  only-ctor : Only14 (ctor_at limit)
  unfolding ctor_at choose ctors
  only-ctor =
      only-bind word _ only-word λ k.
      only-pick (ltb k 0) _ _ only-fail (only-among (ctors limit) (only-ret c_set, (only-ret c_map, (only-bind (span_within limit) (λ s. ret (c_data s)) only-span (λ s. only-ret (c_data s)), tt))) (k - 0))

  only-fields : (j : ℕ) → Only14 (or_fail (among (sort_fields limit) j))
  unfolding sort_fields one_field app_fields
  only-fields =
      only-among (sort_fields limit) (
        only-ret 0,
        (
          only-ret 0,
          (
            only-ret 0,
            (
              only-ret 0,
              (
                only-ret 1,
                (
                  only-bind word _ only-word (λ i. only-ret 0),
                  (
                    only-bind two_words _ only_two (λ i. only-ret 0),
                    (
                      only-ret 2,
                      (
                        only-bind word _ only-word (λ i. only-ret 1),
                        (only-bind (ctor_at limit) _ only-ctor (λ c. only-bind word _ only-word (λ n. only-ret n)), tt),
                      ),
                    ),
                  ),
                ),
              ),
            ),
          ),
        ),
      )

  only-head : Only14 (sort_head limit)
  unfolding sort_head choose
  only-head = only-bind word _ only-word (λ k. only-pick (ltb k 1) _ _ only-fail (only-fields (k - 1)))

  -- More sorts to come than there may be.
  pub walk-short : (g p at : ℕ) → g < p → walk limit ws g p at ≡ refused not_words
  unfolding walk after
  walk-short zero zero at h = absurd (omega arith)
  walk-short zero (suc p) at h = refl
  walk-short (suc g) zero at h = absurd (omega arith)
  walk-short (suc g) (suc p) at h = go (λ q b k. walk-short g q b k) (sort_head limit ws at) refl
    where
      go : ((q b : ℕ) → g < q → walk limit ws g q b ≡ refused not_words) → (x : Judged ℕ) → sort_head limit ws at ≡ x → after x (λ n b. walk limit ws g (n + p) b) ≡ refused not_words
      go ih (reads n b) e = ih (n + p) b (omega arith)
      go ih (fails r) e = ap refused (only-head at r e)

  -- One turn of the walk.
  pub walk-bad : (g p at : ℕ) {r : ℕ} → 0 < p → p ≤ g → refused r ≡ inside_of (sort_head limit ws at) → walk limit ws g p at ≡ refused r
  unfolding walk after
  walk-bad zero zero at h k e = absurd (omega arith)
  walk-bad zero (suc p) at h k e = absurd (omega arith)
  walk-bad (suc g) zero at h k e = absurd (omega arith)
  walk-bad (suc g) (suc p) at {r} h k e = rw (inside-no (sort_head limit ws at) e) refl

  pub walk-next : (g p at : ℕ) {b n w : ℕ} → 0 < p → p ≤ g → w ≡ n → told (record { next = b; sorts = n }) ≡ inside_of (sort_head limit ws at) → walk limit ws g p at ≡ walk limit ws (g - 1) (p - 1 + w) b
  unfolding walk after
  walk-next zero zero at h k f e = absurd (omega arith)
  walk-next zero (suc p) at h k f e = absurd (omega arith)
  walk-next (suc g) zero at h k f e = absurd (omega arith)
  walk-next (suc g) (suc p) at {b} {n} {w} h k f e =
      let i : suc g - 1 ≡ g = omega arith in
      let j : suc p - 1 + w ≡ n + p = omega arith in
      rw (inside-next (sort_head limit ws at) e, i, j)
