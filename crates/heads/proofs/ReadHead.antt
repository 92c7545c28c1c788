-- What the kind and the fields of an expression answer, kind by kind.
use Prim.Native.Nat.{ℕ, zero, suc, ◌+◌, ◌-◌, ◌≤◌, ◌<◌}
use mathlib.Core.Path.{◌≡◌, refl, ap, ◌∙◌}
use mathlib.Core.List.{List, [], ◌∷◌}
use native.Mathlib.Omega.{arith}
use lib.ListN.{length, get_or}
use lib.Dec.{eqb, ltb}
use borrow.Author.Tests.{lt-ltb, le-ltb, eqb-true, eqb-false}
use mathlib.Core.Logic.{◌⊎◌, inl, inr}
use mathlib.Core.Bool.{Bool, true, false}
use Rattle.reading.specs.Pick.{pick}
use Rattle.reading.specs.Bytes.{Span, nothing}
use Rattle.reading.specs.Answer.{not_words}
use Rattle.grammar.specs.Expr.{op_add, op_sub, op_mul, op_div, op_mod, rel_eq, rel_ne, rel_gt, rel_ge, rel_lt, rel_le, VarName, Binder, Kind, k_bin, k_atom, k_and, k_or, k_bool, k_str, k_fresh, k_named, k_let, k_theory, k_is_ctor, k_exists, k_let_fresh}
use Rattle.grammar.specs.Scope.{var_of}
use Rattle.words.specs.Answered.{Answered, told, refused}
use Rattle.heads.specs.declared.Header.{Header}
use Rattle.heads.specs.declared.Header.TheVariants.{Operands, Arguments}
use Rattle.judging.specs.Judge.{Judged, reads, fails, FromWords, Plan, go_on, ret, fail, plan, among, word, word_below, choose, two_words, four_words, several, span_within, name_within, binders_at, kinds, header}
use Rattle.judging.specs.Ends.{end_of}
use Rattle.heads.specs.Heads.{head_of, operands_at}
use Rattle.judging.proofs.ReadFields.{any_words, ends-ret, word_in, word_out, There, there-reads}

-- Operands behind fields, of whatever kind these make.
fields : {A : Type 0} (x : Judged A) (f : A → Kind) (n : ℕ) (ws : List ℕ) → operands_at (end_of x) n ≡ head_of (go_on x (λ a. plan (f a) n) ws)
fields (reads a m) f n ws = refl
fields (fails r) f n ws = refl

-- The same behind a name.
named : (x : Judged Span) (f : VarName → Kind) (n : ℕ) (ws : List ℕ) → operands_at (end_of x) n ≡ head_of (go_on (go_on x (λ s. ret (var_of s)) ws) (λ v. plan (f v) n) ws)
named (reads s m) f n ws = refl
named (fails r) f n ws = refl

-- So many words of any value, of which the first is read by itself.
module _ (ws : List ℕ) (p n : ℕ) where
  more : {B : Type 0} (x : Judged ℕ) (f : ℕ → FromWords B) (g : B → FromWords Plan) → ((a m : ℕ) → operands_at (end_of (any_words n ws m)) p ≡ head_of (go_on (f a ws m) g ws)) → operands_at (end_of (go_on x (λ a us m. go_on (any_words n us m) (λ rest. ret (a ∷ rest)) us) ws)) p ≡ head_of (go_on (go_on x f ws) g ws)
  more (reads a m) f g h = ap (λ e. operands_at e p) (ends-ret (any_words n ws m) (λ rest. a ∷ rest) ws) ∙ h a m
  more (fails r) f g h = refl

  last : (x : Judged ℕ) (g : ℕ → FromWords Plan) → ((a m : ℕ) → operands_at (end_of (any_words n ws m)) p ≡ head_of (g a ws m)) → operands_at (end_of (go_on x (λ a us m. go_on (any_words n us m) (λ rest. ret (a ∷ rest)) us) ws)) p ≡ head_of (go_on x g ws)
  last (reads a m) g h = ap (λ e. operands_at e p) (ends-ret (any_words n ws m) (λ rest. a ∷ rest) ws) ∙ h a m
  last (fails r) g h = refl

-- The same behind a number of two words.
numbered : (ws : List ℕ) (at : ℕ) (f : ℕ → Kind) (n : ℕ) → operands_at (end_of (any_words 2 ws at)) n ≡ head_of (go_on (two_words ws at) (λ k. plan (f k) n) ws)
unfolding several two_words
numbered ws at f n = more ws n 1 (word ws at) _ _ λ a i. more ws n 0 (word ws i) _ _ λ b j. refl

-- Nothing taken off.
less_none : (k : ℕ) → k - 0 ≡ k
less_none k = omega arith

-- One of five operators, one of six relations: a word below a bound.
operator : (x : Judged ℕ) (ws : List ℕ) → operands_at (end_of (go_on x (λ k. pick (ltb k 5) (ret k) (fail not_words)) ws)) 2 ≡ head_of (go_on x (choose 0 (plan (k_bin op_add) 2 ∷ plan (k_bin op_sub) 2 ∷ plan (k_bin op_mul) 2 ∷ plan (k_bin op_div) 2 ∷ plan (k_bin op_mod) 2 ∷ [])) ws)
unfolding choose pick
operator (reads zero m) ws = refl
operator (reads (suc zero) m) ws = refl
operator (reads (suc (suc zero)) m) ws = refl
operator (reads (suc (suc (suc zero))) m) ws = refl
operator (reads (suc (suc (suc (suc zero)))) m) ws = refl
operator (reads (suc (suc (suc (suc (suc k))))) m) ws =
    rw (le-ltb (suc (suc (suc (suc (suc k))))) 5 (omega arith), le-ltb (suc (suc (suc (suc (suc k))))) 0 (omega arith), less_none (suc (suc (suc (suc (suc k)))))) refl
operator (fails r) ws = refl

relation : (x : Judged ℕ) (ws : List ℕ) → operands_at (end_of (go_on x (λ k. pick (ltb k 6) (ret k) (fail not_words)) ws)) 2 ≡ head_of (go_on x (choose 0 (plan (k_atom rel_eq) 2 ∷ plan (k_atom rel_ne) 2 ∷ plan (k_atom rel_gt) 2 ∷ plan (k_atom rel_ge) 2 ∷ plan (k_atom rel_lt) 2 ∷ plan (k_atom rel_le) 2 ∷ [])) ws)
unfolding choose pick
relation (reads zero m) ws = refl
relation (reads (suc zero) m) ws = refl
relation (reads (suc (suc zero)) m) ws = refl
relation (reads (suc (suc (suc zero))) m) ws = refl
relation (reads (suc (suc (suc (suc zero)))) m) ws = refl
relation (reads (suc (suc (suc (suc (suc zero))))) m) ws = refl
relation (reads (suc (suc (suc (suc (suc (suc k)))))) m) ws =
    rw (le-ltb (suc (suc (suc (suc (suc (suc k)))))) 6 (omega arith), le-ltb (suc (suc (suc (suc (suc (suc k)))))) 0 (omega arith), less_none (suc (suc (suc (suc (suc (suc k))))))) refl
relation (fails r) ws = refl

-- Or counts its operands like And.
alike : (x : Judged ℕ) (ws : List ℕ) → head_of (go_on x (λ n. plan k_and n) ws) ≡ head_of (go_on x (λ n. plan k_or n) ws)
alike (reads n m) ws = refl
alike (fails r) ws = refl

-- The fields of each kind.
module _ (limit : ℕ) (ws : List ℕ) (at : ℕ) {e : Answered ℕ} {r : Answered Header} where
  behind : (x : Answered ℕ) (n : ℕ) → e ≡ x → r ≡ operands_at e n → r ≡ operands_at x n
  behind x n q o = o ∙ ap (λ y. operands_at y n) q

  pub at_32 : e ≡ end_of (any_words 4 ws at) → r ≡ operands_at e 0 → r ≡ head_of (choose 32 (kinds limit) 32 ws at)
  unfolding choose kinds pick several four_words
  at_32 q o =
      behind (end_of (any_words 4 ws at)) 0 q o ∙ more ws 0 3 (word ws at) _ _ λ a i. more ws 0 2 (word ws i) _ _ λ b j. more ws 0 1 (word ws j) _ _ λ c k. more ws 0 0 (word ws k) _ _ λ d l. refl

  pub at_33 : e ≡ end_of (word_below 2 ws at) → r ≡ operands_at e 0 → r ≡ head_of (choose 32 (kinds limit) 33 ws at)
  unfolding choose kinds pick
  at_33 q o = behind (end_of (word_below 2 ws at)) 0 q o ∙ fields (word_below 2 ws at) (λ b. k_bool (eqb b 1)) 0 ws

  pub at_34 : e ≡ end_of (span_within limit ws at) → r ≡ operands_at e 0 → r ≡ head_of (choose 32 (kinds limit) 34 ws at)
  unfolding choose kinds pick
  at_34 q o = behind (end_of (span_within limit ws at)) 0 q o ∙ fields (span_within limit ws at) k_str 0 ws

  pub at_35 : e ≡ end_of (any_words 5 ws at) → r ≡ operands_at e 0 → r ≡ head_of (choose 32 (kinds limit) 35 ws at)
  unfolding choose kinds pick several four_words
  at_35 q o =
      behind (end_of (any_words 5 ws at)) 0 q o ∙ more ws 0 4 (word ws at) _ _ λ a i. more ws 0 3 (word ws i) _ _ λ b j. more ws 0 2 (word ws j) _ _ λ c k. more ws 0 1 (word ws k) _ _ λ d l. last ws 0 0 (word ws l) _ λ w m. refl

  pub at_36 : e ≡ end_of (any_words 2 ws at) → r ≡ operands_at e 0 → r ≡ head_of (choose 32 (kinds limit) 36 ws at)
  unfolding choose kinds pick
  at_36 q o = behind (end_of (any_words 2 ws at)) 0 q o ∙ numbered ws at k_fresh 0

  pub at_37 : e ≡ end_of (span_within limit ws at) → r ≡ operands_at e 0 → r ≡ head_of (choose 32 (kinds limit) 37 ws at)
  unfolding choose kinds pick name_within
  at_37 q o = behind (end_of (span_within limit ws at)) 0 q o ∙ named (span_within limit ws at) k_named 0 ws

  pub at_40 : e ≡ end_of (word_below 5 ws at) → r ≡ operands_at e 2 → r ≡ head_of (choose 32 (kinds limit) 40 ws at)
  unfolding choose kinds pick word_below
  at_40 q o = behind (end_of (word_below 5 ws at)) 2 q o ∙ operator (word ws at) ws

  pub at_47 : e ≡ end_of (word_below 6 ws at) → r ≡ operands_at e 2 → r ≡ head_of (choose 32 (kinds limit) 47 ws at)
  unfolding choose kinds pick word_below
  at_47 q o = behind (end_of (word_below 6 ws at)) 2 q o ∙ relation (word ws at) ws

  pub at_48 : e ≡ end_of (span_within limit ws at) → r ≡ operands_at e 2 → r ≡ head_of (choose 32 (kinds limit) 48 ws at)
  unfolding choose kinds pick name_within
  at_48 q o = behind (end_of (span_within limit ws at)) 2 q o ∙ named (span_within limit ws at) k_let 2 ws

  pub at_49 : e ≡ end_of (word_below 42 ws at) → r ≡ operands_at e 0 → r ≡ head_of (choose 32 (kinds limit) 49 ws at)
  unfolding choose kinds pick
  at_49 q o = behind (end_of (word_below 42 ws at)) 0 q o ∙ fields (word_below 42 ws at) k_theory 0 ws

  pub at_50 : e ≡ end_of (span_within limit ws at) → r ≡ operands_at e 1 → r ≡ head_of (choose 32 (kinds limit) 50 ws at)
  unfolding choose kinds pick name_within
  at_50 q o = behind (end_of (span_within limit ws at)) 1 q o ∙ named (span_within limit ws at) k_is_ctor 1 ws

  pub at_52 : e ≡ end_of (any_words 2 ws at) → r ≡ operands_at e 2 → r ≡ head_of (choose 32 (kinds limit) 52 ws at)
  unfolding choose kinds pick
  at_52 q o = behind (end_of (any_words 2 ws at)) 2 q o ∙ numbered ws at k_let_fresh 2

module _ (limit : ℕ) (ws : List ℕ) (at : ℕ) where
  pub at_38 : {r : Answered Header} → r ≡ head_of (choose 32 (kinds 0) 38 ws at) → r ≡ head_of (choose 32 (kinds limit) 38 ws at)
  unfolding choose kinds pick
  at_38 q = q

  pub at_42 : {r : Answered Header} → r ≡ head_of (choose 32 (kinds 0) 42 ws at) → r ≡ head_of (choose 32 (kinds limit) 42 ws at)
  unfolding choose kinds pick
  at_42 q = q

  pub at_43 : {r : Answered Header} → r ≡ head_of (choose 32 (kinds 0) 42 ws at) → r ≡ head_of (choose 32 (kinds limit) 43 ws at)
  unfolding choose kinds pick
  at_43 q = q ∙ alike (word ws at) ws

  -- Kinds that have no fields.
  pub at_39 : told (Operands at 1) ≡ head_of (choose 32 (kinds limit) 39 ws at)
  unfolding choose kinds pick
  at_39 = refl

  pub at_41 : told (Operands at 3) ≡ head_of (choose 32 (kinds limit) 41 ws at)
  unfolding choose kinds pick
  at_41 = refl

  pub at_44 : told (Operands at 1) ≡ head_of (choose 32 (kinds limit) 44 ws at)
  unfolding choose kinds pick
  at_44 = refl

  pub at_45 : told (Operands at 2) ≡ head_of (choose 32 (kinds limit) 45 ws at)
  unfolding choose kinds pick
  at_45 = refl

  pub at_46 : told (Operands at 2) ≡ head_of (choose 32 (kinds limit) 46 ws at)
  unfolding choose kinds pick
  at_46 = refl

-- Operands behind fields.
pub fields-end : {e : Answered ℕ} {a : ℕ} (n : ℕ) → e ≡ told a → told (Operands a n) ≡ operands_at e n
fields-end n q = rw q refl

pub fields-no : {e : Answered ℕ} {r : ℕ} (n : ℕ) → e ≡ refused r → refused r ≡ operands_at e n
fields-no n q = rw q refl

-- The fields of And, of an application and of Exists, by what the code has tested.
module _ (ws : List ℕ) (at : ℕ) where
  pub counted_in : {n : ℕ} → There ws at n → told (Operands (at + 1) n) ≡ head_of (choose 32 (kinds 0) 42 ws at)
  unfolding choose kinds pick
  counted_in t = rw (there-reads ws at t) refl

  pub counted-out : length ws ≤ at → refused 14 ≡ head_of (choose 32 (kinds 0) 42 ws at)
  unfolding choose kinds pick
  counted-out h = rw (word_out ws at h) refl

  pub arguments_in : {n : ℕ} → n ≡ length ws - at → 2 ≤ n → get_or ws at 0 ≤ 1 → told (Arguments (at + 2) (eqb (get_or ws at 0) 1) (get_or ws (at + 1) 0)) ≡ head_of (choose 32 (kinds 0) 38 ws at)
  unfolding choose kinds pick word_below
  arguments_in e h l =
      let z : at + 2 ≡ at + 1 + 1 = omega arith in
      rw (z, word_in ws at (omega (arith, e, h)), lt-ltb (get_or ws at 0) 2 (omega (arith, l)), word_in ws (at + 1) (omega (arith, e, h))) refl

  pub arguments-no : at < length ws → 1 < get_or ws at 0 → refused 14 ≡ head_of (choose 32 (kinds 0) 38 ws at)
  unfolding choose kinds pick word_below
  arguments-no h l = rw (word_in ws at h, le-ltb (get_or ws at 0) 2 l) refl

  arguments-half : (t : Bool) → length ws ≤ at + 1 → at < length ws → ltb (get_or ws at 0) 2 ≡ t → refused 14 ≡ head_of (choose 32 (kinds 0) 38 ws at)
  unfolding choose kinds pick word_below
  arguments-half true k h l = rw (word_in ws at h, l, word_out ws (at + 1) k) refl
  arguments-half false k h l = rw (word_in ws at h, l) refl

  pub arguments-short : {n : ℕ} → n ≡ length ws - at → n < 2 → refused 14 ≡ head_of (choose 32 (kinds 0) 38 ws at)
  unfolding choose kinds pick word_below
  arguments-short e h = go (length ws - at) refl (omega (arith, e, h))
    where
      go : (m : ℕ) → length ws - at ≡ m → m < 2 → refused 14 ≡ head_of (choose 32 (kinds 0) 38 ws at)
      go zero f l = rw (word_out ws at (omega (arith, f))) refl
      go (suc m) f l = arguments-half (ltb (get_or ws at 0) 2) (omega (arith, f, l)) (omega (arith, f)) refl

  pub quantified_in : (limit : ℕ) {n : ℕ} {e : Answered ℕ} {r : Answered Header} → There ws at n → e ≡ end_of (binders_at limit n ws (at + 1)) → r ≡ operands_at e 1 → r ≡ head_of (choose 32 (kinds limit) 51 ws at)
  unfolding choose kinds pick
  quantified_in limit {n} t q o =
      let bs : Judged (List Binder) = binders_at limit n ws (at + 1) in
      rw (there-reads ws at t) (o ∙ ap (λ y. operands_at y 1) q ∙ fields bs k_exists 1 ws)

  pub quantified-out : (limit : ℕ) → length ws ≤ at → refused 14 ≡ head_of (choose 32 (kinds limit) 51 ws at)
  unfolding choose kinds pick
  quantified-out limit h = rw (word_out ws at h) refl

-- No kind from the 21st on.
past : {A : Type 0} (rs : List A) (k : ℕ) → length rs ≤ k → among rs k ≡ nothing
past [] k h = refl
past (a ∷ rest) zero h = absurd (omega arith)
past (a ∷ rest) (suc k) h = past rest k (omega arith)

-- At least a number and not that number: at least the next one.
pub next : {n k : ℕ} → n ≤ k → (k ≡ n → ⊥) → n + 1 ≤ k
next h z = omega (arith, h, z)

-- A header: no word, no kind, a kind.
module _ (limit : ℕ) (ws : List ℕ) (at : ℕ) where
  pub head-out : length ws ≤ at → refused 14 ≡ head_of (header limit ws at)
  unfolding header
  head-out h = rw (word_out ws at h) refl

  -- By its word, k.
  module _ {k : ℕ} (there : There ws at k) where
    pub head-kind : (j : ℕ) {r : Answered Header} → k ≡ j → r ≡ head_of (choose 32 (kinds limit) j ws (at + 1)) → r ≡ head_of (header limit ws at)
    unfolding header
    head-kind j e q = rw (there-reads ws at there, e) q

    -- Before the first kind and behind the last one.
    pub head-low : k < 32 → refused 14 ≡ head_of (header limit ws at)
    unfolding header choose pick
    head-low l = rw (there-reads ws at there, lt-ltb k 32 l) refl

    pub head-high : 53 ≤ k → refused 14 ≡ head_of (header limit ws at)
    unfolding header choose pick kinds
    head-high l = rw (there-reads ws at there, le-ltb k 32 (omega (arith, l)), past (kinds limit) (k - 32) (omega (arith, l))) refl

    -- One of two kinds.
    pub head-either : (i j : ℕ) {r : Answered Header} → k ≡ i ⊎ k ≡ j → r ≡ head_of (choose 32 (kinds limit) i ws (at + 1)) → r ≡ head_of (choose 32 (kinds limit) j ws (at + 1)) → r ≡ head_of (header limit ws at)
    head-either i j (inl e) p q = head-kind i e p
    head-either i j (inr e) p q = head-kind j e q

    -- One of two kinds that follow one another.
    pub head-next : (i : ℕ) {r : Answered Header} → i ≤ k → k < i + 2 → r ≡ head_of (choose 32 (kinds limit) i ws (at + 1)) → r ≡ head_of (choose 32 (kinds limit) (i + 1) ws (at + 1)) → r ≡ head_of (header limit ws at)
    head-next i {r} l h p q = go (eqb k i) refl
      where
        go : (t : Bool) → eqb k i ≡ t → r ≡ head_of (header limit ws at)
        go true e = head-kind i (eqb-true k i e) p
        go false e = head-kind (i + 1) (omega (arith, l, h, eqb-false k i e)) q
