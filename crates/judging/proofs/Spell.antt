-- What is read is spelled by the words that were read: the law, step by step, and for single fields.
use Prim.Native.Nat.{ℕ, zero, suc, ◌+◌, ◌-◌, ◌*◌, ◌/◌, ◌%◌, ◌^◌, ◌≤◌, ◌<◌}
use mathlib.Core.Bool.{Bool, true, false}
use mathlib.Core.Path.{◌≡◌, refl, sym, ap, ◌∙◌}
use mathlib.Core.List.{List, [], ◌∷◌, ◌++◌, append_assoc}
use native.Mathlib.Omega.{arith}
use lib.Dec.{eqb, ltb}
use lib.ListN.{length, get_or, drop, length-append}
use lib.Seq.{drop-cons}
use borrow.Author.Tests.{ltb-true, ltb-false, le-ltb}
use Rattle.reading.specs.Pick.{pick}
use Rattle.reading.specs.Answer.{not_words}
use Rattle.reading.specs.Tree.{bit, wide_words}
use Rattle.reading.specs.At.{At}
use Rattle.reading.proofs.Placed.{at_tail, at-inside, at-below, at-word, at_drop, drop_at}
use Rattle.grammar.specs.Sort.{two}
use Rattle.judging.specs.Spelled.{Spelled}
use Rattle.judging.specs.Judge.{Judged, reads, fails, FromWords, go_on, ◌>>=◌, ret, fail, word, word_below, among, or_fail, choose, two_words, four_words, several}

-- Every word has 32 bits.
abbrev pub Low : List ℕ → Type 0
Low ws = (i : ℕ) → i < length ws → get_or ws i 0 < 2 ^ 32

-- What holds of a reading that is no refusal.
abbrev pub Post : {A : Type 0} → Judged A → (A → ℕ → Type 0) → Type 0
Post (reads a n) Q = Q a n
Post (fails r) Q = Unit {0}

-- Words xs from a position on, and behind them what q reads: together they are the words u of it.
pub record Behind {A : Type 0} (ws xs : List ℕ) (q : FromWords A) (u : A → List ℕ) : Type 0 where
  pub reach : (at m : ℕ) → Spelled ws at m xs → Post (q ws m) (λ a n. Spelled ws at n (u a))

-- A reading that goes on.
pub chain_post : {A B : Type 0} (x : Judged A) (f : A → FromWords B) (ws : List ℕ) (Q : A → ℕ → Type 0) (R : B → ℕ → Type 0) → Post x Q → ((a : A) (n : ℕ) → Q a n → Post (f a ws n) R) → Post (go_on x f ws) R
chain_post (reads a n) f ws Q R q k = k a n q
chain_post (fails r) f ws Q R q k = tt

-- Two facts of one reading.
pub post_both : {A : Type 0} (x : Judged A) (Q R : A → ℕ → Type 0) → Post x Q → Post x R → Post x (λ a n. Q a n × R a n)
post_both (reads a n) Q R q r = (q, r)
post_both (fails n) Q R q r = tt

-- Any reading.
pub post_any : {A : Type 0} (x : Judged A) (R : A → ℕ → Type 0) → ((a : A) (n : ℕ) → R a n) → Post x R
post_any (reads a n) R h = h a n
post_any (fails n) R h = tt

-- The fact, where the reading is known.
pub post_reads : {A : Type 0} (x : Judged A) (Q : A → ℕ → Type 0) {a : A} {n : ℕ} → Post x Q → x ≡ reads a n → Q a n
post_reads x Q p e = rw e at p

-- Spelled words end inside.
pub spelled-inside : {ws : List ℕ} {at end : ℕ} {xs : List ℕ} → Spelled ws at end xs → end ≤ length ws
spelled-inside s = omega (arith, at-inside s.stands, s.ends)

-- No words, anywhere inside.
pub spelled_none : {ws : List ℕ} {at : ℕ} → at ≤ length ws → Spelled ws at at []
spelled_none {ws} {at} h = record { stands = drop_at ws at [] (drop at ws) h refl; ends = omega arith }

-- Where words end, what is left begins.
at-end : {ws : List ℕ} {at : ℕ} {xs : List ℕ} (h : At ws at xs) → drop (at + length xs) ws ≡ h.rest
at-end {ws} {at} {xs} h =
    at_drop {at = at + length xs} {xs = []} (record { front = h.front ++ xs; rest = h.rest; whole = h.whole ∙ sym (append_assoc h.front xs h.rest); place = omega (arith, h.place, length-append h.front xs) })

-- Words, and words behind them.
pub spelled_seq : {ws : List ℕ} {a b c : ℕ} {xs ys : List ℕ} → Spelled ws a b xs → Spelled ws b c ys → Spelled ws a c (xs ++ ys)
spelled_seq {ws} {a} {b} {c} {xs} {ys} s t =
    let h : At ws a xs = s.stands in
    let k : At ws b ys = t.stands in
    let e : h.rest ≡ ys ++ k.rest = sym (at-end h) ∙ ap (λ i. drop i ws) (sym s.ends) ∙ at_drop k in
    record {
      stands =
          record {
            front = h.front;
            rest = k.rest;
            whole = h.whole ∙ ap (λ l. h.front ++ l) (ap (λ l. xs ++ l) e ∙ sym (append_assoc xs ys k.rest));
            place = h.place;
          };
      ends = omega (arith, s.ends, t.ends, length-append xs ys);
    }

-- A word.
pub word_post : (ws : List ℕ) (at : ℕ) → Post (word ws at) (λ k n. Spelled ws at n (k ∷ []))
unfolding word pick
word_post ws at = go (ltb at (length ws)) refl
  where
    go : (t : Bool) → ltb at (length ws) ≡ t → Post (pick t (reads (get_or ws at 0) (at + 1)) (fails not_words)) (λ k n. Spelled ws at n (k ∷ []))
    go true e =
        let h : at < length ws = ltb-true at (length ws) e in
        record { stands = drop_at ws at (get_or ws at 0 ∷ []) (drop (suc at) ws) (omega arith) (drop-cons ws at 0 h); ends = refl }
    go false e = tt

-- The two words of a number of 64 bits.
low-high : (a b : ℕ) → a < 2 ^ 32 → b < 2 ^ 32 → two (a + b * 2 ^ 32) ≡ (a ∷ b ∷ [])
low-high a b h k =
    let x : (a + b * 2 ^ 32) % 2 ^ 32 ≡ a = omega arith in
    let y : (a + b * 2 ^ 32) / 2 ^ 32 ≡ b = omega (arith, x) in
    let z : b % 2 ^ 32 ≡ b = omega arith in
    rw (x, y, z) refl

module _ {ws : List ℕ} where
  -- Nothing more is read.
  pub done : {A : Type 0} {xs : List ℕ} {u : A → List ℕ} (a : A) → u a ≡ xs → Behind ws xs (ret a) u
  done {u = u} a e = record { reach = λ at m s. rw e s }

  -- A refusal.
  pub refused : {A : Type 0} {xs : List ℕ} {u : A → List ℕ} (r : ℕ) → Behind ws xs (fail r) u
  refused r = record { reach = λ at m s. tt }

  -- What is known at every position.
  pub anywhere : {A : Type 0} {u : A → List ℕ} (q : FromWords A) → ((at : ℕ) → Post (q ws at) (λ a n. Spelled ws at n (u a))) → Behind ws [] q u
  anywhere {u = u} q h =
      record {
        reach = λ at m s.
            let e : m ≡ at = omega (arith, s.ends) in
            rw e (h at);
      }

  -- One reading, with all that stands before it, and another behind it.
  pub behind : {A B : Type 0} {xs : List ℕ} {w : A → List ℕ} {u : B → List ℕ} (p : FromWords A) {f : A → FromWords B} → Behind ws xs p w → ((a : A) → Behind ws (w a) (f a) u) → Behind ws xs (p >>= f) u
  behind {w = w} {u = u} p {f} P k =
      record {
        reach = λ at m s.
            chain_post (p ws m) f ws (λ a n. Spelled ws at n (w a)) (λ b n. Spelled ws at n (u b)) (P.reach at m s) λ a n t. (k a).reach at n t;
      }

  -- One reading and another behind it.
  pub step : {A B : Type 0} {xs : List ℕ} {w : A → List ℕ} {u : B → List ℕ} (p : FromWords A) {f : A → FromWords B} → Behind ws [] p w → ((a : A) → Behind ws (xs ++ w a) (f a) u) → Behind ws xs (p >>= f) u
  step {w = w} {u = u} p {f} P k =
      record {
        reach = λ at m s.
            chain_post (p ws m) f ws (λ a n. Spelled ws m n (w a)) (λ b n. Spelled ws at n (u b)) (P.reach m m (spelled_none (spelled-inside s))) λ a n t.
            (k a).reach at n (spelled_seq s t);
      }

  -- The same, with a fact of what is read first.
  pub step_with : {A B : Type 0} {xs : List ℕ} {w : A → List ℕ} {u : B → List ℕ} (p : FromWords A) (F : A → Type 0) {f : A → FromWords B} → Behind ws [] p w → ((at : ℕ) → Post (p ws at) (λ a n. F a)) → ((a : A) → F a → Behind ws (xs ++ w a) (f a) u) → Behind ws xs (p >>= f) u
  step_with {w = w} {u = u} p F {f} P T k =
      record {
        reach = λ at m s.
            chain_post (p ws m) f ws (λ a n. Spelled ws m n (w a) × F a) (λ b n. Spelled ws at n (u b))
            (post_both (p ws m) (λ a n. Spelled ws m n (w a)) (λ a n. F a) (P.reach m m (spelled_none (spelled-inside s))) (T m)) λ a n t.
            (k a t.1).reach at n (spelled_seq s t.0);
      }

  -- One word.
  pub a_word : Behind ws [] word (λ k. k ∷ [])
  a_word = anywhere word (word_post ws)

  -- A word below a bound.
  pub a-below : (b : ℕ) → Behind ws [] (word_below b) (λ k. k ∷ [])
  unfolding word_below pick
  a-below b = step word a_word λ k. go k (ltb k b)
    where
      go : (k : ℕ) (t : Bool) → Behind ws (k ∷ []) (pick t (ret k) (fail not_words)) (λ i. i ∷ [])
      go k true = done k refl
      go k false = refused not_words

  -- A word that is 0 or 1.
  pub a-flag : Behind ws [] (word_below 2) (λ k. bit (eqb k 1) ∷ [])
  unfolding word_below pick
  a-flag = step word a_word go
    where
      go : (k : ℕ) → Behind ws (k ∷ []) (pick (ltb k 2) (ret k) (fail not_words)) (λ i. bit (eqb i 1) ∷ [])
      go zero = done 0 refl
      go (suc zero) = done 1 refl
      go (suc (suc k)) = rw (le-ltb (suc (suc k)) 2 (omega arith)) (refused not_words)

  -- A number of 128 bits.
  pub a-four : Behind ws [] four_words wide_words
  unfolding four_words
  a-four = step word a_word λ a. step word a_word λ b. step word a_word λ c. step word a_word λ d. done _ refl

  -- A number of 64 bits.
  pub a-two : Low ws → Behind ws [] two_words two
  unfolding two_words
  a-two low =
      step word a_word λ a. step word a_word λ b.
      record {
        reach = λ at m s.
            let h : At ws at (a ∷ b ∷ []) = s.stands in
            rw (low-high a b (rw (at-word h) at (low at (at-below h))) (rw (at-word (at_tail h)) at (low (at + 1) (at-below (at_tail h))))) s;
      }

-- Each reader of a list, behind the words xs and its own number, which counts on from k.
infixr 5 ◌&◌
pub data Each {A : Type 0} (ws xs : List ℕ) (u : A → List ℕ) : List (FromWords A) → ℕ → Type 0 where
  last : {k : ℕ} → Each ws xs u [] k
  ◌&◌ : {k : ℕ} {q : FromWords A} {qs : List (FromWords A)} → Behind ws (xs ++ (k ∷ [])) q u → Each ws xs u qs (suc k) → Each ws xs u (q ∷ qs) k

-- The one at a place.
each_among : {A : Type 0} {ws xs : List ℕ} {u : A → List ℕ} {qs : List (FromWords A)} {k : ℕ} → Each ws xs u qs k → (i : ℕ) → Behind ws (xs ++ ((k + i) ∷ [])) (or_fail (among qs i)) u
each_among last i = refused not_words
each_among (◌&◌ {k = k} b bs) zero =
    let e : k + 0 ≡ k = omega arith in
    rw e b
each_among (◌&◌ {k = k} b bs) (suc i) =
    let e : k + suc i ≡ suc k + i = omega arith in
    rw e (each_among bs i)

-- A reader by its number.
pub chosen : {A : Type 0} {ws xs : List ℕ} {u : A → List ℕ} {first : ℕ} {qs : List (FromWords A)} → Each ws xs u qs first → (k : ℕ) → Behind ws (xs ++ (k ∷ [])) (choose first qs k) u
unfolding choose pick
chosen {ws = ws} {xs = xs} {u = u} {first = first} {qs = qs} h k = go (ltb k first) refl
  where
    go : (t : Bool) → ltb k first ≡ t → Behind ws (xs ++ (k ∷ [])) (pick t (fail not_words) (or_fail (among qs (k - first)))) u
    go true e = refused not_words
    go false e =
        let l : first ≤ k = ltb-false k first e in
        let q : first + (k - first) ≡ k = omega arith in
        rw q at (each_among h (k - first))

-- So many: their words, one after the other.
pub in_turn_lem : {A B : Type 0} {ws : List ℕ} {w : A → List ℕ} (p : FromWords A) (none : B) (put : A → B → B) (all : B → List ℕ) → Behind ws [] p w → all none ≡ [] → ((a : A) (b : B) → all (put a b) ≡ w a ++ all b) → (n : ℕ) → Behind ws [] (several p none put n) all
unfolding several
in_turn_lem p none put all P e f zero = done none e
in_turn_lem p none put all P e f (suc n) =
    step p P λ a. step (several p none put n) (in_turn_lem p none put all P e f n) λ b. done (put a b) (f a b)

-- So many: how many they are.
pub counted : {A B : Type 0} (ws : List ℕ) (p : FromWords A) (none : B) (put : A → B → B) (count : B → ℕ) → count none ≡ 0 → ((a : A) (b : B) → count (put a b) ≡ suc (count b)) → (n at : ℕ) → Post (several p none put n ws at) (λ b m. count b ≡ n)
unfolding several
counted ws p none put count e f zero at = e
counted ws p none put count e f (suc n) at =
    chain_post (p ws at) _ ws (λ a m. Unit {0}) _ (post_any (p ws at) _ λ a m. tt) λ a m _.
    chain_post (several p none put n ws m) _ ws (λ b l. count b ≡ n) _ (counted ws p none put count e f n m) λ b l q. f a b ∙ ap suc q
