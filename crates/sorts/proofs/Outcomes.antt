-- What an outcome says, and how one follows from another.
use Prim.Native.Nat.{ℕ, ◌+◌, ◌-◌, ◌≤◌, min}
use mathlib.Core.Path.{◌≡◌, refl, sym, ap, ◌∙◌}
use mathlib.Core.List.{List, ◌++◌}
use native.Mathlib.Omega.{arith}
use lib.ListN.{length, take, drop, length-append}
use Rattle.reading.specs.Answer.{Refusal as Met, Ans, got, bad, and_then, over}
use Rattle.words.specs.declared.refusal.Refusal.{Refusal}
use Rattle.std.specs.Prelude.{Result, Ok, Err}
use Rattle.words.specs.Refusals.{refusal_of}
use Rattle.sorts.specs.Outcome.{Gives, Outcome, wrote, refused}
use Rattle.grammar.proofs.AnswerHolds.{Every}
use Rattle.sorts.proofs.Lend.{lent}

-- An answer is one of the two.
pub never : {B : Type 0} {r : Result ℕ Refusal} {w : ℕ} {k : Refusal} → r ≡ Ok w → r ≡ Err k → B
never {w = w} p q = let z : ◌≡◌ {A = ℕ} 0 1 = cc in absurd (omega arith)

pub same_count : {r : Result ℕ Refusal} {v w : ℕ} → r ≡ Ok v → r ≡ Ok w → v ≡ w
same_count p q = cc

-- A refusal that the code gives.
pub gives-bad : {A B : Type 0} (f : A → B) {x : Ans B} {e : Met} → bad e ≡ x → Gives f (Err (refusal_of e)) x
gives-bad f {e = e} p = rw (← p) refl

module _ {A : Type 0} {words : A → List ℕ} where
  -- How many words there are at most.
  pub done-short : (x : Ans A) {o o' : List ℕ} {r : Result ℕ Refusal} {v : ℕ} (n : ℕ) → Outcome words x o o' r → r ≡ Ok v → Every x (λ a. length (words a) ≤ n) → v ≤ n
  done-short (got a) n (wrote p q) e h = omega (arith, same_count e p)
  done-short (bad r) n (refused p) e h = never e p

  module _ {B : Type 0} {words' : B → List ℕ} where
    -- The same words for another value.
    pub out-map : (x : Ans A) (f : A → B) {o o' : List ℕ} {r : Result ℕ Refusal} → Every x (λ a. words' (f a) ≡ words a) → Outcome words x o o' r → Outcome words' (and_then x λ a. got (f a)) o o' r
    out-map (got a) f {o} h (wrote p q) = wrote (p ∙ ap (λ l. Ok (length l)) (sym h)) (q ∙ ap (λ l. over l o) (sym h))
    out-map (bad e) f h (refused p) = refused p

    -- A refusal, whatever was to come behind it.
    pub out-refused : (x : Ans A) (f : A → Ans B) {o o' p p' : List ℕ} {r : Result ℕ Refusal} {k : Refusal} → Outcome words x o o' r → r ≡ Err k → Outcome words' (and_then x f) p p' (Err k)
    out-refused (got a) f (wrote q w) e = never q e
    out-refused (bad n) f (refused q) e = refused (sym e ∙ q)

  -- A refusal says nothing of the words.
  pub out-still : (x : Ans A) {words' : A → List ℕ} {o o' p p' : List ℕ} {r : Result ℕ Refusal} {k : Refusal} → Outcome words x o o' r → r ≡ Err k → Outcome words' x p p' (Err k)
  out-still (got a) (wrote q w) e = never q e
  out-still (bad n) (refused q) e = refused (sym e ∙ q)

  -- Words were laid over o, which gave m, and the words of a value over the rest of m, which was lent from behind them.
  pub out-lent : (x : Ans A) (head o m ys : List ℕ) (n f : ℕ) {r : Result ℕ Refusal} {v : ℕ} → n ≡ length head → m ≡ over head o → f ≡ min n (length m) → Outcome words x (take (length m - f) (drop f m)) ys r → r ≡ Ok v → Outcome (λ a. head ++ words a) x o (take f m ++ (ys ++ drop (length m - f) (drop f m))) (Ok (n + v))
  out-lent (got a) head o m ys n f {v = v} h p q (wrote y z) e =
      let c : n + v ≡ length (head ++ words a) = omega (arith, h, same_count e y, length-append head (words a)) in
      wrote (ap Ok c) (lent head (words a) o m ys f p (rw (← h) q) z)
  out-lent (bad c) head o m ys n f h p q (refused y) e = never e y
