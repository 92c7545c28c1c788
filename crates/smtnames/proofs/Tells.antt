-- Laws of pieces that are written one behind the other.
use Prim.Native.Nat.{ℕ}
use mathlib.Core.Path.{◌≡◌, refl, ap, ◌∙◌}
use mathlib.Core.List.{List, []}
use native.Mathlib.Omega.{arith}
use lib.ListN.{length}
use Rattle.std.specs.Prelude.{Result, Ok, Err}
use Rattle.reading.specs.Answer.{Refusal as Met, Ans, got, bad}
use Rattle.words.specs.declared.refusal.Refusal.{Refusal}
use Rattle.words.specs.Refusals.{refusal_of}
use Rattle.words.specs.declared.walked.Walked.{Walked}
use Rattle.writing.specs.Wrote.{WroteBytes}
use Rattle.writing.proofs.Wrote.{wrote_none, wrote_seq}
use Rattle.smtnames.specs.Pieces.{joined}
use Rattle.smtnames.specs.Written.{Tells, tells, keeps, TellsPiece, TellsPart}

-- The bytes of a piece are laid into l from a place on, and p is the place behind them.
pub data Put : Ans (List ℕ) → List ℕ → ℕ → List ℕ → ℕ → Type 0 where
  put : {xs l l' : List ℕ} {place p : ℕ} → WroteBytes l place xs l' p → Put (got xs) l place l' p

-- A piece is refused with k.
pub data Gone : Ans (List ℕ) → List ℕ → List ℕ → Refusal → Type 0 where
  gone : {e : Met} {l l' : List ℕ} {k : Refusal} → length l' ≡ length l → k ≡ refusal_of e → Gone (bad e) l l' k

-- Nothing.
pub put-none : (l : List ℕ) (place : ℕ) → Put (got []) l place l place
put-none l place = put (wrote_none l place)

-- A piece behind a piece, and a refusal behind one or before one.
pub put_seq : {x y : Ans (List ℕ)} {l l₁ l₂ : List ℕ} {place p q : ℕ} → Put x l place l₁ p → Put y l₁ p l₂ q → Put (joined x y) l place l₂ q
unfolding joined
put_seq (put {xs = xs} w) (put {xs = ys} v) = put (wrote_seq xs ys w v)

pub gone-behind : {x y : Ans (List ℕ)} {l l₁ l₂ : List ℕ} {place p : ℕ} {k : Refusal} → Put x l place l₁ p → Gone y l₁ l₂ k → Gone (joined x y) l l₂ k
unfolding joined
gone-behind (put w) (gone h e) = gone (h ∙ w.kept) e

pub gone-first : {x : Ans (List ℕ)} (y : Ans (List ℕ)) {l l' : List ℕ} {k : Refusal} → Gone x l l' k → Gone (joined x y) l l' k
unfolding joined
gone-first y (gone h e) = gone h e

-- The same piece by another name.
pub put_as : {x y : Ans (List ℕ)} {l l' : List ℕ} {place p : ℕ} → x ≡ y → Put y l place l' p → Put x l place l' p
put_as e w = rw e w

pub gone_as : {x y : Ans (List ℕ)} {l l' : List ℕ} {k : Refusal} → x ≡ y → Gone y l l' k → Gone x l l' k
gone_as e w = rw e w

-- No bytes are laid of what is refused.
pub put-bad : {P : Type 0} {x : Ans (List ℕ)} {e : Met} {l l' : List ℕ} {place p : ℕ} → Put x l place l' p → x ≡ bad e → P
put-bad (put w) e = let z : ◌≡◌ {A = ℕ} 0 1 = cc in absurd (omega arith)

module _ {R : Type 0} {to : ℕ → R} where
  -- Bytes that are laid are told, and so is a refusal.
  pub put-told : {x : Ans (List ℕ)} {l l' : List ℕ} {place p : ℕ} → Put x l place l' p → Tells to x l place l' (Ok (to p))
  put-told (put w) = tells w refl

  pub gone-told : {x : Ans (List ℕ)} {l l' : List ℕ} {place : ℕ} {k : Refusal} → Gone x l l' k → Tells to x l place l' (Err k)
  gone-told (gone h e) = keeps h (ap Err e)

  -- Bytes by themselves, and a refusal by itself.
  pub tells-to : {xs l l' : List ℕ} {place p : ℕ} → WroteBytes l place xs l' p → Tells to (got xs) l place l' (Ok (to p))
  tells-to w = tells w refl

  pub tells-no : (e : Met) {l l' : List ℕ} {place : ℕ} → length l' ≡ length l → Tells to (bad e) l place l' (Err (refusal_of e))
  tells-no e h = keeps h refl

  -- A piece behind bytes, bytes behind a piece, and nothing behind a refusal.
  pub tells_seq : (xs : List ℕ) {y : Ans (List ℕ)} {l l₁ l₂ : List ℕ} {place p : ℕ} {r : Result R Refusal} → WroteBytes l place xs l₁ p → Tells to y l₁ p l₂ r → Tells to (joined (got xs) y) l place l₂ r
  unfolding joined
  tells_seq xs w (tells {xs = ys} v e) = tells (wrote_seq xs ys w v) e
  tells_seq xs w (keeps h e) = keeps (h ∙ w.kept) e

  pub tells-end : (ys : List ℕ) {x : Ans (List ℕ)} {l l₁ l₂ : List ℕ} {place p q : ℕ} → Put x l place l₁ p → WroteBytes l₁ p ys l₂ q → Tells to (joined x (got ys)) l place l₂ (Ok (to q))
  tells-end ys v w = put-told (put_seq v (put w))

  pub tells_stop : (y : Ans (List ℕ)) {x : Ans (List ℕ)} {l l' : List ℕ} {place : ℕ} {k : Refusal} → Gone x l l' k → Tells to (joined x y) l place l' (Err k)
  tells_stop y g = gone-told (gone-first y g)

  -- The same piece by another name.
  pub tells_as : {x y : Ans (List ℕ)} {l l' : List ℕ} {place : ℕ} {r : Result R Refusal} → x ≡ y → Tells to y l place l' r → Tells to x l place l' r
  tells_as e t = rw e t

-- What a piece tells.
pub piece_put : {x : Ans (List ℕ)} {l l' : List ℕ} {place : ℕ} {r : Result ℕ Refusal} {p : ℕ} → TellsPiece x l place l' r → r ≡ Ok p → Put x l place l' p
piece_put {p = p} (tells {p = q} w e) h = let z : q ≡ p = cc in rw z at (put w)
piece_put (keeps g e) h = cc

pub piece_gone : {x : Ans (List ℕ)} {l l' : List ℕ} {place : ℕ} {r : Result ℕ Refusal} {k : Refusal} → TellsPiece x l place l' r → r ≡ Err k → Gone x l l' k
piece_gone (tells w e) h = cc
piece_gone {k = k} (keeps {e = f} g e) h = let z : k ≡ refusal_of f = cc in gone g z

-- What a part tells.
pub part-put : {x : Ans (List ℕ)} {l l' : List ℕ} {place n : ℕ} {r : Result Walked Refusal} {w : Walked} → TellsPart n x l place l' r → r ≡ Ok w → Put x l place l' w.place
part-put {n = n} {w = w} (tells {p = q} v e) h = let z : record { next = n; place = q } ≡ w = cc in rw (ap (λ (u : Walked). u.place) z) at (put v)
part-put (keeps g e) h = cc

pub part_end : {x : Ans (List ℕ)} {l l' : List ℕ} {place n : ℕ} {r : Result Walked Refusal} {w : Walked} → TellsPart n x l place l' r → r ≡ Ok w → w.next ≡ n
part_end {n = n} {w = w} (tells {p = q} v e) h = let z : w ≡ record { next = n; place = q } = cc in ap (λ (u : Walked). u.next) z
part_end (keeps g e) h = cc

pub part-gone : {x : Ans (List ℕ)} {l l' : List ℕ} {place n : ℕ} {r : Result Walked Refusal} {k : Refusal} → TellsPart n x l place l' r → r ≡ Err k → Gone x l l' k
part-gone (tells w e) h = cc
part-gone {k = k} (keeps {e = f} g e) h = let z : k ≡ refusal_of f = cc in gone g z

-- A part that ends where it should.
pub part-told : {x : Ans (List ℕ)} {l l' : List ℕ} {place p m n : ℕ} → m ≡ n → Put x l place l' p → TellsPart n x l place l' (Ok (record { next = m; place = p }))
part-told e w = rw e (put-told w)
