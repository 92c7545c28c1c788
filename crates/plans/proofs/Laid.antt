-- Words laid one after the other, and outcomes in sequence.
use Rattle.std.proofs.Common.{◌≡◌, ℕ, ◌+◌, ◌<◌, ◌≤◌, Bool, true, false, eqb, List, [], ◌∷◌, ◌++◌, length, sym, refl, ap, ◌∙◌, subst, add-zero, arith, length-append, ne_eqb}
use borrow.Author.Tests.{eqb-false}
use Rattle.reading.specs.Pick.{pick}
use Rattle.reading.specs.Answer.{malformed, ok, no}
use Rattle.grammar.specs.Sort.{two}
use Rattle.grammar.specs.Written.{W, ahead, after, behind}
use Rattle.writing.specs.Laid.{laid}
use Rattle.writing.proofs.Laid.{laid_append, laid-early}
use Rattle.places.specs.Outcome.{Put}
use Rattle.plans.specs.Late.{filled}
use Rattle.plans.specs.Plans.{Wrote, Parsed, wrote, refused, Counts}
use Rattle.plans.specs.declared.progress.Progress.{Progress}
use Rattle.words.specs.declared.refusal.Refusal.{Refusal}
use Rattle.std.specs.Prelude.{Result, Err}
use Rattle.plans.specs.Plans.{reached}

-- no answer is both
pub never : {B : Type 0} {r : Result Progress Refusal} {u m : ℕ} {e : Refusal} → r ≡ reached u m → r ≡ Err e → B
never p q = let z : ◌≡◌ {A = ℕ} 0 1 = cc in absurd (omega arith)

pub same-words : {r : Result Progress Refusal} {u m v n : ℕ} → r ≡ reached u m → r ≡ reached v n → u ≡ v
same-words {u = u} {m} {v} {n} p q = let e : ◌≡◌ {A = Progress} (record { words = u; next = m }) (record { words = v; next = n }) = cc in ap (λ (x : Progress). x.words) e

pub same_next : {r : Result Progress Refusal} {u m v n : ℕ} → r ≡ reached u m → r ≡ reached v n → m ≡ n
same_next {u = u} {m} {v} {n} p q = let e : ◌≡◌ {A = Progress} (record { words = u; next = m }) (record { words = v; next = n }) = cc in ap (λ (x : Progress). x.next) e

-- words in front
pub out-ahead : (h : List ℕ) {x : W} {w u : ℕ} {o o₁ o₂ : List ℕ} {b : ℕ} {q : Result Progress Refusal} → o₁ ≡ laid o w h → u ≡ w + length h
    → Parsed x u o₁ o₂ b q → Parsed (ahead h x) w o o₂ b q
out-ahead h {w = w} {u = u} {o = o} {o₂ = o₂} {b = b} {q = q} p e (wrote {ws} {m} r) =
    let n : u + length ws ≡ w + length (h ++ ws) = omega (arith, length-append h ws) in
    let x : Wrote (h ++ ws) m w o o₂ b q = record {
      is = r.is ∙ ap (λ (k : ℕ). reached k m) n;
      words = r.words ∙ rw (p, e) (sym (laid_append h ws o w));
      room = omega (arith, r.room);
    } in
    wrote x
out-ahead h p e (refused r) = refused r

-- one after another
pub out-after : (f : ℕ → W) {x : W} {w u m : ℕ} {o o₁ o₂ : List ℕ} {b₁ b : ℕ} {r q : Result Progress Refusal} → Parsed x w o o₁ b₁ r → r ≡ reached u m
    → Parsed (f m) u o₁ o₂ b q → Parsed (after x f) w o o₂ b q
out-after f {u = u} {m = m} {o₁ = o₁} {o₂ = o₂} {b = b} {q = q} (wrote {ws} {m = n} x) e y =
    let k : m ≡ n = same_next e x.is in
    out-ahead ws x.words (same-words e x.is) (subst (λ (z : ℕ). Parsed (f z) u o₁ o₂ b q) k y)
out-after f (refused x) d y = never d x

pub out-no : (f : ℕ → W) {x : W} {w : ℕ} {e : Refusal} {o o₁ : List ℕ} {b₁ : ℕ} {r : Result Progress Refusal} (v : ℕ) (p o₂ : List ℕ) (b : ℕ) → Parsed x w o o₁ b₁ r → r ≡ Err e
    → Parsed (after x f) v p o₂ b (Err e)
out-no f v p o₂ b (wrote x) e = never x.is e
out-no f v p o₂ b (refused x) e = refused (sym e ∙ x)

-- what an outcome leaves of the room
pub out-room : {x : W} {w u m : ℕ} {o o₁ : List ℕ} {b : ℕ} {r : Result Progress Refusal} → Parsed x w o o₁ b r → r ≡ reached u m → u + m ≤ b
out-room (wrote x) e = let p = same-words e x.is in let q = same_next e x.is in omega (arith, x.room)
out-room (refused x) e = never e x

-- the same words with more room, and the answer by another name
pub out-wider : {x : W} {w : ℕ} {o o₁ : List ℕ} {b c : ℕ} {r : Result Progress Refusal} → b ≤ c → Parsed x w o o₁ b r → Parsed x w o o₁ c r
out-wider {w = w} {o = o} {o₁ = o₁} {c = c} {r = r} h (wrote {ws} {m} x) =
    let y : Wrote ws m w o o₁ c r = record { is = x.is; words = x.words; room = omega (arith, x.room) } in
    wrote y
out-wider h (refused x) = refused x

-- no words
pub out_empty : (u m : ℕ) (o : List ℕ) (b : ℕ) → u + m ≤ b → Parsed (ok [] m) u o o b (reached u m)
unfolding laid
out_empty u m o b h =
    let y : Wrote [] m u o o b (reached u m) = record { is = ap (λ (k : ℕ). reached k m) (sym (add-zero u)); words = refl; room = omega arith } in
    wrote y

-- the next number of an outcome is that of its words
pub counts-done : {x : W} {w u m : ℕ} {o o₁ : List ℕ} {b : ℕ} {r : Result Progress Refusal} → Parsed x w o o₁ b r → r ≡ reached u m → Counts x m
counts-done (wrote x) e = same_next x.is e
counts-done (refused x) e = never e x

pub counts-no : {x : W} {w : ℕ} {e : Refusal} {o o₁ : List ℕ} {b : ℕ} {r : Result Progress Refusal} (m : ℕ) → Parsed x w o o₁ b r → r ≡ Err e → Counts x m
counts-no m (wrote x) e = never x.is e
counts-no m (refused x) e = tt

-- a number laid in front of words, sooner or later
filled-laid : (pair at k : ℕ) (ws o : List ℕ) (w : ℕ) → (0 < pair → at + 2 ≤ w) → filled pair at k (laid o w ws) ≡ laid (filled pair at k o) w ws
unfolding filled pick
filled-laid pair at k ws o w h = go (eqb pair 0) refl
  where
    go : (t : Bool) → eqb pair 0 ≡ t → pick t (laid o w ws) (laid (laid o w ws) at (two k)) ≡ laid (pick t o (laid o at (two k))) w ws
    go true e = refl
    go false e = let n : pair ≡ 0 → ⊥ = eqb-false pair 0 e in laid-early (two k) ws o at w (h (omega (arith, n)))

-- what was written behind a number's place is what would have been written had the number been there before
pub out-filled : (pair at k : ℕ) {x : W} {w : ℕ} {o o₁ : List ℕ} {b : ℕ} {r : Result Progress Refusal} → (0 < pair → at + 2 ≤ w) → Parsed x w o o₁ b r → Parsed x w (filled pair at k o) (filled pair at k o₁) b r
out-filled pair at k {w = w} {o = o} {o₁ = o₁} {b = b} {r = r} h (wrote {ws} {m} x) =
    let y : Wrote ws m w (filled pair at k o) (filled pair at k o₁) b r = record { is = x.is; words = ap (filled pair at k) x.words ∙ filled-laid pair at k ws o w h; room = x.room } in
    wrote y
out-filled pair at k h (refused x) = refused x

-- a kind's word, and the number that is laid behind it
pub kind-filled : (pair k : ℕ) {kind w u : ℕ} {o o' : List ℕ} → 0 < pair → Put o w (kind ∷ []) o' u → filled pair (w + 1) k o' ≡ laid o w (kind ∷ two k)
unfolding filled pick laid
kind-filled pair k l p = rw (ne_eqb pair 0 (λ e. omega arith), p.words) refl

-- words in front that depend on the number between two others
pub out-behind : (x : W) (front : ℕ → List ℕ) (f : ℕ → W) (m : ℕ) {w u : ℕ} {o o₁ o₂ : List ℕ} {b : ℕ} {q : Result Progress Refusal} → Counts x m → o₁ ≡ laid o w (front m) → u ≡ w + length (front m)
    → Parsed (after x f) u o₁ o₂ b q → Parsed (behind x front f) w o o₂ b q
out-behind (ok ws n) front f m {w = w} {u = u} {o = o} {o₁ = o₁} c p e y =
    out-ahead (front n) (subst (λ (j : ℕ). o₁ ≡ laid o w (front j)) (sym c) p) (subst (λ (j : ℕ). u ≡ w + length (front j)) (sym c) e) y
out-behind (no r) front f m c p e (refused x) = refused x

-- one that is missing is refused, whatever was written
pub out_missing : (x : W) (f : ℕ → W) {w u : ℕ} {o o₁ o₂ : List ℕ} {b c : ℕ} {q : Result Progress Refusal} → Parsed (after (after x (λ m. no malformed)) f) u o₁ o₂ c q → Parsed (after x (λ m. no malformed)) w o o₂ b q
out_missing (ok ws n) f (refused x) = refused x
out_missing (no r) f (refused x) = refused x
