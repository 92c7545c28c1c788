-- Laws of the lines of a text, and of what is counted for them.
use Prim.Native.Nat.{ℕ, zero, suc, ◌+◌, ◌-◌, ◌≤◌, ◌<◌, min}
use mathlib.Core.Bool.{Bool, true, false}
use mathlib.Core.Path.{◌≡◌, refl, sym, ap, ◌∙◌}
use mathlib.Core.List.{List, [], ◌∷◌}
use native.Mathlib.Nat.{le_refl, le_trans}
use native.Mathlib.Omega.{arith}
use borrow.Author.Tests.{ltb-true, ltb-false}
use lib.Dec.{ltb}
use lib.ListN.{length}
use Rattle.reading.specs.Pick.{pick}
use Rattle.reading.proofs.Picks.{pick_lt, pick_ge, pick-holds}
use Rattle.recorded.specs.declared.line.Line.{Line}
use Rattle.replay.specs.declared.State.{State}
use Rattle.recorded.specs.Numbers.{most}
use Rattle.recorded.specs.Fields.{end_from, next_field, field, line_at}
use Rattle.replay.specs.Called.{is_right}
use Rattle.replay.specs.Tally.{more, Stepped, lines_from, lines_of, wrong}

module _ (s : List ℕ) where
  -- The next field is not before this one, and behind it where there are bytes.
  next_ge : (at : ℕ) → at ≤ next_field s at
  unfolding next_field
  next_ge at = pick-holds (ltb (end_from 3 s at) (length s)) (end_from 3 s at + 1) (end_from 3 s at) (λ n. at ≤ n) (omega arith) (omega arith)

  next_gt : (at : ℕ) → at < length s → at < next_field s at
  unfolding next_field pick
  next_gt at h = go (ltb (end_from 3 s at) (length s)) refl
    where
      go : (t : Bool) → ltb (end_from 3 s at) (length s) ≡ t → at < pick t (end_from 3 s at + 1) (end_from 3 s at)
      go true e = omega arith
      go false e = omega (arith, ltb-false (end_from 3 s at) (length s) e)

  fields_grow : (n at : ℕ) → field 1 s at ≤ field (suc n) s at
  unfolding field
  fields_grow zero at = le_refl _
  fields_grow (suc n) at = le_trans (fields_grow n at) (next_ge (field (suc n) s at))

  -- The next line is behind this one.
  pub line-next : (at : ℕ) → at < length s → at < (line_at s at).next
  unfolding line_at field
  line-next at h =
      let f : next_field s at ≤ field 12 s at = fields_grow 11 at in
      let g : at < next_field s at = next_gt at h in
      omega arith

  -- More places than there are bytes are as good as any number of them.
  lines-enough : (n m at : ℕ) → length s ≤ at + n → length s ≤ at + m → lines_from n s at ≡ lines_from m s at
  unfolding lines_from pick
  lines-enough zero zero at h k = refl
  lines-enough zero (suc m) at h k = let o : length s ≤ at = omega arith in pick_ge _ o refl
  lines-enough (suc n) zero at h k = let o : length s ≤ at = omega arith in sym (pick_ge _ o refl)
  lines-enough (suc n) (suc m) at h k = go (ltb at (length s)) refl (λ a b. lines-enough n m (line_at s at).next a b)
    where
      go : (t : Bool) → ltb at (length s) ≡ t → (length s ≤ (line_at s at).next + n → length s ≤ (line_at s at).next + m → lines_from n s (line_at s at).next ≡ lines_from m s (line_at s at).next) → pick t (at ∷ lines_from n s (line_at s at).next) [] ≡ pick t (at ∷ lines_from m s (line_at s at).next) []
      go true e q =
          let g : at < (line_at s at).next = line-next at (ltb-true at (length s) e) in
          ap (λ (l : List ℕ). at ∷ l) (q (omega arith) (omega arith))
      go false e q = refl

  lines_more : (at : ℕ) → at < length s → lines_from (length s - at) s at ≡ at ∷ lines_from (length s - (line_at s at).next) s (line_at s at).next
  unfolding lines_from
  lines_more at h =
      let k : length s - at ≡ suc (length s - (at + 1)) = omega arith in
      let g : at < (line_at s at).next = line-next at h in
      rw k (sym (pick_lt _ h refl))
      ∙ ap (λ (l : List ℕ). at ∷ l) (lines-enough (length s - (at + 1)) (length s - (line_at s at).next) (line_at s at).next (omega arith) (omega arith))

  lines_none : (at : ℕ) → length s ≤ at → lines_from (length s - at) s at ≡ []
  unfolding lines_from
  lines_none at h = let k : length s - at ≡ 0 = omega arith in rw k refl

  -- What is counted so far, and the lines from a place on, are all there is to count.
  pub record Tallying (at : ℕ) (state : State) : Type 0 where
    pub few : state.answers ≤ most
    pub less : state.differing ≤ most
    pub answers : min most (state.answers + length (lines_from (length s - at) s at)) ≡ min most (length (lines_of s))
    pub differing : min most (state.differing + wrong s (lines_from (length s - at) s at)) ≡ min most (wrong s (lines_of s))

  pub tally_all : (state : State) → state.answers ≡ 0 → state.differing ≡ 0 → Tallying 0 state
  tally_all state e f =
      let k : lines_from (length s - 0) s 0 ≡ lines_of s = ap (λ (n : ℕ). lines_from n s 0) (omega arith) in
      record { few = omega arith; less = omega arith; answers = omega (arith, ap length k); differing = omega (arith, ap (wrong s) k) }

  module _ {at : ℕ} {state : State} (v : Tallying at state) where
    pub tally_more : at < length s → {line : Line} {after : State} → line ≡ line_at s at → Stepped s line state after → Tallying line.next after
    unfolding wrong pick
    tally_more h {line} {after} e p = rw e (go (is_right s (line_at s at)) refl)
      where
        next : ℕ
        next = (line_at s at).next

        rest : List ℕ
        rest = lines_from (length s - next) s next

        l : lines_from (length s - at) s at ≡ at ∷ rest
        l = lines_more at h

        q : Stepped s (line_at s at) state after
        q = rw e at p

        go : (t : Bool) → is_right s (line_at s at) ≡ t → Tallying next after
        go true r =
            let d : after.differing ≡ state.differing = q.differing ∙ rw r refl in
            let w : wrong s (at ∷ rest) ≡ 0 + wrong s rest = rw r refl in
            record {
              few = omega (arith, q.answers);
              less = omega (arith, d, v.less);
              answers = omega (arith, q.answers, v.answers, ap length l);
              differing = omega (arith, d, v.differing, ap (wrong s) l, w);
            }
        go false r =
            let d : after.differing ≡ more state.differing = q.differing ∙ rw r refl in
            let w : wrong s (at ∷ rest) ≡ 1 + wrong s rest = rw r refl in
            record {
              few = omega (arith, q.answers);
              less = omega (arith, d);
              answers = omega (arith, q.answers, v.answers, ap length l);
              differing = omega (arith, d, v.differing, ap (wrong s) l, w);
            }

    pub tally_none : length s ≤ at → (state.answers ≡ min most (length (lines_of s))) × (state.differing ≡ min most (wrong s (lines_of s)))
    unfolding wrong
    tally_none h =
        let l : lines_from (length s - at) s at ≡ [] = lines_none at h in
        (omega (arith, v.few, v.answers, ap length l), omega (arith, v.less, v.differing, ap (wrong s) l))
