-- The laws of well-formed UTF-8.
use Prim.Native.Nat.{ℕ, zero, suc, ◌+◌, ◌-◌, ◌<◌, ◌≤◌}
use mathlib.Core.Bool.{true, false, ◌&&◌, and-eq-true_iff}
use mathlib.Core.Path.{◌≡◌, refl, sym, ap, ◌∙◌}
use mathlib.Core.Logic.{◌⊎◌, inl, inr}
use mathlib.Core.List.{List, [], ◌∷◌}
use native.Mathlib.Numerals.{add-one}
use native.Mathlib.Omega.{arith}
use lib.Dec.{ltb}
use lib.ListN.{length, get_or, drop, drop_of_length-le}
use lib.Seq.{drop-cons}
use borrow.Author.Tests.{ltb-true}
use Rattle.reading.specs.Utf8.{Expected, first, inside, wrong, after_first, still_to_come, after_byte, at_end, well_formed}
use Rattle.std.specs.Prelude.{Option, Some, None}
use Rattle.lexing.specs.Next.{all_ascii, CharacterEnds}
use Rattle.reading.proofs.Picks.{pick_le, pick_gt}

-- After a wrong byte nothing is right.
pub formed-wrong : (s : List ℕ) → well_formed wrong s ≡ false
unfolding well_formed after_byte
formed-wrong [] = refl
formed-wrong (b ∷ s) = formed-wrong s

module _ (s : List ℕ) (i : ℕ) where
  -- Behind the text.
  pub formed-end : (e : Expected) → length s ≤ i → well_formed e (drop i s) ≡ at_end e
  unfolding well_formed
  formed-end e h = rw drop_of_length-le

  -- At a byte of the text.
  pub formed-more : (e : Expected) → i < length s → well_formed e (drop i s) ≡ well_formed (after_byte e (get_or s i 0)) (drop (i + 1) s)
  unfolding well_formed
  formed-more e h = rw (drop-cons s i 0, add-one)

  -- The first byte of a character.
  pub formed-first : (e : Expected) → i < length s → e ≡ after_first (get_or s i 0) → well_formed first (drop i s) ≡ well_formed e (drop (i + 1) s)
  unfolding after_byte
  formed-first e h q = formed-more first h ∙ ap (λ (x : Expected). well_formed x (drop (i + 1) s)) (sym q)

  -- An ASCII character.
  pub formed-ascii : i < length s → get_or s i 0 < 0x80 → well_formed first (drop i s) ≡ well_formed first (drop (i + 1) s)
  unfolding after_first
  formed-ascii h k = let l : get_or s i 0 ≤ 0x7f = omega arith in formed-first first h (pick_le _ l refl)

  module _ (lo hi n : ℕ) (h : i < length s) where
    -- A byte inside of a character, outside of its range or in it.
    pub formed-outside : (get_or s i 0 < lo) ⊎ ((lo ≤ get_or s i 0) × (hi < get_or s i 0)) → well_formed (inside lo hi n) (drop i s) ≡ false
    unfolding after_byte
    formed-outside k = formed-more (inside lo hi n) h ∙ ap (λ (x : Expected). well_formed x (drop (i + 1) s)) (sym (outside k)) ∙ formed-wrong (drop (i + 1) s)
      where
        outside : (get_or s i 0 < lo) ⊎ ((lo ≤ get_or s i 0) × (hi < get_or s i 0)) → wrong ≡ after_byte (inside lo hi n) (get_or s i 0)
        outside (inl k) = pick_gt _ k refl
        outside (inr k) = pick_le _ k.0 (pick_gt _ k.1 refl)

    pub formed-within : lo ≤ get_or s i 0 → get_or s i 0 ≤ hi → well_formed (inside lo hi n) (drop i s) ≡ well_formed (still_to_come n) (drop (i + 1) s)
    unfolding after_byte
    formed-within k l = formed-more (inside lo hi n) h ∙ ap (λ (x : Expected). well_formed x (drop (i + 1) s)) (sym (pick_le _ k (pick_le _ l refl)))

-- ASCII characters, from a place on.
module _ (s : List ℕ) (i : ℕ) where
  pub ascii-end : length s ≤ i → all_ascii (drop i s) ≡ true
  unfolding all_ascii
  ascii-end h = rw drop_of_length-le

  pub ascii_more : i < length s → all_ascii (drop i s) ≡ (ltb (get_or s i 0) 0x80 && all_ascii (drop (i + 1) s))
  unfolding all_ascii
  ascii_more h = rw (drop-cons s i 0, add-one)

-- They are UTF-8.
pub ascii-formed : (s : List ℕ) → all_ascii s ≡ true → true ≡ well_formed first s
unfolding all_ascii well_formed after_byte after_first
ascii-formed [] e = refl
ascii-formed (b ∷ s) e =
    let both = (and-eq-true_iff (ltb b 0x80) (all_ascii s)).0 e in
    let low : b ≤ 0x7f = omega (arith, ltb-true b 0x80 both.0) in
    ascii-formed s both.1 ∙ ap (λ (x : Expected). well_formed x s) (pick_le _ low refl)

-- Bytes still to come.
pub come_none : (n : ℕ) → n ≡ 0 → still_to_come n ≡ first
unfolding still_to_come
come_none n e = rw e

pub come_more : (n : ℕ) → (n ≡ 0 → ⊥) → still_to_come n ≡ inside 0x80 0xbf (n - 1)
unfolding still_to_come
come_more zero h = absurd (h refl)
come_more (suc n) h = let e : suc n - 1 ≡ n = omega arith in rw e

-- A character ends where the bytes behind its first one end.
pub ends-behind : (e : Expected) (s : List ℕ) (at : ℕ) (o : Option ℕ) → well_formed first (drop at s) ≡ well_formed e (drop (at + 1) s) → CharacterEnds e s (at + 1) o → CharacterEnds first s at o
ends-behind e s at None p h = p ∙ h
ends-behind e s at (Some next) p h = (omega arith, h.1, p ∙ h.2)
