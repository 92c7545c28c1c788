-- Laws of white space and of the ends of atoms.
use Prim.Native.Nat.{ℕ, ◌+◌, ◌-◌, ◌*◌, ◌%◌, ◌<◌, ◌≤◌}
use mathlib.Core.Bool.{Bool, true, false, not, ◌&&◌, and-eq-true_iff}
use mathlib.Core.Path.{◌≡◌, refl, sym, ◌∙◌}
use mathlib.Core.Logic.{⊎_elim}
use mathlib.Core.List.{List}
use native.Mathlib.Nat.{add-zero}
use native.Mathlib.Omega.{arith}
use mir.Val.{bool_byte}
use lib.Dec.{leb, ltb, eqb}
use lib.ListN.{length, get_or, drop, length-drop}
use lib.Seq.{get_or-drop}
use borrow.Author.Tests.{ltb-true, ltb-false, eqb-true, eqb-false, ne_eqb}
use Rattle.std.proofs.lemmas.Bool.{cases_lt}
use Rattle.reading.specs.Pick.{pick}
use Rattle.reading.specs.Space.{is_white, char_bytes, char_at, space_bytes, ends_atom}
use Rattle.reading.proofs.Picks.{picks, pick_true, pick_le, pick_gt, pick_lt, pick_ge, pick_eq, pick_ne}

-- Two tests in one: a number between two others.
pub between : (m c n : ℕ) → (ltb m c && ltb c n) ≡ true → (m < c) × (c < n)
between m c n e =
    let both = (and-eq-true_iff (ltb m c) (ltb c n)).0 e in
    (ltb-true m c both.0, ltb-true c n both.1)

-- What a number below U+1680 must not be, to be no white space.
pub white_low : (c : ℕ) → 13 < c → (c ≡ 32 → ⊥) → (c ≡ 0x85 → ⊥) → (c ≡ 0xa0 → ⊥) → c < 0x1680 → false ≡ is_white c
unfolding is_white
white_low c h p q r k =
    let from : 9 ≤ c = omega arith in
    let not : c ≡ 0x1680 → ⊥ = λ e. omega arith in
    let below : c < 0x2000 = omega arith in
    search picks depth 24

-- No white space lies among ASCII characters from U+0021 on, between U+00A0 and U+1680, and beyond U+3000.
pub white-ascii : (c : ℕ) → 32 < c → c < 0x80 → false ≡ is_white c
white-ascii c h k = white_low c (omega arith) (λ e. omega arith) (λ e. omega arith) (λ e. omega arith) (omega arith)

pub white-between : (c : ℕ) → 0xa0 < c → c < 0x1680 → false ≡ is_white c
white-between c h k = white_low c (omega arith) (λ e. omega arith) (λ e. omega arith) (λ e. omega arith) k

pub white-beyond : (c : ℕ) → 0x3000 < c → false ≡ is_white c
unfolding is_white
white-beyond c h =
    let not : (n : ℕ) → n ≤ 0x3000 → c ≡ n → ⊥ = λ n k e. omega arith in
    let above : (n : ℕ) → n ≤ 0x3000 → n < c = λ n k. omega arith in
    let from : 9 ≤ c = omega arith in
    let from2 : 0x2000 ≤ c = omega arith in
    pick_ge _ from
    (pick_gt _ (above 13 (omega arith))
    (pick_ne _ (not 32 (omega arith))
    (pick_ne _ (not 0x85 (omega arith))
    (pick_ne _ (not 0xa0 (omega arith))
    (pick_ne _ (not 0x1680 (omega arith))
    (pick_ge _ from2
    (pick_gt _ (above 0x200a (omega arith))
    (pick_ne _ (not 0x2028 (omega arith))
    (pick_ne _ (not 0x2029 (omega arith))
    (pick_ne _ (not 0x202f (omega arith))
    (pick_ne _ (not 0x205f (omega arith)) (sym (ne_eqb c 0x3000 (not 0x3000 (omega arith)))))))))))))))

-- The character at a place, by its bytes, where the first is a.
module _ (s : List ℕ) (at a : ℕ) (ea : a ≡ get_or s at 0) where
  pub char_one : a < 0x80 → a ≡ char_at (drop at s)
  unfolding char_at
  char_one h = simp (get_or-drop, add-zero, ← ea) (pick_lt _ h refl)

  pub char_two : (b : ℕ) → b ≡ get_or s (at + 1) 0 → 0x80 ≤ a → a < 0xe0 → a % 32 * 64 + b % 64 ≡ char_at (drop at s)
  unfolding char_at
  char_two b eb h k = simp (get_or-drop, add-zero, ← ea, ← eb) (pick_ge _ h (pick_lt _ k refl))

  pub char_three : (b c : ℕ) → b ≡ get_or s (at + 1) 0 → c ≡ get_or s (at + 2) 0 → 0xe0 ≤ a → a < 0xf0
      → a % 16 * 4096 + b % 64 * 64 + c % 64 ≡ char_at (drop at s)
  unfolding char_at
  char_three b c eb ec h k = let j : 0x80 ≤ a = omega arith in simp (get_or-drop, add-zero, ← ea, ← eb, ← ec) (pick_ge _ j (pick_ge _ h (pick_lt _ k refl)))

  pub char_four : (b c d : ℕ) → b ≡ get_or s (at + 1) 0 → c ≡ get_or s (at + 2) 0 → d ≡ get_or s (at + 3) 0 → 0xf0 ≤ a
      → a % 8 * 262144 + b % 64 * 4096 + c % 64 * 64 + d % 64 ≡ char_at (drop at s)
  unfolding char_at
  char_four b c d eb ec ed h =
      let j : 0x80 ≤ a = omega arith in
      let k : 0xe0 ≤ a = omega arith in
      simp (get_or-drop, add-zero, ← ea, ← eb, ← ec, ← ed) (pick_ge _ j (pick_ge _ k (pick_ge _ h refl)))

-- A white space character's bytes at a place, by the answers of the tests.
module _ (s : List ℕ) (at n : ℕ) (e : n ≡ char_bytes (get_or s at 0)) where
  pub space-white : n ≤ length s - at → true ≡ is_white (char_at (drop at s)) → n ≡ space_bytes (drop at s)
  unfolding space_bytes
  space-white h t = simp (get_or-drop, add-zero, ← e, ← t, length-drop) (pick_le _ h (pick_true _ refl refl))

  pub space-short : length s - at < n → 0 ≡ space_bytes (drop at s)
  unfolding space_bytes
  space-short h = simp (get_or-drop, add-zero, ← e, length-drop) (pick_gt _ h refl)

-- A character that is no white space has none of its bytes, and neither has a byte inside of a character.
pub space-other : (s : List ℕ) → false ≡ is_white (char_at s) → 0 ≡ space_bytes s
unfolding space_bytes pick
space-other s t = rw (← t) (go (leb (char_bytes (get_or s 0 0)) (length s)))
  where
    go : (b : Bool) → ◌≡◌ {A = ℕ} 0 (pick b 0 0)
    go true = refl
    go false = refl

pub space-inside : (s : List ℕ) → char_bytes (get_or s 0 0) ≡ 0 → 0 ≡ space_bytes s
unfolding space_bytes pick
space-inside s e = rw e (go (leb 0 (length s)) (is_white (char_at s)))
  where
    go : (b t : Bool) → ◌≡◌ {A = ℕ} 0 (pick b (pick t 0 0) 0)
    go true true = refl
    go true false = refl
    go false t = refl

-- What the first byte decides by itself.
module _ (s : List ℕ) (at a : ℕ) (ea : a ≡ get_or s at 0) (h : at < length s) where
  pub space-ascii : a < 0x80 → true ≡ is_white a → 1 ≡ space_bytes (drop at s)
  unfolding char_bytes
  space-ascii k t =
      let n : 1 ≤ length s - at = omega arith in
      space-white s at 1 (rw (← ea) (pick_lt _ k refl)) n (t ∙ rw (← char_one s at a ea k))

  pub space_graphic : a < 0x80 → false ≡ is_white a → 0 ≡ space_bytes (drop at s)
  space_graphic k t = space-other (drop at s) (t ∙ rw (← char_one s at a ea k))

  pub space-byte : a < 0x80 → (t : Bool) → t ≡ is_white a → bool_byte t ≡ space_bytes (drop at s)
  space-byte k true e = space-ascii k e
  space-byte k false e = space_graphic k e

  pub space_middle : 0x80 ≤ a → a < 0xc0 → 0 ≡ space_bytes (drop at s)
  unfolding char_bytes
  space_middle k l = space-inside (drop at s) (simp (get_or-drop, add-zero, ← ea) (sym (pick_ge _ k (pick_lt _ l refl))))

  pub space-two : 0xc3 ≤ a → a < 0xe0 → 0 ≡ space_bytes (drop at s)
  space-two k l =
      let b : ℕ = get_or s (at + 1) 0 in
      let e : a % 32 * 64 + b % 64 ≡ char_at (drop at s) = char_two s at a ea b refl (omega arith) l in
      space-other (drop at s) (white-between (char_at (drop at s)) (omega (arith, e)) (omega (arith, e)))

  pub space-three : 0xe4 ≤ a → a < 0xf0 → 0 ≡ space_bytes (drop at s)
  space-three k l =
      let b : ℕ = get_or s (at + 1) 0 in
      let c : ℕ = get_or s (at + 2) 0 in
      let e : a % 16 * 4096 + b % 64 * 64 + c % 64 ≡ char_at (drop at s) = char_three s at a ea b c refl refl (omega arith) l in
      space-other (drop at s) (white-beyond (char_at (drop at s)) (omega (arith, e)))

-- How many bytes white space has that begins with the byte b: n where b does not say.
unfoldable pub by_first : ℕ → ℕ → ℕ
by_first b n =
    pick (ltb b 9) 0
    (pick (ltb b 14) 1
    (pick (eqb b 32) 1
    (pick (ltb b 0xc0) 0
    (pick (ltb b 0xc3) n
    (pick (ltb b 0xe0) 0
    (pick (ltb b 0xe4) n
    (pick (ltb b 0xf0) 0 n)))))))

-- A test that goes either way.
module _ {A : Type 0} (a b : ℕ) (x y z : A) where
  either-order : (a < b → x ≡ z) → (b ≤ a → y ≡ z) → pick (ltb a b) x y ≡ z
  unfolding pick
  either-order f g = go (ltb a b) refl
    where
      go : (t : Bool) → ltb a b ≡ t → pick t x y ≡ z
      go true e = f (ltb-true a b e)
      go false e = g (ltb-false a b e)

  either-equal : (a ≡ b → x ≡ z) → ((a ≡ b → ⊥) → y ≡ z) → pick (eqb a b) x y ≡ z
  unfolding pick
  either-equal f g = go (eqb a b) refl
    where
      go : (t : Bool) → eqb a b ≡ t → pick t x y ≡ z
      go true e = f (eqb-true a b e)
      go false e = g (eqb-false a b e)

space_first : (s : List ℕ) (at : ℕ) → at < length s → by_first (get_or s at 0) (space_bytes (drop at s)) ≡ space_bytes (drop at s)
unfolding by_first is_white
space_first s at h =
    let a : ℕ = get_or s at 0 in
    let n : ℕ = space_bytes (drop at s) in
    either-order a 9 0 _ n (λ l. space_graphic s at a refl h (omega arith) (search (picks, arith) depth 24)) λ k₁.
    either-order a 14 1 _ n (λ l. space-ascii s at a refl h (omega arith) (search (picks, arith) depth 24)) λ k₂.
    either-equal a 32 1 _ n (λ l. space-ascii s at a refl h (omega arith) (search (picks, arith) depth 24)) λ k₃.
    either-order a 0xc0 0 _ n
    (λ l.
    ⊎_elim
    (λ (m : a < 0x80). space_graphic s at a refl h m (white_low a (omega arith) k₃ (λ e. omega arith) (λ e. omega arith) (omega arith)))
    (λ (m : 0x80 ≤ a). space_middle s at a refl h m l)
    (cases_lt a 0x80)) λ k₄.
    either-order a 0xc3 n _ n (λ l. refl) λ k₅.
    either-order a 0xe0 0 _ n (λ l. space-two s at a refl h k₅ l) λ k₆.
    either-order a 0xe4 n _ n (λ l. refl) λ k₇.
    either-order a 0xf0 0 n n (λ l. space-three s at a refl h k₇ l) λ k₈. refl

pub space-told : (s : List ℕ) (at : ℕ) → at < length s → {r : ℕ} → r ≡ by_first (get_or s at 0) (space_bytes (drop at s)) → r ≡ space_bytes (drop at s)
space-told s at h e = e ∙ space_first s at h

-- Whether an atom ends at a place where the byte is a.
module _ (s : List ℕ) (at a : ℕ) (ea : a ≡ get_or s at 0) where
  pub ends_open : a ≡ 40 → true ≡ ends_atom (drop at s)
  unfolding ends_atom
  ends_open h = simp (get_or-drop, add-zero, ← ea) (pick_eq _ h refl)

  module _ (n₁ : a ≡ 40 → ⊥) where
    pub ends_close : a ≡ 41 → true ≡ ends_atom (drop at s)
    unfolding ends_atom
    ends_close h = simp (get_or-drop, add-zero, ← ea) (pick_ne _ n₁ (pick_eq _ h refl))

    module _ (n₂ : a ≡ 41 → ⊥) where
      pub ends-quote : a ≡ 34 → true ≡ ends_atom (drop at s)
      unfolding ends_atom
      ends-quote h = simp (get_or-drop, add-zero, ← ea) (pick_ne _ n₁ (pick_ne _ n₂ (pick_eq _ h refl)))

      pub ends-other : (a ≡ 34 → ⊥) → (n : ℕ) → n ≡ space_bytes (drop at s) → not (eqb n 0) ≡ ends_atom (drop at s)
      unfolding ends_atom pick
      ends-other n₃ n en = simp (get_or-drop, add-zero, ← ea, ← en) (pick_ne _ n₁ (pick_ne _ n₂ (pick_ne _ n₃ (go (eqb n 0)))))
        where
          go : (t : Bool) → not t ≡ pick t false true
          go true = refl
          go false = refl

-- The same of a blank, and of an ASCII character behind `)`.
module _ (s : List ℕ) (at a : ℕ) (ea : a ≡ get_or s at 0) (h : at < length s) where
  pub ends-blank : a ≡ 32 → true ≡ ends_atom (drop at s)
  unfolding is_white pick
  ends-blank e = ends-other s at a ea (λ q. omega arith) (λ q. omega arith) (λ q. omega arith) 1 (space-ascii s at a ea h (omega arith) (rw e))

  pub ends_graphic : 41 < a → a < 0x80 → false ≡ ends_atom (drop at s)
  ends_graphic l k = ends-other s at a ea (λ q. omega arith) (λ q. omega arith) (λ q. omega arith) 0 (space_graphic s at a ea h k (white-ascii a (omega arith) k))

-- Whether an atom ends before the byte b, where white space of n bytes begins.
unfoldable pub ends_by : ℕ → ℕ → Bool
ends_by b n =
    pick (eqb b 32) true
    (pick (eqb b 34) true
    (pick (eqb b 40) true
    (pick (eqb b 41) true
    (pick (ltb b 42) (not (eqb n 0))
    (pick (ltb b 0x80) false (not (eqb n 0)))))))

ends_first : (s : List ℕ) (at : ℕ) → at < length s → ends_by (get_or s at 0) (space_bytes (drop at s)) ≡ ends_atom (drop at s)
unfolding ends_by
ends_first s at h =
    let a : ℕ = get_or s at 0 in
    let n : ℕ = space_bytes (drop at s) in
    let t : Bool = ends_atom (drop at s) in
    either-equal a 32 true _ t (λ e. ends-blank s at a refl h e) λ k₁.
    either-equal a 34 true _ t (λ e. ends-quote s at a refl (λ q. omega arith) (λ q. omega arith) e) λ k₂.
    either-equal a 40 true _ t (λ e. ends_open s at a refl e) λ k₃.
    either-equal a 41 true _ t (λ e. ends_close s at a refl k₃ e) λ k₄.
    either-order a 42 (not (eqb n 0)) _ t (λ l. ends-other s at a refl k₃ k₄ k₂ n refl) λ k₅.
    either-order a 0x80 false (not (eqb n 0)) t (λ l. ends_graphic s at a refl h k₅ l) λ k₆. ends-other s at a refl k₃ k₄ k₂ n refl

pub ends-told : (s : List ℕ) (at : ℕ) → at < length s → {r : Bool} → r ≡ ends_by (get_or s at 0) (space_bytes (drop at s)) → r ≡ ends_atom (drop at s)
ends-told s at h e = e ∙ ends_first s at h
