-- What is told of a sort by its words.
use Prim.Native.Nat.{ℕ, ◌+◌, ◌≤◌}
use mathlib.Core.Path.{◌≡◌, refl, sym, ap, ◌∙◌}
use mathlib.Core.List.{List}
use native.Mathlib.Omega.{arith}
use lib.ListN.{length, get_or}
use Rattle.reading.specs.Pick.{pick}
use Rattle.reading.proofs.Picks.{pick_eq, pick_ne}
use Rattle.nodes.proofs.NodeAt.{behind-end}
use Rattle.sortnodes.specs.Told.{applied_at, sort_node_at}
use Rattle.sortnodes.specs.declared.SortNode.{SortNode}
use Rattle.sortnodes.specs.declared.SortNode.TheVariants as told

module _ (ws : List ℕ) (a : ℕ) {c : ℕ} (e : c ≡ get_or ws a 0) where
  -- A constructor by its word.
  pub applied_array : {n : ℕ} → c ≡ 1 → n ≡ get_or ws (a + 1) 0 → told.Array n ≡ applied_at ws a
  unfolding applied_at
  applied_array h f = pick_eq _ (sym e ∙ h) (ap told.Array f)

  pub applied_data : {x y n : ℕ} → c ≡ 2 → x ≡ get_or ws (a + 1) 0 → y ≡ get_or ws (a + 2) 0 → n ≡ get_or ws (a + 3) 0 → told.Data (record { start = x; len = y }) n ≡ applied_at ws a
  unfolding applied_at
  applied_data h f g i =
      let z : get_or ws a 0 ≡ 1 → ⊥ = λ q. omega (arith, e, h, q) in
      pick_ne _ z (pick_eq _ (sym e ∙ h) (rw (f, g, i)))

  pub applied-other : (c ≡ 1 → ⊥) → (c ≡ 2 → ⊥) → told.Other ≡ applied_at ws a
  unfolding applied_at
  applied-other h k = pick_ne _ (λ q. h (e ∙ q)) (pick_ne _ (λ q. k (e ∙ q)) refl)

module _ (ws : List ℕ) (a : ℕ) where
  -- Behind the last word.
  pub sort-out : length ws ≤ a → told.Other ≡ sort_node_at ws a
  unfolding sort_node_at pick
  sort-out h = rw (behind-end ws a h) refl

  -- A BitVec of a width, or of another sort.
  pub sort-width : {v w : ℕ} → get_or ws a 0 ≡ 5 → v ≡ get_or ws (a + 1) 0 → v ≡ 6 → w ≡ get_or ws (a + 2) 0 → told.BitVec w ≡ sort_node_at ws a
  unfolding sort_node_at pick
  sort-width h e k f = rw h (pick_eq _ (sym e ∙ k) (ap told.BitVec f))

  pub sort_bits : {v : ℕ} → get_or ws a 0 ≡ 5 → v ≡ get_or ws (a + 1) 0 → (v ≡ 6 → ⊥) → told.Other ≡ sort_node_at ws a
  unfolding sort_node_at pick
  sort_bits h e k = rw h (pick_ne _ (λ q. k (e ∙ q)) refl)

  -- A constructor applied to sorts.
  pub sort-applied : {x : SortNode} → get_or ws a 0 ≡ 10 → x ≡ applied_at ws (a + 1) → x ≡ sort_node_at ws a
  unfolding sort_node_at pick
  sort-applied h e = rw h e
