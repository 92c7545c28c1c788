use Rattle.reading.proofs.Picks.{pick_eq, pick_ne}
use Prim.Native.Nat.{ℕ, ◌<◌}
use mathlib.Core.Path.{◌≡◌, ◌∙◌}
use mathlib.Core.List.{List, []}
use native.Mathlib.Omega.{arith}
use lib.ListN.{length}
use Rattle.reading.specs.Limits.{max_lists}
use Rattle.smtlevels.specs.Open.{total, ending, settled}
use Rattle.sorttext.specs.SortWalk.{Walk}
use Rattle.smtlevels.specs.Levels.{Within, Known}
use Rattle.smtlevels.proofs.Levels.{within_as, below-settled}
use Rattle.sorttext.proofs.EndTexts.{size-some, size_few, toward_start, toward_end, toward_held, toward_inside, toward_into, toward_past, toward_some, toward_as}
use Rattle.sorttext.proofs.endings.Goals as goal
use Rattle.sorttext.proofs.endings.Goals.{then-n-eq0+else-pending-eq0, then-pending-left, else-pending-left, else-n-eq0, then-pending-left-2, else-pending-left-2}

-- What is answered where no walk comes.
never : {ws : List ℕ} (bases : List ℕ) {from at left : ℕ} → length bases ≡ max_lists → ((es : List ℕ) → Walk ws from [] at es → ⊥)
    → Within bases 0 × (((es : List ℕ) → Walk ws from [] at es → 0 ≡ ending left es) × ((es : List ℕ) → Walk ws from [] at es → left ≡ total es → Known bases 0 (settled es)))
never bases e h = ((e, omega arith), (λ es w. absurd (h es w), λ es w l. tt))

pub loop-a-init : goal.loop-a-init
loop-a-init c = (omega arith, λ es w. toward_start w, c.requires)

pub returns-then-words-a : goal.returns-then-words-a
returns-then-words-a c = let r = never c.loop-a.bases c.loop-a.invariant.2.0 (λ es w. omega (arith, toward_inside (c.loop-a.invariant.1 es w) c.loop-a-test.true, c.if-words-a.true)) in record { room = r.0; lists = r.1.0; known = r.1.1 }

pub returns-then-words-pending : goal.returns-then-words-pending
returns-then-words-pending c = let r = never c.loop-a.bases c.loop-a.invariant.2.0 (λ es w. omega (arith, (c.loop-a.invariant.1 es w).few, c.if-words-pending.true)) in record { room = r.0; lists = r.1.0; known = r.1.1 }

pub returns-then-pending-eq0 : goal.returns-then-pending-eq0
returns-then-pending-eq0 c = let r = never c.loop-a.bases c.loop-a.invariant.2.0 (λ es w. omega (arith, toward_some (c.loop-a.invariant.1 es w) c.loop-a-test.true c.sort_at-node.ensures c.count-n.ensures c.if-n-eq0.true, c.if-pending-eq0.true)) in record { room = r.0; lists = r.1.0; known = r.1.1 }

pub standing_below-known-requires : goal.standing_below-known-requires
standing_below-known-requires c = c.loop-a.invariant.2.1

pub entered_below-known-requires : goal.entered_below-known-requires
entered_below-known-requires c = c.loop-a.invariant.2

pub overflow_add-a : goal.overflow_add-a
overflow_add-a c = omega (arith, c.size-a.ensures, size_few c.sort_at-node.result)

pub loop-a-smaller : goal.loop-a-smaller
loop-a-smaller c = omega (arith, c.size-a.ensures, size-some c.sort_at-node.result)

pub loop-a-preserved : goal.loop-a-preserved
loop-a-preserved c =
    let n = c.size-a.ensures in
    let m : 0 < c.size-a.result = omega (arith, n, size-some c.sort_at-node.result) in
    elim c.if-n-eq0.branch [
      | then-n-eq0+else-pending-eq0 w ↦ (
        elim w.if-pending-left.branch [ then-pending-left u ↦ omega (arith, m, w.k-is, u.k-is) | else-pending-left u ↦ omega (arith, m, w.k-is, u.k-is, c.loop-a.invariant.0) ],
        λ es v.
            toward_as w.bases-is w.known-is
            (toward_past (c.loop-a.invariant.1 es v) c.loop-a-test.true c.sort_at-node.ensures c.count-n.ensures w.if-n-eq0.true n w.pending-is (w.k-is ∙ elim w.if-pending-left.branch [ then-pending-left u ↦ pick_eq _ u.if-pending-left.true u.k-is | else-pending-left u ↦ pick_ne _ u.if-pending-left.false u.k-is ]) w.standing_below-known.ensures.lists),
        within_as w.bases-is w.known-is (c.loop-a.invariant.2.0, omega (arith, w.standing_below-known.ensures.few, c.loop-a.invariant.2.1)),
      )
      | else-n-eq0 w ↦ (
        elim w.if-pending-left-2.branch [ then-pending-left-2 u ↦ omega (arith, m, w.k-is, u.k-is, c.loop-a.invariant.0) | else-pending-left-2 u ↦ omega (arith, m, w.k-is, u.k-is, c.loop-a.invariant.0) ],
        λ es v.
            toward_as w.bases-is w.known-is
            (toward_into (c.loop-a.invariant.1 es v) c.loop-a-test.true c.sort_at-node.ensures c.count-n.ensures w.if-n-eq0.false n w.pending-is (w.k-is ∙ elim w.if-pending-left-2.branch [ then-pending-left-2 u ↦ pick_eq _ u.if-pending-left-2.true u.k-is | else-pending-left-2 u ↦ pick_ne _ u.if-pending-left-2.false u.k-is ]) w.entered_below-known.ensures.lists),
        within_as w.bases-is w.known-is w.entered_below-known.ensures.room,
      )
    ]

pub returns : goal.returns
returns c = record { room = c.loop-a.invariant.2; lists = λ es w. toward_end (c.loop-a.invariant.1 es w) c.loop-a-test.false; known = λ es w e. rw (below-settled _ es e) at (toward_held (c.loop-a.invariant.1 es w) c.loop-a-test.false) }
