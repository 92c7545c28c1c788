use Rattle.std.proofs.lemmas.Result.{err_from_is_err_and}
use Rattle.judging.proofs.Spell.{Low}
use Prim.Native.Nat.{ℕ}
use mathlib.Core.Path.{refl, ap, ◌∙◌}
use native.Mathlib.Omega.{arith}
use lib.ListN.{length, length-replicate}
use Rattle.reading.specs.Limits.{max_lists}
use Rattle.smtnames.proofs.Tells.{gone-told, piece_put, piece_gone, part-told}
use Rattle.sorttext.proofs.EndTexts.{size-some, size_few}
use Rattle.smtlevels.proofs.Levels.{within_as}
use Rattle.sorttext.proofs.SortLoop.{state_start, state_inside, state_few, state_end, state_put, state_gone, state_past, state_into, state_as}
use Rattle.sorttext.proofs.sort.Goals as goal
use Rattle.sorttext.proofs.sort.Goals.{then-n-eq0, else-n-eq0, then-words-a-via-then-words-a, then-words-a-via-else-words-a+then-words-left}

pub loop-left-init : goal.loop-left-init
loop-left-init c =
    let low : Low c.args.words.now = λ i h. omega (arith, c.type_inv.words i) in
    (refl, (length-replicate {A = ℕ} max_lists 0, omega arith), λ limit s n e. state_start _ limit _ _ _ _ _ low e)

pub shape_of-out-then-words-a : goal.shape_of-out-then-words-a
shape_of-out-then-words-a c = c.loop-left.invariant.0

pub returns-then-words-a : goal.returns-then-words-a
returns-then-words-a c limit s n e =
    let z = c.loop-left.invariant.2 limit s n e in
    elim c.then-words-a.branch [
      | then-words-a-via-then-words-a w ↦ absurd (omega (arith, state_inside z c.loop-left-test.true, w.if-words-a.true))
      | then-words-a-via-else-words-a+then-words-left w ↦ absurd (omega (arith, state_few z c.loop-left-test.true, w.if-words-left.true))
    ]

pub endings_known-e-requires : goal.endings_known-e-requires
endings_known-e-requires c = c.loop-left.invariant.1

pub entered-known-requires : goal.entered-known-requires
entered-known-requires c = c.loop-left.invariant.1

pub overflow_add-a : goal.overflow_add-a
overflow_add-a c = omega (arith, c.size-a.ensures, size_few c.sort_at-node.result)

pub loop-left-smaller : goal.loop-left-smaller
loop-left-smaller c = omega (arith, c.size-a.ensures, size-some c.sort_at-node.result)

pub loop-left-preserved : goal.loop-left-preserved
loop-left-preserved c =
    let f = piece_put c.opened.ensures c.in_ok-q.was in
    elim c.if-n-eq0.branch [
      | then-n-eq0 w ↦ (
        ap length w.out-is ∙ w.ended-p.auto.out ∙ c.opened.auto.out ∙ c.loop-left.invariant.0,
        within_as w.bases-is w.known-is w.endings_known-e.ensures.room,
        λ limit s n e.
            state_as w.out-is w.p-is w.bases-is w.known-is
            (state_past (c.loop-left.invariant.2 limit s n e) c.loop-left-test.true c.sort_at-node.ensures f c.count-n.ensures w.if-n-eq0.true c.size-a.ensures
            (λ cs v t o. w.ended-p.ensures cs (w.endings_known-e.ensures.lists cs v t o) t)
            w.endings_known-e.ensures.known),
      )
      | else-n-eq0 w ↦ (
        ap length w.out-is ∙ c.opened.auto.out ∙ c.loop-left.invariant.0,
        within_as w.bases-is w.known-is w.entered-known.ensures.room,
        λ limit s n e.
            state_as w.out-is w.p-is w.bases-is w.known-is
            (state_into (c.loop-left.invariant.2 limit s n e) c.loop-left-test.true c.sort_at-node.ensures f c.count-n.ensures w.if-n-eq0.false c.size-a.ensures w.entered-known.ensures.lists),
      )
    ]

pub returns-in_err-q : goal.returns-in_err-q
returns-in_err-q c limit s n e =
    let p = err_from_is_err_and c.from_residual.result c.from_residual.ensures.1 in
    rw (p.1, p.2) (gone-told (state_gone (c.loop-left.invariant.2 limit s n e) c.loop-left-test.true c.sort_at-node.ensures (piece_gone c.opened.ensures c.in_err-q.was)))

pub shape_of-out : goal.shape_of-out
shape_of-out c = c.loop-left.invariant.0

pub returns : goal.returns
returns c limit s n e = part-told (state_end (c.loop-left.invariant.2 limit s n e) c.loop-left-test.false) (state_put (c.loop-left.invariant.2 limit s n e) c.loop-left-test.false)
