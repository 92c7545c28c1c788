use mathlib.Core.Path.{refl, sym, ap, ◌∙◌}
use native.Mathlib.Omega.{arith}
use Rattle.std.specs.Prelude.{Ok}
use Rattle.words.specs.Answered.{answered, told}
use Rattle.flatwriter.proofs.WriteSteps.{exprs-all, exprs-next, exprs-none, flat-no-room, flat-no-header, flat-operands, flat-arguments, arguments-joined, chain-no-room, chain-no-header, chain-lone, chain-on}
use Rattle.flatwriter.proofs.+all_arguments_chain_flat_flats.Goals.{chain-in_default-via-in-Ok+in_default, chain-in_default-via-in_default}
use Rattle.flatwriter.proofs.+all_arguments_chain_flat_flats.Goals as goal

pub all_arguments-returns-clause-chained : goal.all_arguments-returns-clause-chained
all_arguments-returns-clause-chained t c = arguments-joined _ _ _ _ _ _ _ _ _ c.exprs_end.ensures c.behind-b.ensures c.out_sort.ensures c.behind-d.ensures c.chain-c.ensures.chained c.flats-own.ensures refl refl c.added.ensures refl refl refl

pub chain-returns-then-room-eq0-clause-chained : goal.chain-returns-then-room-eq0-clause-chained
chain-returns-then-room-eq0-clause-chained t c = chain-no-room _ _ _ _ _ c.if-room-eq0.true

pub chain-returns-in-Ok-Arguments-clause-chained : goal.chain-returns-in-Ok-Arguments-clause-chained
chain-returns-in-Ok-Arguments-clause-chained t c = chain-on _ _ _ _ _ c.if-room-eq0.false (sym (ap told c.in-Ok-Arguments.field-0-is) ∙ c.in-Ok-Arguments.ensures) c.all_arguments.ensures.chained

pub chain-returns-in_default-clause-chained : goal.chain-returns-in_default-clause-chained
chain-returns-in_default-clause-chained t c =
    let e = c.lone-in_default.ensures in
    elim c.in_default.branch [
      | chain-in_default-via-in-Ok+in_default w ↦ chain-lone _ _ _ _ _ _ c.if-room-eq0.false w.in_default.ensures w.in_default.in-Operands-own.keys2 e.0 e.1 e.2 e.3
      | chain-in_default-via-in_default w ↦ chain-no-header _ _ _ _ _ c.if-room-eq0.false (sym (ap (λ o. answered o) w.in_default.is) ∙ c.head.ensures)
    ]

pub flat-returns-then-room-eq0 : goal.flat-returns-then-room-eq0
flat-returns-then-room-eq0 t c = flat-no-room _ _ _ _ _ c.if-room-eq0.true

pub flat-returns-in-Ok-Operands : goal.flat-returns-in-Ok-Operands
flat-returns-in-Ok-Operands t c =
    let h = c.in-Ok-Operands.is ∙ ap Ok c.in-Ok-Operands.field-0-is in
    flat-operands _ _ _ _ _ c.if-room-eq0.false (λ i h. (c.type_inv.words i).fits) (omega (arith, rw h at c.head.type_inv)) (sym (ap told c.in-Ok-Operands.field-0-is) ∙ c.in-Ok-Operands.ensures) c.copy-p.ensures c.flats.ensures

pub flat-returns-in-Ok-Arguments : goal.flat-returns-in-Ok-Arguments
flat-returns-in-Ok-Arguments t c = flat-arguments _ _ _ _ _ c.if-room-eq0.false (λ i h. (c.type_inv.words i).fits) (sym (ap told c.in-Ok-Arguments.field-0-is) ∙ c.in-Ok-Arguments.ensures) c.copy-p-in-Ok-Arguments.ensures c.all_arguments-c.ensures.chained c.patch-q.ensures c.copy-s.ensures c.flat.ensures

pub flat-returns-in-Err : goal.flat-returns-in-Err
flat-returns-in-Err t c = flat-no-header _ _ _ _ _ c.if-room-eq0.false c.in-Err.ensures

pub flats-loop-init : goal.flats-loop-init
flats-loop-init t c = (refl, λ es m s. exprs-all es m (omega arith) s)

pub flats-loop-preserved : goal.flats-loop-preserved
flats-loop-preserved t c = (c.flat-walked.auto.out ∙ c.loop.invariant.0, λ es m s. exprs-next es m (omega (arith, c.loop-test.true)) c.flat-walked.ensures (c.loop.invariant.1 es m s))

pub flats-returns : goal.flats-returns
flats-returns t c es m s = exprs-none es m (omega (arith, c.loop-test.false)) (c.loop.invariant.1 es m s)
