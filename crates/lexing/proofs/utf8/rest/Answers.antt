use mathlib.Core.Path.{ap, ◌∙◌}
use Prim.Native.Nat.{◌+◌}
use native.Mathlib.Omega.{arith}
use lib.ListN.{drop}
use Rattle.reading.specs.Utf8.{Expected, well_formed}
use Rattle.lexing.proofs.Lexing.WellFormed.{formed-outside, formed-within, formed-end, come_none, come_more}
use Rattle.lexing.proofs.utf8.rest.Goals as goal

pub returns-then-b-low : goal.returns-then-b-low
returns-then-b-low c = c.loop-i.invariant ∙ formed-outside _ c.loop-i.i _ _ _ c.loop-i-test.true c.then-b-low.either

pub returns-then-left-eq0 : goal.returns-then-left-eq0
returns-then-left-eq0 c = (
  omega arith,
  omega arith,
  c.loop-i.invariant ∙ formed-within c.args.text.now c.loop-i.i _ _ _ c.loop-i-test.true c.if-b-low.false c.if-high-b.false
      ∙ ap (λ (e : Expected). well_formed e (drop (c.loop-i.i + 1) c.args.text.now)) (come_none _ c.if-left-eq0.true),
)

pub loop-i-preserved : goal.loop-i-preserved
loop-i-preserved c =
    c.loop-i.invariant ∙ formed-within c.args.text.now c.loop-i.i _ _ _ c.loop-i-test.true c.if-b-low.false c.if-high-b.false
    ∙ ap (λ (e : Expected). well_formed e (drop (c.loop-i.i + 1) c.args.text.now)) (come_more _ c.if-left-eq0.false)

pub returns : goal.returns
returns c = c.loop-i.invariant ∙ formed-end _ c.loop-i.i _ c.loop-i-test.false
