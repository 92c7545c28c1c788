use mathlib.Core.Path.{sym, ◌∙◌}
use Rattle.forms.proofs.LiteralBits.{bits_not, bits_there, bits_are}
use native.Mathlib.Omega.{arith}
use Rattle.forms.proofs.literal.bits_of.Goals as goal

pub returns-then-not-begins_with : goal.returns-then-not-begins_with
returns-then-not-begins_with c = bits_not _ (sym c.begins_with.ensures ∙ c.if-not-begins_with.true)

pub slice_bounds-magnitude-count : goal.slice_bounds-magnitude-count
slice_bounds-magnitude-count c = omega (arith, bits_there _ (sym c.begins_with.ensures ∙ c.if-not-begins_with.false))

pub slice_bounds-magnitude-start : goal.slice_bounds-magnitude-start
slice_bounds-magnitude-start c = omega (arith, bits_there _ (sym c.begins_with.ensures ∙ c.if-not-begins_with.false))

pub returns : goal.returns
returns c = c.ok_or.ensures.value ∙ bits_are _ (sym c.begins_with.ensures ∙ c.if-not-begins_with.false) c.magnitude.ensures
