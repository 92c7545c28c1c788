use Prim.Native.Nat.{◌<◌, ◌≤◌}
use mathlib.Core.Bool.{not}
use mathlib.Core.Path.{refl, ap, ◌∙◌}
use native.Mathlib.Omega.{arith}
use lib.ListN.{get_or}
use Rattle.recorded.specs.Numbers.{digit}
use Rattle.recorded.proofs.Digits.{digit_some, digit_none}
use Rattle.recorded.proofs.Parts.{part_none, part-some}
use Rattle.recorded.proofs.input.put_part.Goals as goal

pub returns-then-is_none : goal.returns-then-is_none
returns-then-is_none c =
    let h : 16 ≤ digit (get_or c.args.lines.now c.args.at 0) = rw (← c.byte_at.ensures) (digit_none _ c.digit.ensures refl (c.is_none.ensures ∙ ap not c.if-is_none.true)) in
    rw (part_none c.args.lines.now c.args.at h) (omega arith, refl)

pub returns : goal.returns
returns c =
    let h : digit (get_or c.args.lines.now c.args.at 0) < 16 = rw (← c.byte_at.ensures) (digit_some _ c.digit.ensures refl (c.is_none.ensures ∙ ap not c.if-is_none.false)) in
    rw (part-some c.args.lines.now c.args.at h c.hexadecimal.ensures c.times.ensures) c.repeat_word.ensures
