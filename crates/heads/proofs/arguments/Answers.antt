use native.Mathlib.Omega.{arith}
use Rattle.heads.proofs.ReadHead.{arguments_in, arguments-no, arguments-short}
use Rattle.heads.proofs.arguments.Goals.{then-saturating_sub-lt2-via-then-saturating_sub-lt2, then-saturating_sub-lt2-via-else-saturating_sub-lt2+then-words-at-gt1}
use Rattle.heads.proofs.arguments.Goals as goal

pub returns-then-saturating_sub-lt2 : goal.returns-then-saturating_sub-lt2
returns-then-saturating_sub-lt2 c =
    elim c.then-saturating_sub-lt2.branch [
      | then-saturating_sub-lt2-via-then-saturating_sub-lt2 w ↦ arguments-short _ _ c.saturating_sub.ensures w.if-saturating_sub-lt2.true
      | then-saturating_sub-lt2-via-else-saturating_sub-lt2+then-words-at-gt1 w ↦ arguments-no _ _ (omega (arith, c.saturating_sub.ensures, w.if-saturating_sub-lt2.false)) w.if-words-at-gt1.true
    ]

pub returns : goal.returns
returns c = arguments_in _ _ c.saturating_sub.ensures c.if-saturating_sub-lt2.false c.if-words-at-gt1.false
