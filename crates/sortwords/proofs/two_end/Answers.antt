use Rattle.sortwords.proofs.SortRead.{two-short, two_in}
use Rattle.sortwords.proofs.two_end.Goals as goal

pub returns-then-saturating_sub-lt2 : goal.returns-then-saturating_sub-lt2
returns-then-saturating_sub-lt2 c = two-short _ _ c.saturating_sub.ensures c.if-saturating_sub-lt2.true

pub returns : goal.returns
returns c = two_in _ _ c.saturating_sub.ensures c.if-saturating_sub-lt2.false
