use Rattle.sortwords.proofs.SortRead.{span-short, span_far, span_in}
use Rattle.sortwords.proofs.span_end.Goals as goal

pub returns-then-saturating_sub-lt2 : goal.returns-then-saturating_sub-lt2
returns-then-saturating_sub-lt2 c = span-short _ _ _ c.saturating_sub.ensures c.if-saturating_sub-lt2.true

pub returns-then-limit-end : goal.returns-then-limit-end
returns-then-limit-end c = span_far _ _ _ c.saturating_sub.ensures c.if-saturating_sub-lt2.false c.if-limit-end.true

pub returns : goal.returns
returns c = span_in _ _ _ c.saturating_sub.ensures c.if-saturating_sub-lt2.false c.if-limit-end.false
