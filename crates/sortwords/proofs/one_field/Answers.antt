use Rattle.sortwords.proofs.SortRead.{field_out, field_in}
use Rattle.sortwords.proofs.one_field.Goals as goal

pub returns-then-words-at : goal.returns-then-words-at
returns-then-words-at c = field_out _ _ _ c.if-words-at.true

pub returns : goal.returns
returns c = field_in _ _ _ c.if-words-at.false
