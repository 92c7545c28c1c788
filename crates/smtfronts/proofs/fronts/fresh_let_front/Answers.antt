use Rattle.smtfronts.specs.Fronts.{let_fresh_text}
use Rattle.writing.proofs.Wrote.{wrote_seq}
use Rattle.smtfronts.proofs.fronts.fresh_let_front.Goals as goal

pub returns : goal.returns
unfolding let_fresh_text
returns c = wrote_seq _ _ c.bytes-a.ensures (wrote_seq _ _ c.fresh-b.ensures c.byte.ensures)
