use mathlib.Core.Path.{refl}
use Rattle.writing.proofs.Wrote.{wrote_then, wrote_as}
use Rattle.solsmt.proofs.Pieces.{comment-is}
use Rattle.solsmt.proofs.comment.Goals as goal

pub returns : goal.returns
returns c = wrote_as (comment-is _ c.digit.ensures c.digit-2.ensures) refl (wrote_then c.bytes-a.ensures (wrote_then c.byte-b.ensures (wrote_then c.byte-c.ensures c.byte.ensures)))
