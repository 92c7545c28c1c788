use Rattle.reading.specs.Bytes.{bytes_at}
use Rattle.words.proofs.Clip.{clipped}
use Rattle.words.proofs.span.Span.bytes.Goals as goal

pub returns : goal.returns
unfolding bytes_at
returns c = rw (c.min-from.ensures, c.min-end.ensures) (clipped c.args.text.now c.args.self.start c.args.self.len)
