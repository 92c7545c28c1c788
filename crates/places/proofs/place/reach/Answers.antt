use Rattle.places.proofs.Spots.{seen_here}
use Rattle.places.proofs.place.reach.Goals as goal

pub returns-then-plain : goal.returns-then-plain
returns-then-plain c p = seen_here _ _ p c.if-plain.true

pub returns : goal.returns
returns c p = rw c.if-plain.false (c.through.ensures p)
