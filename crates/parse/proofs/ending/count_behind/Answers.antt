use mathlib.Core.Path.{refl}
use Rattle.reading.specs.Pick.{pick}
use borrow.Author.Tests.{lt-ltb, le-ltb}
use Rattle.parse.proofs.ending.count_behind.Goals as goal

pub returns-then-count-fresh : goal.returns-then-count-fresh
unfolding pick
returns-then-count-fresh c = rw (lt-ltb _ _ c.if-count-fresh.true) refl

pub returns-then-room-words : goal.returns-then-room-words
unfolding pick
returns-then-room-words c = rw (le-ltb _ _ c.if-count-fresh.false, lt-ltb _ _ c.if-room-words.true) refl

pub returns : goal.returns
unfolding pick
returns c = rw (le-ltb _ _ c.if-count-fresh.false, le-ltb _ _ c.if-room-words.false) refl
