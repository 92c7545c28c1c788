use native.Mathlib.Omega.{arith}
use Rattle.replay.proofs.Calling.{spelled-there, long-text, text-done}
use borrow.Author.Rules.{rules}
use Rattle.replay.proofs.call.text_line.Goals as goal

pub returns-then-n-gt-TEXT : goal.returns-then-n-gt-TEXT
returns-then-n-gt-TEXT c = long-text c.args.lines.now c.args.line c.args.reader.next c.put_bytes-n.ensures.0 c.if-n-gt-TEXT.true

pub returns : goal.returns
returns c =
    let p = c.put_bytes-n.ensures in
    text-done c.args.lines.now c.args.line c.args.reader.next p.0 c.if-n-gt-TEXT.false (spelled-there _ _ p.0 p.1 (search rules) (omega (arith, c.if-n-gt-TEXT.false))) c.lend.ensures
