use native.Mathlib.Omega.{arith}
use mathlib.Core.Path.{sym}
use lib.Seq.{length-take-le}
use Rattle.replay.proofs.Calling.{spelled-there, flat_given, flat-words, flat_out, flat-done}
use borrow.Author.Rules.{rules}
use Rattle.replay.proofs.flat.flatten_line.Goals as goal
use Rattle.replay.proofs.flat.flatten_line.Goals.{then-n-gt-WORDS-via-then-n-gt-WORDS, then-n-gt-WORDS-via-else-n-gt-WORDS+then-m-gt-WORDS, then-n-gt-WORDS-via-else-n-gt-WORDS+else-m-gt-WORDS+then-line-gt-WORDS}

pub returns-then-n-gt-WORDS : goal.returns-then-n-gt-WORDS
returns-then-n-gt-WORDS c =
    elim c.then-n-gt-WORDS.branch [
      | then-n-gt-WORDS-via-then-n-gt-WORDS w ↦ flat_given c.args.lines.now c.args.line c.put_words-n.ensures.0 w.if-n-gt-WORDS.true
      | then-n-gt-WORDS-via-else-n-gt-WORDS+then-m-gt-WORDS w ↦ flat-words c.args.lines.now c.args.line c.put_words-n.ensures.0 w.if-n-gt-WORDS.false c.put_words-m.ensures.0 w.if-m-gt-WORDS.true
      | then-n-gt-WORDS-via-else-n-gt-WORDS+else-m-gt-WORDS+then-line-gt-WORDS w ↦ flat_out c.args.lines.now c.args.line c.put_words-n.ensures.0 w.if-n-gt-WORDS.false c.put_words-m.ensures.0 w.if-m-gt-WORDS.false w.if-line-gt-WORDS.true
    ]

pub returns : goal.returns
returns c =
    let p = c.put_words-n.ensures in
    let q = c.put_words-m.ensures in
    flat-done c.args.lines.now c.args.line c.put_words-n.ensures.0 c.if-n-gt-WORDS.false q.0 c.if-m-gt-WORDS.false c.if-line-gt-WORDS.false (spelled-there _ _ q.0 q.1 (search rules) (omega (arith, c.if-m-gt-WORDS.false))) (spelled-there _ _ p.0 p.1 (search rules) (omega (arith, c.if-n-gt-WORDS.false))) (sym (length-take-le _ _ (search rules))) c.is_flattened.ensures
