use native.Mathlib.Omega.{arith}
use mathlib.Core.Path.{sym}
use lib.Seq.{length-take-le}
use Rattle.replay.proofs.Calling.{spelled-there, long-words, long-tree, long-draft, long-out, lend_done}
use borrow.Author.Rules.{rules}
use Rattle.replay.proofs.call.lend.Goals as goal
use Rattle.replay.proofs.call.lend.Goals.{then-n-gt-WORDS-via-then-n-gt-WORDS, then-n-gt-WORDS-via-else-n-gt-WORDS+then-line-gt-WORDS, then-n-gt-WORDS-via-else-n-gt-WORDS+else-line-gt-WORDS+then-line-gt-WORDS-2, then-n-gt-WORDS-via-else-n-gt-WORDS+else-line-gt-WORDS+else-line-gt-WORDS-2+then-line-gt-WORDS-3}

pub returns-then-n-gt-WORDS : goal.returns-then-n-gt-WORDS
returns-then-n-gt-WORDS c =
    elim c.then-n-gt-WORDS.branch [
      | then-n-gt-WORDS-via-then-n-gt-WORDS w ↦ long-words c.args.lines.now c.args.line c.args.text.now c.args.reader.next c.put_words-n.ensures.0 w.if-n-gt-WORDS.true
      | then-n-gt-WORDS-via-else-n-gt-WORDS+then-line-gt-WORDS w ↦ long-tree c.args.lines.now c.args.line c.args.text.now c.args.reader.next w.if-line-gt-WORDS.true
      | then-n-gt-WORDS-via-else-n-gt-WORDS+else-line-gt-WORDS+then-line-gt-WORDS-2 w ↦ long-draft c.args.lines.now c.args.line c.args.text.now c.args.reader.next w.if-line-gt-WORDS-2.true
      | then-n-gt-WORDS-via-else-n-gt-WORDS+else-line-gt-WORDS+else-line-gt-WORDS-2+then-line-gt-WORDS-3 w ↦ long-out c.args.lines.now c.args.line c.args.text.now c.args.reader.next w.if-line-gt-WORDS-3.true
    ]

pub returns : goal.returns
returns c =
    let p = c.put_words-n.ensures in
    lend_done c.args.lines.now c.args.line c.args.text.now c.args.reader.next p.0 c.if-n-gt-WORDS.false c.if-line-gt-WORDS.false c.if-line-gt-WORDS-2.false c.if-line-gt-WORDS-3.false (spelled-there _ _ p.0 p.1 (search rules) (omega (arith, c.if-n-gt-WORDS.false))) (sym (length-take-le _ _ (search rules))) (sym (length-take-le _ _ (search rules))) (sym (length-take-le _ _ (search rules))) c.asked.ensures.same c.asked.ensures.count
