use Rattle.compared.proofs.Comparing.{comparing_all, comparing_differ, comparing_more, comparing_none, answer-length, answer_at, answer-fits, answer-long}
use Rattle.compared.proofs.is_answer.Goals as goal

pub returns-then-out-words : goal.returns-then-out-words
returns-then-out-words c = answer-long _ _ c.if-out-words.true

pub loop-i-init : goal.loop-i-init
loop-i-init c = comparing_all _ _ (answer-length c.args.words.now c.args.out.now)

pub returns-then-w-expected : goal.returns-then-w-expected
returns-then-w-expected c = answer-fits _ _ c.if-out-words.false (comparing_differ c.loop-i.invariant c.loop-i-test.true (answer_at c.args.words.now c.args.out.now c.loop-i.i c.loop-i-test.true c.expected.ensures) c.if-w-expected.true)

pub loop-i-preserved : goal.loop-i-preserved
loop-i-preserved c = comparing_more c.loop-i.invariant c.loop-i-test.true (answer_at c.args.words.now c.args.out.now c.loop-i.i c.loop-i-test.true c.expected.ensures) c.if-w-expected.false

pub returns : goal.returns
returns c = answer-fits _ _ c.if-out-words.false (comparing_none c.loop-i.invariant c.loop-i-test.false)
