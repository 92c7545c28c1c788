use mathlib.Core.Path.{refl}
use Rattle.show.specs.Lines.{refusal_text}
use Rattle.show.proofs.Stores.{sets_over}
use Rattle.show.proofs.Showing.{shows, refusal-hides}
use Rattle.show.proofs.refusal.Goals as goal

pub returns-then-out-lt3 : goal.returns-then-out-lt3
returns-then-out-lt3 c = refusal-hides _ _ c.if-out-lt3.true c.clear.ensures

pub returns : goal.returns
unfolding refusal_text
returns c = shows c.args.out.now (refusal_text c.args.n) refl c.if-out-lt3.false refl (rw (c.digit.ensures, c.digit-2.ensures) (sets_over (refusal_text c.args.n) _))
