use Rattle.sortnodes.proofs.ByWords.{applied_array, applied_data, applied-other}
use Rattle.sortnodes.proofs.applied.Goals as goal

pub returns-in-1 : goal.returns-in-1
returns-in-1 c = applied_array _ _ c.word_at.ensures c.in-1.is c.word_at-in-1.ensures

pub returns-in-2 : goal.returns-in-2
returns-in-2 c = applied_data _ _ c.word_at.ensures c.in-2.is c.word_at-in-2.ensures c.word_at-in-2-2.ensures c.word_at-in-2-3.ensures

pub returns-in_default : goal.returns-in_default
returns-in_default c =
    let r = c.in_default.in_default-own.rest in
    applied-other _ _ c.word_at.ensures r.0.1 r.1
