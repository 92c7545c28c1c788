use mathlib.Core.Path.{refl}
use Rattle.reading.specs.Answer.{unwritable}
use Rattle.smtnames.proofs.Tells.{tells-to, tells-no, tells_as}
use Rattle.smtfronts.proofs.FrontsRest.{unwritten}
use Rattle.smtfronts.proofs.FrontsSteps.{node_as, numbered_as}
use Rattle.smtfronts.proofs.fronts.plain_front.Goals as goal

pub returns-in-Num : goal.returns-in-Num
returns-in-Num c h = node_as _ _ c.in-Num.is (tells-to c.decimal.ensures)

pub returns-in-Bool : goal.returns-in-Bool
returns-in-Bool c h = node_as _ _ c.in-Bool.is (tells-to c.boolean.ensures)

pub returns-in-Str : goal.returns-in-Str
returns-in-Str c h = node_as _ _ c.in-Str.is c.string.ensures

pub returns-in-BitVec : goal.returns-in-BitVec
returns-in-BitVec c h = node_as _ _ c.in-BitVec.is c.bits.ensures

pub returns-in-Fresh : goal.returns-in-Fresh
returns-in-Fresh c h = node_as _ _ c.in-Fresh.is (tells-to c.fresh.ensures)

pub returns-in-Named : goal.returns-in-Named
returns-in-Named c h = node_as _ _ c.in-Named.is c.name.ensures

pub returns-in-Neg : goal.returns-in-Neg
returns-in-Neg c h = node_as _ _ c.in-Neg.is (tells-to c.bytes.ensures)

pub returns-in-Bin : goal.returns-in-Bin
returns-in-Bin c h = node_as _ _ c.in-Bin.is (tells-to (c.operator.ensures (numbered_as c.in-Bin.is h)))

pub returns-in-If : goal.returns-in-If
returns-in-If c h = node_as _ _ c.in-If.is (tells-to c.bytes-in-If.ensures)

pub returns-in-And : goal.returns-in-And
returns-in-And c h = node_as _ _ c.in-And.is (tells-to c.folded.ensures)

pub returns-in-Or : goal.returns-in-Or
returns-in-Or c h = node_as _ _ c.in-Or.is (tells-to c.folded-in-Or.ensures)

pub returns-in-Not : goal.returns-in-Not
returns-in-Not c h = node_as _ _ c.in-Not.is (tells-to c.bytes-in-Not.ensures)

pub returns-in-Imp : goal.returns-in-Imp
returns-in-Imp c h = node_as _ _ c.in-Imp.is (tells-to c.bytes-in-Imp.ensures)

pub returns-in-Iff : goal.returns-in-Iff
returns-in-Iff c h = node_as _ _ c.in-Iff.is (tells-to c.bytes-in-Iff.ensures)

pub returns-in-Atom : goal.returns-in-Atom
returns-in-Atom c h = node_as _ _ c.in-Atom.is (tells-to (c.relation.ensures (numbered_as c.in-Atom.is h)))

pub returns-in-Let : goal.returns-in-Let
returns-in-Let c h = node_as _ _ c.in-Let.is c.let_front.ensures

pub returns-in-Theory : goal.returns-in-Theory
returns-in-Theory c h = tells_as (unwritten _ _ _ c.in-Theory.is) (tells-no unwritable refl)

pub returns-in-IsCtor : goal.returns-in-IsCtor
returns-in-IsCtor c h = node_as _ _ c.in-IsCtor.is c.test_front.ensures

pub returns-in-LetFresh : goal.returns-in-LetFresh
returns-in-LetFresh c h = node_as _ _ c.in-LetFresh.is (tells-to c.fresh_let_front.ensures)
