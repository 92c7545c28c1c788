use Rattle.std.proofs.Common.{rules, tests, ◌∙◌}
use Rattle.std.proofs.lemmas.Iterator.{YieldsList-from_slice}
use Rattle.std.proofs.lemmas.Iterator.Search.{all_from_yields_List}
use Rattle.smt.specs.Writer.{writable}
use Rattle.smtnames.proofs.NamePieces.{writable-all}
use Rattle.smtnames.proofs.names.all_writable.Goals as goal

pub returns : goal.returns
returns c = all_from_yields_List writable _ _ _ c.all.ensures.ran (YieldsList-from_slice c.args.part.now cc) (λ x b q k. search (rules, tests)) ∙ writable-all c.args.part.now
