use mathlib.Core.Path.{◌∙◌}
use native.Mathlib.Omega.{arith}
use Rattle.lexing.proofs.Lexing.WellFormed.{formed-first, formed-wrong, ends-behind}
use Rattle.lexing.proofs.utf8.character.Goals as goal

pub returns-in-First : goal.returns-in-First
returns-in-First c = (omega arith, omega arith, formed-first _ c.args.at _ c.requires c.in-First.ensures)

pub returns-in-Inside : goal.returns-in-Inside
returns-in-Inside c = ends-behind _ _ c.args.at _ (formed-first _ c.args.at _ c.requires c.in-Inside.ensures) c.rest.ensures

pub returns-in-Wrong : goal.returns-in-Wrong
returns-in-Wrong c = formed-first _ c.args.at _ c.requires c.in-Wrong.ensures ∙ formed-wrong _
