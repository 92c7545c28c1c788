use Rattle.lexing.proofs.Lexing.Leaves.{symbol_open, symbol-leaf}
use Rattle.lexing.proofs.tokens.at_sign.Goals as goal

pub returns-in_default : goal.returns-in_default
returns-in_default c = symbol_open _ c.args.at c.in_default.ensures

pub returns : goal.returns
returns c = symbol-leaf _ c.args.at _ c.in-Some.ensures _ c.spanned-w.ensures
