use Rattle.lexing.proofs.Lexing.Leaves.{quoted_open, quoted-leaf}
use Rattle.lexing.proofs.tokens.quoted.Goals as goal

pub returns-in_default : goal.returns-in_default
returns-in_default c = quoted_open _ c.args.at c.in_default.ensures

pub returns : goal.returns
returns c = quoted-leaf _ c.args.at _ c.in-Some.ensures _ c.spanned-w.ensures
