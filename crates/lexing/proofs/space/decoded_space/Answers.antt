use mathlib.Core.Path.{sym, ap, ◌∙◌}
use Rattle.reading.specs.Space.{is_white}
use Rattle.lexing.proofs.Lexing.White.{space-white, space-short, space-other}
use Rattle.lexing.proofs.space.decoded_space.Goals as goal
use Rattle.lexing.proofs.space.decoded_space.Goals.{else-n-text-via-then-n-text+else-is_white, else-n-text-via-else-n-text}

pub returns-then-is_white : goal.returns-then-is_white
returns-then-is_white c = space-white _ c.args.at _ c.char_bytes-n.ensures c.if-n-text.true (sym c.if-is_white.true ∙ c.is_white.ensures ∙ ap is_white c.char_at.ensures)

pub returns-else-n-text : goal.returns-else-n-text
returns-else-n-text c =
    elim c.else-n-text.branch [
      | else-n-text-via-then-n-text+else-is_white w ↦ space-other _ (sym w.if-is_white.false ∙ w.is_white.ensures ∙ ap is_white w.char_at.ensures)
      | else-n-text-via-else-n-text w ↦ space-short _ c.args.at _ c.char_bytes-n.ensures w.if-n-text.false
    ]
