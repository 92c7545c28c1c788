use mathlib.Core.Path.{refl, ap, ◌∙◌}
use native.Mathlib.Omega.{arith}
use mathlib.Core.List.{[], ◌∷◌, ◌++◌}
use Rattle.reading.specs.Bytes.{ascii}
use Rattle.writing.specs.Digits.{decimal}
use Rattle.writing.proofs.Wrote.{wrote_seq, wrote_as}
use Rattle.smtnames.proofs.NamePieces.{fresh-text, four-value}
use Rattle.smtnames.proofs.names.fresh.Goals as goal

pub returns : goal.returns
returns c =
    wrote_as (ap (λ k. ascii "|v " ++ (decimal k ++ (124 ∷ []))) (four-value c.args.n _ (omega arith) c.from.ensures) ∙ fresh-text _) refl (wrote_seq _ _ c.bytes-a.ensures (wrote_seq _ _ c.decimal-b.ensures c.byte.ensures))
