use Rattle.std.proofs.lemmas.Result.{err_from_is_err_and}
use Rattle.smtnames.proofs.Tells.{put, put_as, gone_as, put-told, gone-told, put_seq, gone-first, gone-behind, piece_put, piece_gone}
use Rattle.smtnames.proofs.NamePieces.{string-text}
use Rattle.smtnames.proofs.names.string.Goals as goal

pub returns-in_err-b : goal.returns-in_err-b
returns-in_err-b c =
    let p = err_from_is_err_and c.from_residual.result c.from_residual.ensures.1 in
    rw (p.1, p.2) (gone-told (gone_as (string-text _ _) (gone-behind (put c.byte-a.ensures) (gone-first _ (piece_gone c.span.ensures c.in_err-b.was)))))

pub returns : goal.returns
returns c = put-told (put_as (string-text _ _) (put_seq (put c.byte-a.ensures) (put_seq (piece_put c.span.ensures c.in_ok-b.was) (put c.byte.ensures))))
