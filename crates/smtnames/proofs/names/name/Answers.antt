use Rattle.std.proofs.lemmas.Result.{err_from_is_err_and}
use Rattle.smtnames.proofs.Tells.{put, put_as, gone_as, put-told, gone-told, put_seq, gone-first, gone-behind, piece_put, piece_gone}
use Rattle.smtnames.proofs.NamePieces.{name-text}
use Rattle.smtnames.proofs.names.name.Goals as goal

pub returns-in_err-d : goal.returns-in_err-d
returns-in_err-d c =
    let p = err_from_is_err_and c.from_residual.result c.from_residual.ensures.1 in
    rw (p.1, p.2) (gone-told (gone_as (name-text _ _ _) (gone-behind (put c.byte-a.ensures) (gone-behind (put c.byte-b.ensures) (gone-behind (put c.byte-c.ensures) (gone-first _ (piece_gone c.span.ensures c.in_err-d.was)))))))

pub returns : goal.returns
returns c =
    put-told (put_as (name-text _ _ _) (put_seq (put c.byte-a.ensures) (put_seq (put c.byte-b.ensures) (put_seq (put c.byte-c.ensures) (put_seq (piece_put c.span.ensures c.in_ok-d.was) (put c.byte.ensures))))))
