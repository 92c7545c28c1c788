use Rattle.std.proofs.lemmas.Result.{err_from_is_err_and}
use Rattle.smtnames.proofs.Tells.{put, put_as, gone_as, tells_as, put-told, gone-told, put_seq, gone-first, gone-behind, piece_put, piece_gone}
use Rattle.smtsorts.proofs.SortNodes.{data_none, data_some}
use Rattle.smtsorts.proofs.sort_node.data.Goals as goal

pub returns-then-n-eq0 : goal.returns-then-n-eq0
returns-then-n-eq0 c = tells_as (data_none _ _ _ c.if-n-eq0.true) c.name.ensures

pub returns-in_err-b : goal.returns-in_err-b
returns-in_err-b c =
    let p = err_from_is_err_and c.from_residual.result c.from_residual.ensures.1 in
    rw (p.1, p.2) (gone-told (gone_as (data_some _ _ _ c.if-n-eq0.false) (gone-behind (put c.byte-a.ensures) (gone-first _ (piece_gone c.name-2.ensures c.in_err-b.was)))))

pub returns : goal.returns
returns c = put-told (put_as (data_some _ _ _ c.if-n-eq0.false) (put_seq (put c.byte-a.ensures) (put_seq (piece_put c.name-2.ensures c.in_ok-b.was) (put c.byte.ensures))))
