use Rattle.std.proofs.lemmas.Result.{err_from_is_err_and}
use mathlib.Core.Path.{ap, ◌∙◌}
use Prim.Native.Nat.{ℕ, ◌+◌, ◌*◌, ◌^◌}
use native.Mathlib.Omega.{arith}
use lib.ListN.{get_or}
use Rattle.smtnames.proofs.Tells.{put, put_as, gone_as, gone-told, put_seq, gone-first, gone-behind, part-put, part_end, part-gone, part-told}
use Rattle.smtvars.proofs.VarTexts.{var_pieces}
use Rattle.sorttext.proofs.WordsRead.{binder-read}
use Rattle.smtvars.proofs.vars.var.Goals as goal

pub returns-then-words-at : goal.returns-then-words-at
returns-then-words-at c limit b n e = absurd (omega (arith, (binder-read limit _ _ e).starts, c.if-words-at.true))

pub returns-in_err-told : goal.returns-in_err-told
returns-in_err-told c limit b n e =
    let o = binder-read limit _ _ e in
    let s = c.sort.ensures limit b.sort n o.sorted in
    let p = err_from_is_err_and c.from_residual.result c.from_residual.ensures.1 in
    rw (p.1, p.2) (gone-told (gone_as (var_pieces _ b (c.words_to_long-k.ensures ∙ ap (λ (w : ℕ). get_or c.args.words.now c.args.at 0 + w * 2 ^ 32) c.word_at.ensures ∙ o.number)) (gone-behind (put c.byte-a.ensures) (gone-behind (put c.fresh-b.ensures) (gone-behind (put c.byte-c.ensures) (gone-first _ (part-gone s c.in_err-told.was)))))))

pub returns : goal.returns
returns c limit b n e =
    let o = binder-read limit _ _ e in
    let s = c.sort.ensures limit b.sort n o.sorted in
    part-told (part_end s c.in_ok-told.was) (put_as (var_pieces _ b (c.words_to_long-k.ensures ∙ ap (λ (w : ℕ). get_or c.args.words.now c.args.at 0 + w * 2 ^ 32) c.word_at.ensures ∙ o.number)) (put_seq (put c.byte-a.ensures) (put_seq (put c.fresh-b.ensures) (put_seq (put c.byte-c.ensures) (put_seq (part-put s c.in_ok-told.was) (put c.byte.ensures))))))
