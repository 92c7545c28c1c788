use native.Mathlib.Omega.{arith}
use Rattle.std.proofs.lemmas.Result.{err_from_is_err_and}
use Rattle.text.proofs.Looping.Final.{too_long_lem, not-utf8, scan_refused, scan_short, scan_all, scan_one}
use Rattle.text.proofs.operation.attempt.Goals as goal

pub returns-then-text-gt-MAX_BYTES : goal.returns-then-text-gt-MAX_BYTES
returns-then-text-gt-MAX_BYTES c = too_long_lem c.if-text-gt-MAX_BYTES.true

pub returns-then-not-is_utf8 : goal.returns-then-not-is_utf8
returns-then-not-is_utf8 c = not-utf8 c.if-text-gt-MAX_BYTES.false c.is_utf8.ensures (c.if-not-is_utf8.true)

pub returns-then-found-out : goal.returns-then-found-out
returns-then-found-out c =
    scan_short c.if-text-gt-MAX_BYTES.false c.is_utf8.ensures (c.if-not-is_utf8.false) c.in_ok-found.ensures (omega (arith, c.scan.auto))

pub returns-then-all : goal.returns-then-all
returns-then-all c =
    scan_all c.if-text-gt-MAX_BYTES.false c.is_utf8.ensures (c.if-not-is_utf8.false) c.in_ok-found.ensures c.if-all.true (omega (arith, c.scan.auto))

pub returns-in_err-found : goal.returns-in_err-found
returns-in_err-found c =
    let p = err_from_is_err_and c.from_residual.result c.from_residual.ensures.1 in
    rw (p.1, p.2) (scan_refused c.if-text-gt-MAX_BYTES.false c.is_utf8.ensures (c.if-not-is_utf8.false) c.in_err-found.ensures)

pub returns : goal.returns
returns c =
    scan_one c.if-text-gt-MAX_BYTES.false c.is_utf8.ensures (c.if-not-is_utf8.false) c.in_ok-found.ensures c.if-all.false (omega (arith, c.scan.auto))
