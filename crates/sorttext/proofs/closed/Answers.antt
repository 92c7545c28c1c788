use mathlib.Core.Path.{refl, ap}
use native.Mathlib.Omega.{arith}
use lib.ListN.{replicate, replicate-append-replicate}
use Rattle.writing.proofs.Wrote.{wrote_none, wrote_seq, wrote_as}
use Rattle.sorttext.proofs.closed.Goals as goal

pub loop-init : goal.loop-init
loop-init c = wrote_none _ _

pub loop-preserved : goal.loop-preserved
loop-preserved c = wrote_as (replicate-append-replicate c.loop.counter 1 41) refl (wrote_seq _ _ c.loop.invariant c.byte-p.ensures)

pub returns : goal.returns
returns c = wrote_as (ap (λ k. replicate k 41) (omega arith)) refl c.loop.invariant
