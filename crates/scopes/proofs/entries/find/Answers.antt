use Rattle.std.proofs.Common.{refl}
use Rattle.scopes.proofs.ScopeNames.{search_start, search_end, search_pairs, search_hit, search_more, wraps}
use Rattle.scopes.proofs.entries.find.Goals as goal

pub loop-d-init : goal.loop-d-init
loop-d-init c = λ h. search_start _ _ _ _ h _

pub place_among-requires : goal.place_among-requires
place_among-requires c = search_pairs _ _ _ _ c.requires _ _ (c.loop-d.invariant c.requires) c.loop-d-test.true refl refl

pub returns-in-Some : goal.returns-in-Some
returns-in-Some c h = search_hit _ _ _ _ h _ _ (c.loop-d.invariant h) c.loop-d-test.true _ refl refl c.place_among.ensures _ c.in-Some.is (wraps _ _ _ _ _ _ refl refl refl)

pub loop-d-preserved : goal.loop-d-preserved
loop-d-preserved c = λ h. search_more _ _ _ _ h _ _ (c.loop-d.invariant h) c.loop-d-test.true _ refl refl c.place_among.ensures c.in_default.is

pub returns : goal.returns
returns c h = search_end _ _ _ _ h _ _ (c.loop-d.invariant h) _ c.loop-d-test.false
