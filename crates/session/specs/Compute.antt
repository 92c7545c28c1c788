-- Opens every definition of this crate at once, for claims that are proved by computing.
use Rattle.flattening.specs.Compute.{flatten_computes}
use Rattle.session.specs.Session.{term_items, draft_items, report, make, room_for, final, outcome, bound_by}

unfoldable pub reader_computes : Unit {0}
unfolding flatten_computes term_items draft_items report make room_for final outcome bound_by
reader_computes = tt
