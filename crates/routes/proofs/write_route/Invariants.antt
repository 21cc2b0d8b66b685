-- The links walked so far are written, behind what was there before.
use Rattle.std.proofs.Common.{◌≡◌}
use Rattle.std.specs.Iterator.Adapters.{zip_first, zip_second, rev_source}
use Rattle.trails.specs.Tables.{trail_path}
use Rattle.routes.specs.Walks.{links_back}
use Rattle.routes.proofs.Backs.{Written}
use Rattle.routes.proofs.write_route.Given as goal

abbrev pub invariant-loop-next : goal.invariant-loop-next
invariant-loop-next g l =
    let slots = rev_source (zip_first l.next-iterator) in
    let walk = zip_second l.next-iterator in
    (goal.iterator-loop-next g).can_next l.next-iterator × (goal.iterator-loop-next g).is_finite l.next-iterator
    × (slots.start ≡ 0) × Written (trail_path g.S.Scale l.trails l.place) l.initial.links l.links (links_back g.S.Scale walk.trails.now walk.at) l.count slots.end
