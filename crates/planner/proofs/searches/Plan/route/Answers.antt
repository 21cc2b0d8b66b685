use Rattle.trails.specs.Repertoires.{held_by}
use Rattle.planner.proofs.Serves.{route_refused, leads_back, route_too_long, route_done}
use Rattle.planner.proofs.searches.Plan.route.Goals as goal

pub returns-in_err-check_call : goal.returns-in_err-check_call
returns-in_err-check_call g c =
    route_refused g.S.Scale (held_by c.args.repertoire) c.args.self.now.settled c.args.trails.now c.args.links.now _ c.in_err-check_call.ensures _ c.from_residual.ensures.1

pub route_length-count-requires : goal.route_length-count-requires
route_length-count-requires g c =
    leads_back g.S.Scale (held_by c.args.repertoire) c.args.self.now.settled c.args.trails.now c.args.links.now c.in_ok-check_call.ensures c.from-place.result c.from-place.ensures c.args.self.now.found

pub returns-then-count-links : goal.returns-then-count-links
returns-then-count-links g c =
    route_too_long g.S.Scale (held_by c.args.repertoire) c.args.self.now.settled c.args.trails.now c.args.links.now c.in_ok-check_call.ensures c.from-place.result c.route_length-count.result c.from-place.ensures
    c.route_length-count.ensures c.if-count-links.true

pub write_route-requires-clause-leads : goal.write_route-requires-clause-leads
write_route-requires-clause-leads g c =
    leads_back g.S.Scale (held_by c.args.repertoire) c.args.self.now.settled c.args.trails.now c.args.links.now c.in_ok-check_call.ensures c.from-place.result c.from-place.ensures c.args.self.now.found

pub returns : goal.returns
returns g c =
    route_done g.S.Scale (held_by c.args.repertoire) c.args.self.now.settled c.args.trails.now c.args.links.now c.in_ok-check_call.ensures c.from-place.result c.route_length-count.result c.from-place.ensures
    c.route_length-count.ensures c.if-count-links.false c.write_route.new.links c.write_route.ensures
