use Rattle.std.proofs.Common.{◌∙◌}
use Rattle.trails.specs.Repertoires.{held_by}
use Rattle.planner.proofs.Serves.{settle_refused, settle_served, not_settled}
use Rattle.planner.proofs.searches.Search.ready.Goals as goal

pub returns-in_err-check_call-clause-value : goal.returns-in_err-check_call-clause-value
returns-in_err-check_call-clause-value g c =
    settle_refused g.S.Scale g.R.Rule (held_by c.args.repertoire) c.args.self.now.standing c.args.trails.now _ c.in_err-check_call.ensures _ c.from_residual.ensures.1

pub returns-in-AtGoal-clause-value : goal.returns-in-AtGoal-clause-value
returns-in-AtGoal-clause-value g c =
    settle_served g.S.Scale g.R.Rule (held_by c.args.repertoire) c.args.self.now.standing c.args.trails.now c.in_ok-check_call.ensures _ c.from-used.ensures _ c.in-AtGoal.ensures.value

pub returns-in_default-clause-value : goal.returns-in_default-clause-value
returns-in_default-clause-value g c =
    settle_served g.S.Scale g.R.Rule (held_by c.args.repertoire) c.args.self.now.standing c.args.trails.now c.in_ok-check_call.ensures _ c.from-used.ensures _ c.outlook.ensures.value
    ∙ not_settled g.S.Scale c.args.self.now.standing c.args.trails.now _ c.in_default.not-AtGoal
