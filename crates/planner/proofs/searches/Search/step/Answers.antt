use Rattle.std.proofs.Common.{rules}
use Rattle.trails.specs.Repertoires.{held_by}
use Rattle.planner.proofs.Serves.{step_refused, step_done}
use Rattle.planner.proofs.searches.Search.step.Goals as goal

pub returns-in_err-check_call : goal.returns-in_err-check_call
returns-in_err-check_call g c =
    step_refused g.S.Scale g.R.Rule (held_by c.args.repertoire) c.args.self.now.standing c.args.trails.now _ c.in_err-check_call.ensures _ c.from_residual.ensures.1

pub returns : goal.returns
returns g c =
    step_done g.S.Scale g.R.Rule (held_by c.args.repertoire) c.args.self.now.standing c.args.trails.now c.in_ok-check_call.ensures _ c.from-used.ensures
    _ c.advance-outlook.ensures.seen _ c.answer_of.ensures _ c.advance-outlook.ensures.moved _ (search rules)
