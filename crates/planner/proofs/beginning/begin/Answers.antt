use Rattle.trails.specs.Repertoires.{held_by}
use Rattle.planner.proofs.Begins.{begin_refused, begin_done, promise_of}
use Rattle.planner.proofs.beginning.begin.Goals as goal

pub returns-in_err-check_begin-clause-value : goal.returns-in_err-check_begin-clause-value
returns-in_err-check_begin-clause-value g c = begin_refused g.S.Scale (held_by c.args.repertoire) c.args.preference.limits c.args.preference.rule c.args.trails.now _ c.in_err-check_begin.ensures _ c.from_residual.ensures.1

pub returns : goal.returns
returns g c =
    let value = begin_done g.S.Scale (held_by c.args.repertoire) c.args.preference.limits c.args.preference.rule c.args.trails.now c.in_ok-check_begin.ensures c.neutral.result c.neutral.ensures in
    record {
      value = value;
      promise = promise_of g.S.Scale (held_by c.args.repertoire) c.args.preference.limits c.args.preference.rule c.args.trails.now g.met.S.Scale.fair g.met.S.Scale.shaped g.R.Rule g.met.R.Rule.sound _ _ value;
    }
