use Rattle.std.proofs.Common.{refl}
use lib.Count.{ones}
use Rattle.rule.specs.Rules.{ladder}
use Rattle.trails.specs.Choosing.{best_below, best}
use Rattle.trails.specs.Expanding.{withstood, dropped, added, tried, tried_below, closed, expanded}
use Rattle.trails.specs.Steps.{outlook, ran_from}
use Rattle.trails.specs.Calls.{begin, run, settle, route}
use Rattle.trails.proofs.sampling.samples_stand.Goals as goal

pub returns-clause-samples : goal.returns-clause-samples
unfolding ladder ones best_below best withstood dropped added tried tried_below closed expanded outlook ran_from begin run settle route
returns-clause-samples c = record {
  of_yarns = record { liked = refl; not_liked = refl; not_within = refl; not_around = refl; one = refl; two = refl; liked_then = refl; not_liked_then = refl };
  of_rules = record { ladder_takes = refl; ladder_leaves = refl; count_takes = refl; count_leaves = refl };
  of_sheet = record { begins = refl; runs = refl; settles = refl; routes = refl };
  of_reopened = record { reopens = refl; runs = refl; settles = refl; routes = refl };
  of_full = record { begins = refl; runs = refl };
  of_counts = record { paths = refl; leaving = refl };
  of_harness = record { begins = refl; runs = refl; settles = refl; routes = refl };
  of_same = record { begins = refl; runs = refl; settles = refl; routes = refl };
  of_apart = record { begins = refl; runs = refl; runs_by_one = refl; runs_by_none = refl };
}
