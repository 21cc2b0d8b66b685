use Rattle.std.proofs.Common.{refl}
use lib.Count.{ones}
use Rattle.rule.specs.Rules.{ladder}
use Rattle.rule.proofs.samples_stand.Goals as goal

pub returns-clause-yarns : goal.returns-clause-yarns
unfolding ladder ones
returns-clause-yarns c = record { liked = refl; not_liked = refl; not_within = refl; not_around = refl; one = refl; two = refl; liked_then = refl; not_liked_then = refl }

pub returns-clause-rules : goal.returns-clause-rules
unfolding ladder ones
returns-clause-rules c = record { ladder_takes = refl; ladder_leaves = refl; count_takes = refl; count_leaves = refl }
