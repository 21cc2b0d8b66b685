-- The trails so far stand as they do beside the new one, and the rest as they did.
use Rattle.std.proofs.Common.{◌≡◌, ◌++◌, map, take, drop}
use Rattle.trails.specs.Expanding.{beside}
use Rattle.table.proofs.dropping.drop_beaten.Given as goal

abbrev pub invariant-loop-trail : goal.invariant-loop-trail
invariant-loop-trail g l = l.used ≡ map (beside g.S.Scale l.new) (take l.trail-index l.initial.used) ++ drop l.trail-index l.initial.used
