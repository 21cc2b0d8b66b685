use Rattle.std.proofs.Common.{arith}
use Rattle.table.proofs.Tries.{tried_discarded, tried_added}
use Rattle.table.proofs.trying.try_trail.Goals as goal

pub returns-then-is_withstood-clause-value : goal.returns-then-is_withstood-clause-value
returns-then-is_withstood-clause-value g c = tried_discarded g.S.Scale _ _ _ (omega arith) c.if-is_withstood.ensures

pub returns-clause-value : goal.returns-clause-value
returns-clause-value g c = tried_added g.S.Scale _ _ _ (omega arith) c.if-is_withstood.ensures _ c.drop_beaten.ensures
