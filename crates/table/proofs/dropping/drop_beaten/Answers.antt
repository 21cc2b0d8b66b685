use Rattle.std.proofs.Common.{true, false, ◌∙◌, arith}
use Rattle.table.proofs.Comparing.{beside_more}
use Rattle.table.proofs.dropping.drop_beaten.Goals as goal
use Rattle.table.proofs.dropping.drop_beaten.Goals.{then-yields, else-yields}

pub loop-trail-preserved : goal.loop-trail-preserved
loop-trail-preserved g c = elim c.if-yields.branch [
  | then-yields w ↦ w.used-is ∙ beside_more g.S.Scale c.args.new _ _ _ c.trail-item.result (omega arith) (omega arith) c.loop-trail.invariant true w.if-yields.ensures
  | else-yields w ↦ w.used-is ∙ beside_more g.S.Scale c.args.new _ _ _ c.trail-item.result (omega arith) (omega arith) c.loop-trail.invariant false w.if-yields.ensures
]
