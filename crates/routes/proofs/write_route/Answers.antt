use Rattle.std.proofs.Common.{◌∙◌}
use Rattle.trails.specs.Tables.{trail_path}
use Rattle.routes.proofs.Backs.{written_more}
use Rattle.routes.proofs.write_route.Goals as goal

pub loop-next-preserved : goal.loop-next-preserved
loop-next-preserved g c =
    let kept = c.loop-next.invariant in
    let turn = c.in-Some.ensures.steps in (
      c.in-Some.ensures.goes.keeps,
      tt,
      turn.0.0 ∙ kept.2,
      rw turn.0.1.1 (written_more (trail_path g.S.Scale c.args.trails.now c.args.place) c.args.links.now c.args.count c.requires.counted c.requires.room kept.3 turn.1 turn.0.1.2),
    )
