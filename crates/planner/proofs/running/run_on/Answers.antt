use Rattle.std.proofs.Common.{◌∙◌, arith}
use Rattle.planner.proofs.Runs.{gone_ended, gone_more, gone_all}
use Rattle.planner.proofs.running.run_on.Goals as goal

pub returns-in-Some-clause-ran : goal.returns-in-Some-clause-ran
returns-in-Some-clause-ran g c =
    gone_ended g.S.Scale _ _ _ _ _ c.loop-made-test.true _ c.loop-made.invariant.0 _ c.advance.ensures.seen _ c.advance.ensures.moved _ c.in-Some.ensures

pub loop-made-preserved : goal.loop-made-preserved
loop-made-preserved g c = (
  gone_more g.S.Scale _ _ _ _ _ c.loop-made-test.true _ c.loop-made.invariant.0 _ c.advance.ensures.seen _ c.advance.ensures.moved c.in_default.ensures,
  c.advance.ensures.long ∙ c.loop-made.invariant.1,
  c.advance.ensures.same ∙ c.loop-made.invariant.2,
)

pub returns-clause-ran : goal.returns-clause-ran
returns-clause-ran g c = gone_all g.S.Scale _ _ _ _ _ (omega arith) _ c.loop-made.invariant.0
