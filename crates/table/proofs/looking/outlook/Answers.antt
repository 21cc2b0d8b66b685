use Rattle.table.proofs.Outlooks.{ahead_none, ahead_goal, ahead_roomy, ahead_cramped}
use Rattle.table.proofs.looking.outlook.Goals as goal

pub returns-in_default-clause-value : goal.returns-in_default-clause-value
returns-in_default-clause-value g c = ahead_none g.S.Scale _ _ _ _ c.requires c.in_default.ensures.value

pub returns-then-trail-repertoire-clause-value : goal.returns-then-trail-repertoire-clause-value
returns-then-trail-repertoire-clause-value g c = ahead_goal g.S.Scale _ _ _ _ c.requires _ c.in-Some.ensures.value _ c.in-Some.ensures.within c.index-trails-place.is c.if-trail-repertoire.true

pub returns-then-leaving-trails-clause-value : goal.returns-then-leaving-trails-clause-value
returns-then-leaving-trails-clause-value g c =
    ahead_roomy g.S.Scale _ _ _ _ c.requires _ c.in-Some.ensures.value _ c.in-Some.ensures.within c.index-trails-place.is c.if-trail-repertoire.false _ c.leaving.ensures c.if-leaving-trails.true

pub returns-else-leaving-trails-clause-value : goal.returns-else-leaving-trails-clause-value
returns-else-leaving-trails-clause-value g c =
    ahead_cramped g.S.Scale _ _ _ _ c.requires _ c.in-Some.ensures.value _ c.in-Some.ensures.within c.index-trails-place.is c.if-trail-repertoire.false _ c.leaving.ensures c.if-leaving-trails.false
