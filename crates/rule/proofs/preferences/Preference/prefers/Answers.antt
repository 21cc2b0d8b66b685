use Rattle.rule.proofs.Ordering.{ordered}
use Rattle.rule.proofs.preferences.Preference.prefers.Goals as goal

pub returns-in-First-clause-orders : goal.returns-in-First-clause-orders
returns-in-First-clause-orders g c = ordered _ _ _ g.met.S.Scale.fair g.met.S.Scale.shaped (g.met.R.Rule.sound _)

pub returns-in-Second-clause-orders : goal.returns-in-Second-clause-orders
returns-in-Second-clause-orders g c = ordered _ _ _ g.met.S.Scale.fair g.met.S.Scale.shaped (g.met.R.Rule.sound _)

pub returns-in-Equal-clause-orders : goal.returns-in-Equal-clause-orders
returns-in-Equal-clause-orders g c = ordered _ _ _ g.met.S.Scale.fair g.met.S.Scale.shaped (g.met.R.Rule.sound _)
