use Rattle.scale.proofs.Held.{holds_all}
use Rattle.scale.proofs.held_set.Goals as goal

pub returns-clause-grows : goal.returns-clause-grows
returns-clause-grows g c = holds_all g.S.Scale.no_worse g.S.Scale.shape g.met.S.Scale.shaped
