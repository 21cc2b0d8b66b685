use Rattle.std.proofs.Common.{ap, ◌∙◌}
use Rattle.table.specs.Chosen.{place_of}
use Rattle.table.proofs.Bests.{best_front}
use Rattle.table.proofs.tables.TrailTable.best_open.Goals as goal

pub returns-clause-value : goal.returns-clause-value
returns-clause-value g c = c.best_open.ensures.value ∙ ap place_of (best_front g.S.Scale _ _ _ _ c.args.self.now.fits)
