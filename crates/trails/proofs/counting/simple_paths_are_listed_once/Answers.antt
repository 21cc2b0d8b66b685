use Rattle.trails.proofs.Listing.{enumerated}
use Rattle.trails.proofs.counting.simple_paths_are_listed_once.Goals as goal

pub returns-clause-listed : goal.returns-clause-listed
returns-clause-listed g c = enumerated g.S.Scale
