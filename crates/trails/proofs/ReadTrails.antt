-- A trail that the code has read from its row.
use Rattle.std.proofs.Common.{◌≡◌, ℕ, ◌<◌, List, length, get_or}
use Rattle.std.proofs.lemmas.List.{get_or_read}
use Rattle.scale.specs.declared.scales.Scale.{Ghosts}
use Rattle.trails.specs.declared.trails.Trail.{Trail}
use Rattle.trails.specs.Tables.{trail_at}

-- it is the trail at its place
pub read_at : {S : Type 0} (s : Ghosts S) (trails : List (Trail S)) (i : ℕ) (t : Trail S) → i < length trails → t ≡ get_or trails i t → t ≡ trail_at s trails i
read_at s trails i t lt read = get_or_read trails i t lt read _
