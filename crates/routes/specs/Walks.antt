-- The walk back from a place along the parents.
use Rattle.std.specs.Prelude.{ℕ, ◌<◌, ◌≤◌, List, length, reverse}
use Rattle.scale.specs.declared.scales.Scale.{Ghosts}
use Rattle.trails.specs.declared.trails.Trail.{Trail}
use Rattle.trails.specs.Tables.{trail_at, trail_path}

-- the place is there, and the parent of each place from it down is a lower place, but at place 0
abbrev pub LeadsBack : {S : Type 0} → Ghosts S → List (Trail S) → ℕ → Type 0
LeadsBack s trails place = (place < length trails) × ((i : ℕ) → 0 < i → i ≤ place → (trail_at s trails i).parent < i)

-- the links of a trail's path, last to first
abbrev pub links_back : {S : Type 0} → Ghosts S → List (Trail S) → ℕ → List ℕ
links_back s trails place = reverse (trail_path s trails place)
