-- Trails in their table: what the states mean, a trail's path and its estimate.
use Rattle.std.specs.Prelude.{ℕ, zero, suc, ◌-◌, Bool, true, false, List, [], ◌∷◌, ◌++◌, length, slice_index_or}
use Rattle.scale.specs.declared.scales.Scale.{Ghosts}
use Rattle.trails.specs.declared.states.State.{State}
use Rattle.trails.specs.declared.states.State.TheVariants.{Open, Done, Dropped}
use Rattle.trails.specs.declared.trails.Trail.{Trail}
use Rattle.trails.specs.Repertoires.{Repertoire, guide_at}

-- an open trail may be chosen
abbrev pub is_open : State → Bool
is_open Open = true
is_open Done = false
is_open Dropped = false

-- a live trail is compared with new ones; a dropped one is not
abbrev pub is_live : State → Bool
is_live Open = true
is_live Done = true
is_live Dropped = false

-- a row of places, of which the first are used
pub record Table (S : Type 0) : Type 0 where
  pub trails : List (Trail S)
  pub used : ℕ

-- a row of trails of which so many are used
abbrev pub tabled : {S : Type 0} → List (Trail S) → ℕ → Table S
tabled trails used = record { trails = trails; used = used }

-- how many places are unused
abbrev pub unused : {S : Type 0} → Table S → ℕ
unused t = length t.trails - t.used

-- the trail at a place; what stands for one past the row's end is never asked for
abbrev pub trail_at : {S : Type 0} → Ghosts S → List (Trail S) → ℕ → Trail S
trail_at s trails i = slice_index_or trails i (record { motif = 0; parent = 0; link = 0; cost = s.neutral; state = Dropped })

-- the trail in another state
abbrev pub restated : {S : Type 0} → Trail S → State → Trail S
restated t state = record { motif = t.motif; parent = t.parent; link = t.link; cost = t.cost; state = state }

-- the last n links of a trail's path: that named in the trail and those named back along its parents, put first to last;
-- place 0 adds none
abbrev pub path_back : {S : Type 0} → Ghosts S → List (Trail S) → ℕ → ℕ → List ℕ
path_back s trails zero i = []
path_back s trails (suc n) zero = []
path_back s trails (suc n) (suc i) = path_back s trails n (trail_at s trails (suc i)).parent ++ ((trail_at s trails (suc i)).link ∷ [])

-- a trail's path; parents are lower places, so it has no more links than the number of its place
abbrev pub trail_path : {S : Type 0} → Ghosts S → List (Trail S) → ℕ → List ℕ
trail_path s trails i = path_back s trails i i

-- a trail's estimate: its cost, then the guide of its motif
abbrev pub estimate : {S : Type 0} → Ghosts S → Repertoire S → Trail S → S
estimate s r t = s.joined t.cost (guide_at s r t.motif)
