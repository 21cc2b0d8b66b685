-- The best open trail, told by its place, how one more open trail changes it, and what an outlook leaves its reader to do.
use Rattle.std.specs.Prelude.{ℕ, ◌+◌, ◌<◌, ◌≤◌, Bool, cond, length, Some, None, Option}
use Rattle.scale.specs.declared.scales.Scale.{Ghosts}
use Rattle.trails.specs.declared.outlooks.Outlook.{Outlook}
use Rattle.trails.specs.declared.outlooks.Outlook.TheVariants.{NoneOpen, AtGoal, Cramped, Roomy}
use Rattle.trails.specs.Repertoires.{Repertoire, leaving_count}
use Rattle.trails.specs.Tables.{Table}
use Rattle.trails.specs.Steps.{motif_at}
use Rattle.trails.specs.Choosing.{goes_first}

-- the place of the best open trail, without its estimate
abbrev pub place_of : {S : Type 0} → Option (ℕ × S) → Option ℕ
place_of None = None
place_of (Some chosen) = Some chosen.0

-- the better of the best so far and an open trail at the place with this estimate
abbrev pub better_by : {S : Type 0} → (S → S → Bool) → ℕ → S → Option (ℕ × S) → Option (ℕ × S)
better_by prefers place estimate best = cond (goes_first prefers estimate best) (Some (place, estimate)) best

-- the place that an outlook names is used, and where it can be expanded, there is room for each link that leaves
abbrev pub Ready : {S : Type 0} → Ghosts S → Repertoire S → Table S → Outlook → Type 0
Ready s r t NoneOpen = Unit {0}
Ready s r t (AtGoal place) = place < t.used
Ready s r t (Cramped place) = place < t.used
Ready s r t (Roomy place) = (place < t.used) × (t.used + leaving_count r (motif_at s t place) ≤ length t.trails)
