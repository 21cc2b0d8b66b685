-- What the calls answer, told by the standings inside.
use Rattle.std.specs.Prelude.{ℕ, ◌<◌, List, length, Ok, Err, Result}
use Rattle.scale.specs.declared.scales.Scale.{Ghosts}
use Rattle.rule.specs.declared.rules.Rule as rules
use Rattle.repertoire.specs.declared.refusals.Refusal.{Refusal}
use Rattle.trails.specs.declared.standings.Settled.{Settled}
use Rattle.trails.specs.declared.standings.Standing.{Standing}
use Rattle.trails.specs.declared.trails.Trail.{Trail}
use Rattle.trails.specs.Repertoires.{Repertoire}
use Rattle.trails.specs.Calls.{plan_at}
use Rattle.trails.specs.Promise.{Promise}
use Rattle.planner.specs.declared.searches.Plan.{Plan}
use Rattle.planner.specs.declared.searches.Search.{Search}

module _ {S R : Type 0} where
  -- what begin answers
  abbrev pub standing_in : Result (Search S R) Refusal → Result (Standing S R) Refusal
  standing_in (Ok x) = Ok x.standing
  standing_in (Err why) = Err why

  -- what settle answers
  abbrev pub settled_in : Result (Plan S R) (Search S R × Refusal) → Result (Settled S R) (Standing S R × Refusal)
  settled_in (Ok p) = Ok p.settled
  settled_in (Err back) = Err (back.0.standing, back.1)

  -- what settle answers for the place of a plan that lies ready, or for a refusal
  abbrev pub settled_by : Ghosts S → Standing S R → List (Trail S) → Result ℕ Refusal → Result (Settled S R) (Standing S R × Refusal)
  settled_by s x trails (Ok place) = Ok (plan_at s x trails place)
  settled_by s x trails (Err why) = Err (x, why)

  -- the place is one of the table's, and used
  abbrev pub IsFound : Standing S R → List (Trail S) → Result ℕ Refusal → Type 0
  IsFound x trails (Ok place) = (place < x.used) × (place < length trails)
  IsFound x trails (Err why) = Unit {0}

  -- the promise over whole runs, of what begin made
  abbrev pub PromiseOf : Ghosts S → rules.Ghosts R → Repertoire S → Result (Search S R) Refusal → List (Trail S) → Type 0
  PromiseOf s q r (Ok x) trails = Promise s q r x.standing trails
  PromiseOf s q r (Err why) trails = Unit {0}
