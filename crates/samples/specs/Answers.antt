-- What the functions of the samples answer, told by what the calls answer.
use Rattle.std.specs.Prelude.{◌≡◌, ℕ, List, replicate, Ok, Err, Result}
use Rattle.scale.specs.declared.scales.Scale.{Ghosts}
use Rattle.rule.specs.declared.rules.Rule as rules
use Rattle.repertoire.specs.declared.refusals.Refusal.{Refusal}
use Rattle.trails.specs.declared.answers.Run.{Run}
use Rattle.trails.specs.declared.standings.Settled.{Settled}
use Rattle.trails.specs.declared.standings.Standing.{Standing}
use Rattle.trails.specs.declared.trails.Trail.{Trail}
use Rattle.trails.specs.Repertoires.{Repertoire}
use Rattle.trails.specs.Calls.{Begun, After, run, settle, route}
use Rattle.planner.specs.declared.searches.Plan.{Plan}
use Rattle.samples.specs.declared.outcomes.Stop.{Stop}
use Rattle.samples.specs.declared.outcomes.Trip.{Trip}
use Rattle.samples.specs.declared.outcomes.Way.{Way}

-- the run of a stop
abbrev pub run_in : Result Stop Refusal → Result Run Refusal
run_in (Ok stop) = Ok stop.run
run_in (Err why) = Err why

-- the stop of a run, with so many places used
abbrev pub stop_by : (used : ℕ) → Result Run Refusal → Result Stop Refusal
stop_by used (Ok ran) = Ok (record { run = ran; used = used })
stop_by used (Err why) = Err why

module _ {S R : Type 0} where
  -- a stop tells the places that are used
  abbrev pub TellsUsed : Standing S R → Result Stop Refusal → Type 0
  TellsUsed x (Ok stop) = stop.used ≡ x.used
  TellsUsed x (Err why) = Unit {0}

  -- the answer of settle without what is given back
  abbrev pub plan_in : Result (Settled S R) (Standing S R × Refusal) → Result (Settled S R) Refusal
  plan_in (Ok p) = Ok p
  plan_in (Err back) = Err back.1

  abbrev pub settled_of : Result (Plan S R) Refusal → Result (Settled S R) Refusal
  settled_of (Ok p) = Ok p.settled
  settled_of (Err why) = Err why

  -- a way tells the plan's cost and held set, and the route that is written into a row of four
  pub record IsWay (s : Ghosts S) (r : Repertoire S) (p : Settled S R) (trails : List (Trail S)) (way : Way S) : Type 0 where
    pub cost : way.cost ≡ p.cost
    pub held : way.held ≡ p.held
    pub routed : route s r p trails (replicate 4 0) ≡ record { answer = Ok way.route.count; buffer = way.route.links }

  -- a way, or the refusal of the route
  abbrev pub TellsWay : Ghosts S → Repertoire S → Settled S R → List (Trail S) → Result (Way S) Refusal → Type 0
  TellsWay s r p trails (Ok way) = IsWay s r p trails way
  TellsWay s r p trails (Err why) = (route s r p trails (replicate 4 0)).answer ≡ Err why

  -- a trip: the run from the standing ends so, and leaves a standing and a table from which the plan is settled; the way is
  -- the plan's
  pub record IsTrip (s : Ghosts S) (q : rules.Ghosts R) (r : Repertoire S) (budget : ℕ) (x : Standing S R) (before after : List (Trail S)) (trip : Trip S R) : Type 0 where
    pub ran : (run s q r budget x before).answer ≡ Ok trip.stop.run
    pub used : (run s q r budget x before).standing.used ≡ trip.stop.used
    pub left : (run s q r budget x before).trails ≡ after
    pub settled : plan_in (settle s q r (run s q r budget x before).standing after) ≡ Ok trip.plan.settled
    pub way : IsWay s r trip.plan.settled after trip.way

  -- a trip, or a refusal
  abbrev pub TellsTrip : Ghosts S → rules.Ghosts R → Repertoire S → ℕ → Standing S R → List (Trail S) → List (Trail S) → Result (Trip S R) Refusal → Type 0
  TellsTrip s q r budget x before after (Ok trip) = IsTrip s q r budget x before after trip
  TellsTrip s q r budget x before after (Err why) = Unit {0}

  -- the stop of what a run answers and leaves
  abbrev pub stop_in : After Run S R → Result Stop Refusal
  stop_in after = stop_by after.standing.used after.answer

  -- the stop of a run from what was begun, or the refusal of begin
  abbrev pub stop_from : Ghosts S → rules.Ghosts R → Repertoire S → (budget : ℕ) → List (Trail S) → Result (Standing S R) Refusal → Result Stop Refusal
  stop_from s q r budget trails (Ok x) = stop_in (run s q r budget x trails)
  stop_from s q r budget trails (Err why) = Err why

  abbrev pub begun_stop : Ghosts S → rules.Ghosts R → Repertoire S → (budget : ℕ) → Begun S R → Result Stop Refusal
  begun_stop s q r budget begun = stop_from s q r budget begun.trails begun.answer

  -- a trip from what was begun: its stop is the run's, and its way the plan's
  pub record IsBegunTrip (s : Ghosts S) (q : rules.Ghosts R) (r : Repertoire S) (budget : ℕ) (begun : Begun S R) (after : List (Trail S)) (trip : Trip S R) : Type 0 where
    pub stopped : begun_stop s q r budget begun ≡ Ok trip.stop
    pub way : IsWay s r trip.plan.settled after trip.way

  abbrev pub TellsBegunTrip : Ghosts S → rules.Ghosts R → Repertoire S → ℕ → Begun S R → List (Trail S) → Result (Trip S R) Refusal → Type 0
  TellsBegunTrip s q r budget begun after (Ok trip) = IsBegunTrip s q r budget begun after trip
  TellsBegunTrip s q r budget begun after (Err why) = Unit {0}
