-- The promise over whole runs: what holds after any calls on what begin made.
use Rattle.std.specs.Prelude.{◌≡◌, ℕ, ◌+◌, ◌<◌, ◌≤◌, true, false, List, ◌++◌, length, Ok, Err, Result}
use Rattle.scale.specs.declared.scales.Scale.{Ghosts}
use Rattle.scale.specs.Shapes.{held_set}
use Rattle.rule.specs.declared.rules.Rule as rules
use Rattle.repertoire.specs.declared.refusals.Refusal.{Refusal}
use Rattle.trails.specs.declared.answers.Step.TheVariants as step·answer
use Rattle.trails.specs.declared.answers.Ending.TheVariants as ending
use Rattle.trails.specs.declared.standings.Settled.{Settled}
use Rattle.trails.specs.declared.standings.Standing.{Standing}
use Rattle.trails.specs.declared.states.State.TheVariants.{Open}
use Rattle.trails.specs.declared.trails.Trail.{Trail}
use Rattle.trails.specs.Repertoires.{Repertoire, most_leaving}
use Rattle.trails.specs.Paths.{path_cost, IsChain}
use Rattle.trails.specs.Counts.{simple_path_count}
use Rattle.trails.specs.Tables.{trail_at, trail_path}
use Rattle.trails.specs.Steps.{step_expansions, run_expansions, RefusesWith, EndsIn}
use Rattle.trails.specs.Calls.{prefers_by, step, run, relimit, settle, reopen, plan_path}

-- ---- nothing forgotten

-- an open trail whose path, continued by the rest, is a path from start to goal at a cost no worse than this one
pub record Remembered {S : Type 0} (s : Ghosts S) (r : Repertoire S) (used : ℕ) (trails : List (Trail S)) (cost : S) : Type 0 where
  pub place : ℕ
  pub rest : List ℕ
  pub within : place < used
  pub is_open : (trail_at s trails place).state ≡ Open
  pub leads : IsChain s r (trail_path s trails place ++ rest)
  pub no_worse : s.no_worse (path_cost s r (trail_path s trails place ++ rest)) cost ≡ true

-- ---- histories of calls

-- between two calls the planner is looking for a plan, or has one
pub data Stage (S R : Type 0) : Type 0 where
  looking : Standing S R → Stage S R
  planned : Settled S R → Stage S R

abbrev pub standing_of : {S R : Type 0} → Stage S R → Standing S R
standing_of (looking x) = x
standing_of (planned p) = p.standing

-- what settle leaves: the plan, or the standing that came back
abbrev pub settled_stage : {S R : Type 0} → Result (Settled S R) (Standing S R × Refusal) → Stage S R
settled_stage (Ok p) = planned p
settled_stage (Err back) = looking back.0

module _ {S R : Type 0} (s : Ghosts S) (q : rules.Ghosts R) (r : Repertoire S) where
  -- Calls made one after another on one repertoire and one table, from the first standing and trails on: step, run, relimit
  -- and settle while it is looking, reopen on a plan; refused calls are calls too. How many expansions they answered, and
  -- the stage and the trails that they left.
  pub data History (first : Standing S R) (new : List (Trail S)) : ℕ → Stage S R → List (Trail S) → Type 0 where
    begun : History first new 0 (looking first) new
    stepped : {e : ℕ} {x : Standing S R} {trails : List (Trail S)} → History first new e (looking x) trails
        → History first new (e + step_expansions (step s q r x trails).answer) (looking (step s q r x trails).standing) (step s q r x trails).trails
    ran : {e : ℕ} {x : Standing S R} {trails : List (Trail S)} → (budget : ℕ) → History first new e (looking x) trails
        → History first new (e + run_expansions (run s q r budget x trails).answer) (looking (run s q r budget x trails).standing) (run s q r budget x trails).trails
    relimited : {e : ℕ} {x : Standing S R} {trails : List (Trail S)} → (limits : S) → History first new e (looking x) trails
        → History first new e (looking (relimit x limits)) trails
    settled : {e : ℕ} {x : Standing S R} {trails : List (Trail S)} → History first new e (looking x) trails
        → History first new e (settled_stage (settle s q r x trails)) trails
    reopened : {e : ℕ} {p : Settled S R} {trails : List (Trail S)} → (limits : S) → History first new e (planned p) trails
        → History first new e (looking (reopen p limits)) trails

  -- ---- what is promised of them

  -- a plan's path leads from start to goal and has the plan's cost and held set, and no path from start to goal is preferred
  -- to it under the limits then set
  pub record Best (p : Settled S R) (trails : List (Trail S)) : Type 0 where
    pub leads : IsChain s r (plan_path s p trails)
    pub costs : path_cost s r (plan_path s p trails) ≡ p.cost
    pub holds : held_set s.shape p.standing.preference.limits p.cost ≡ p.held
    pub none_preferred : (ks : List ℕ) → IsChain s r ks → prefers_by s q p.standing (path_cost s r ks) p.cost ≡ false

  -- no step and no run answers "no way" while there is a path from start to goal
  pub record NoWayIsNone (x : Standing S R) (trails : List (Trail S)) : Type 0 where
    pub by_step : (step s q r x trails).answer ≡ Ok step·answer.NoWay → (ks : List ℕ) → IsChain s r ks → ⊥
    pub by_run : (budget : ℕ) → EndsIn ending.NoWay (run s q r budget x trails).answer → (ks : List ℕ) → IsChain s r ks → ⊥

  abbrev pub BestAt : Stage S R → List (Trail S) → Type 0
  BestAt (looking x) trails = NoWayIsNone x trails
  BestAt (planned p) trails = Best p trails

  -- no step refuses with 23, for want of places; no run ends full; and a run with a budget above S ends in a plan if there is
  -- a path from start to goal, else in "no way"
  pub record Suffices (x : Standing S R) (trails : List (Trail S)) : Type 0 where
    pub step_fits : RefusesWith 23 (step s q r x trails).answer → ⊥
    pub run_fits : (budget : ℕ) → EndsIn ending.Full (run s q r budget x trails).answer → ⊥
    pub finds_plan : (budget : ℕ) → simple_path_count s r < budget → (ks : List ℕ) → IsChain s r ks → EndsIn ending.Plan (run s q r budget x trails).answer
    pub finds_no_way : (budget : ℕ) → simple_path_count s r < budget → ((ks : List ℕ) → IsChain s r ks → ⊥) → EndsIn ending.NoWay (run s q r budget x trails).answer

  abbrev pub SufficesAt : Stage S R → List (Trail S) → Type 0
  SufficesAt (looking x) trails = Suffices x trails
  SufficesAt (planned p) trails = Unit {0}

  -- what holds after e expansions, at a stage with its trails
  pub record Promised (e : ℕ) (stage : Stage S R) (trails : List (Trail S)) : Type 0 where
    pub best : BestAt stage trails
    pub nothing_forgotten : (ks : List ℕ) → IsChain s r ks → Remembered s r (standing_of stage).used trails (path_cost s r ks)
    pub bounded : e ≤ simple_path_count s r
    pub suffices : simple_path_count s r + most_leaving r ≤ length trails → SufficesAt stage trails

  -- after any calls, from the first standing and trails on
  abbrev pub Promise : Standing S R → List (Trail S) → Type 0
  Promise first new = (e : ℕ) (stage : Stage S R) (trails : List (Trail S)) → History first new e stage trails → Promised e stage trails
