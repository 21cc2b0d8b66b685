-- What a step and a run do to a table, behind their checks.
use Rattle.std.specs.Prelude.{◌≡◌, ℕ, zero, suc, ◌<◌, ◌≤◌, Bool, cond, Some, None, Ok, Err, Option, Result, ◌==◌, ◌≢◌, nat_le}
use Rattle.scale.specs.declared.scales.Scale.{Ghosts}
use Rattle.repertoire.specs.declared.refusals.Refusal.{Refusal}
use Rattle.repertoire.specs.declared.refusals.Refusal.TheVariants.{TooFewPlaces}
use Rattle.repertoire.specs.Numbers.{refusal_number}
use Rattle.trails.specs.declared.answers.Run.{Run}
use Rattle.trails.specs.declared.answers.Step.{Step}
use Rattle.trails.specs.declared.answers.Step.TheVariants as step
use Rattle.trails.specs.declared.answers.Ending.{Ending}
use Rattle.trails.specs.declared.answers.Ending.TheVariants as ending
use Rattle.trails.specs.declared.outlooks.Outlook.{Outlook}
use Rattle.trails.specs.declared.outlooks.Outlook.TheVariants.{NoneOpen, AtGoal, Cramped, Roomy}
use Rattle.trails.specs.declared.states.State.TheVariants.{Open}
use Rattle.trails.specs.Repertoires.{Repertoire, leaving_count}
use Rattle.trails.specs.Tables.{Table, trail_at, unused}
use Rattle.trails.specs.Choosing.{best, IsBest}
use Rattle.trails.specs.Expanding.{expanded}

-- ---- what the answers mean

-- what a step answers
abbrev pub step_answer : Outlook → Result Step Refusal
step_answer NoneOpen = Ok step.NoWay
step_answer (AtGoal place) = Ok step.Plan
step_answer (Cramped place) = Err TooFewPlaces
step_answer (Roomy place) = Ok step.Expanded

-- how many expansions an answer of a step stands for
abbrev pub step_expansions : Result Step Refusal → ℕ
step_expansions (Ok step.NoWay) = 0
step_expansions (Ok step.Plan) = 0
step_expansions (Ok step.Expanded) = 1
step_expansions (Err why) = 0

-- how many expansions an answer of a run stands for
abbrev pub run_expansions : Result Run Refusal → ℕ
run_expansions (Ok ran) = ran.expansions
run_expansions (Err why) = 0

-- a call refuses with this number
abbrev pub RefusesWith : {A : Type 0} → ℕ → Result A Refusal → Type 0
RefusesWith number (Ok answer) = ⊥
RefusesWith number (Err why) = refusal_number why ≡ number

-- a run ends so
abbrev pub EndsIn : Ending → Result Run Refusal → Type 0
EndsIn end (Ok ran) = ran.ending ≡ end
EndsIn end (Err why) = ⊥

-- the number by which an ending is told; a run that is spent has none
abbrev pub ending_number : Ending → Option ℕ
ending_number ending.Plan = Some 1
ending_number ending.NoWay = Some 2
ending_number ending.Full = Some 3
ending_number ending.Spent = None

-- ---- one step

-- the motif of the trail at a place
abbrev pub motif_at : {S : Type 0} → Ghosts S → Table S → ℕ → ℕ
motif_at s t place = (trail_at s t.trails place).motif

module _ {S : Type 0} (s : Ghosts S) (r : Repertoire S) (t : Table S) where
  -- what lies ahead where this is the best open trail
  abbrev pub outlook_by : Option (ℕ × S) → Outlook
  outlook_by None = NoneOpen
  outlook_by (Some chosen) = let m = motif_at s t chosen.0 in cond (m == r.header.goal) (AtGoal chosen.0) (cond (nat_le (leaving_count r m) (unused t)) (Roomy chosen.0) (Cramped chosen.0))

  -- the table after a step
  abbrev pub moved_by : Outlook → Table S
  moved_by NoneOpen = t
  moved_by (AtGoal place) = t
  moved_by (Cramped place) = t
  moved_by (Roomy place) = expanded s r place t

module _ {S : Type 0} (s : Ghosts S) (r : Repertoire S) (prefers : S → S → Bool) (t : Table S) where
  unfoldable pub outlook : Outlook
  outlook = outlook_by s r t (best s r prefers t)

  -- what an outlook says of the table, in other words
  abbrev pub OutlookMeans : Outlook → Type 0
  OutlookMeans NoneOpen = (i : ℕ) → i < t.used → (trail_at s t.trails i).state ≢ Open
  OutlookMeans (AtGoal place) = (e : S) × IsBest s r prefers t t.used place e × (motif_at s t place ≡ r.header.goal)
  OutlookMeans (Cramped place) = (e : S) × IsBest s r prefers t t.used place e × (motif_at s t place ≢ r.header.goal) × (unused t < leaving_count r (motif_at s t place))
  OutlookMeans (Roomy place) = (e : S) × IsBest s r prefers t t.used place e × (motif_at s t place ≢ r.header.goal) × (leaving_count r (motif_at s t place) ≤ unused t)

-- ---- a run

-- what a run answers, and the table that it leaves
pub record Ran (S : Type 0) : Type 0 where
  pub expansions : ℕ
  pub ending : Ending
  pub table : Table S

abbrev pub stopped : {S : Type 0} → Ending → Table S → Ran S
stopped e t = record { expansions = 0; ending = e; table = t }

-- an expansion, and then the rest of the run
abbrev pub further : {S : Type 0} → Ran S → Ran S
further rest = record { expansions = suc rest.expansions; ending = rest.ending; table = rest.table }

-- how a run goes on: it ends where a step answers anything but "expanded"
abbrev pub goes_on : {S : Type 0} → Outlook → Table S → (ℕ → Ran S) → Ran S
goes_on NoneOpen t rest = stopped ending.NoWay t
goes_on (AtGoal place) t rest = stopped ending.Plan t
goes_on (Cramped place) t rest = stopped ending.Full t
goes_on (Roomy place) t rest = further (rest place)

module _ {S : Type 0} (s : Ghosts S) (r : Repertoire S) (prefers : S → S → Bool) where
  -- with a budget; a run that has made that many expansions looks no further
  unfoldable pub ran_from : ℕ → Table S → Ran S
  ran_from zero t = stopped ending.Spent t
  ran_from (suc budget) t = goes_on (outlook s r prefers t) t (λ place. ran_from budget (expanded s r place t))

  -- what an ending says of a run with that budget, in other words: it is spent exactly where it has made that many
  -- expansions, and otherwise it has met what ends it before
  abbrev pub EndingMeans : ℕ → Ran S → Ending → Type 0
  EndingMeans budget ran ending.Plan = (ran.expansions < budget) × ((place : ℕ) × (outlook s r prefers ran.table ≡ AtGoal place))
  EndingMeans budget ran ending.NoWay = (ran.expansions < budget) × (outlook s r prefers ran.table ≡ NoneOpen)
  EndingMeans budget ran ending.Full = (ran.expansions < budget) × ((place : ℕ) × (outlook s r prefers ran.table ≡ Cramped place))
  EndingMeans budget ran ending.Spent = ran.expansions ≡ budget
