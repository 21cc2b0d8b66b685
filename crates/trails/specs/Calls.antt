-- The meaning of every call: begin, step, run, relimit, settle, reopen and route.
use Rattle.std.specs.Prelude.{ℕ, Bool, cond, List, ◌++◌, length, drop, Some, None, Ok, Err, Option, Result, nat_le, slice_set}
use Rattle.scale.specs.declared.scales.Scale.{Ghosts}
use Rattle.scale.specs.Shapes.{held_set}
use Rattle.rule.specs.declared.rules.Rule as rules
use Rattle.rule.specs.Preferences.{preferred_by}
use Rattle.repertoire.specs.declared.refusals.Refusal.{Refusal}
use Rattle.repertoire.specs.declared.refusals.Refusal.TheVariants.{NotSettled, RouteTooLong}
use Rattle.trails.specs.declared.answers.Run.{Run}
use Rattle.trails.specs.declared.answers.Step.{Step}
use Rattle.trails.specs.declared.standings.Settled.{Settled}
use Rattle.trails.specs.declared.standings.Standing.{Standing}
use Rattle.trails.specs.declared.states.State.TheVariants.{Open}
use Rattle.trails.specs.declared.trails.Trail.{Trail}
use Rattle.trails.specs.Repertoires.{Repertoire, link_count}
use Rattle.trails.specs.Tables.{Table, tabled, trail_at, trail_path}
use Rattle.trails.specs.declared.outlooks.Outlook.{Outlook}
use Rattle.trails.specs.declared.outlooks.Outlook.TheVariants.{NoneOpen, AtGoal, Cramped, Roomy}
use Rattle.trails.specs.Steps.{step_answer, outlook, moved_by, Ran, ran_from}
use Rattle.trails.specs.Checks.{first_failing, begin_checks, call_checks}

-- what a call comes to: refused where a check fails, and otherwise done
abbrev pub unless_refused : {A : Type 0} → Option Refusal → (Refusal → A) → A → A
unless_refused None refused done = done
unless_refused (Some why) refused done = refused why

-- what begin answers, and the trails that it leaves
pub record Begun (S R : Type 0) : Type 0 where
  pub answer : Result (Standing S R) Refusal
  pub trails : List (Trail S)

-- what step and run answer, and the standing and the trails that they leave
pub record After (A S R : Type 0) : Type 0 where
  pub answer : Result A Refusal
  pub standing : Standing S R
  pub trails : List (Trail S)

-- what route answers, and the buffer that it leaves
pub record Routed : Type 0 where
  pub answer : Result ℕ Refusal
  pub buffer : List ℕ

-- the standing with another number of used places, and with other limits
abbrev pub with_used : {S R : Type 0} → Standing S R → ℕ → Standing S R
with_used x used = record { header = x.header; links = x.links; places = x.places; used = used; preference = x.preference }

abbrev pub with_limits : {S R : Type 0} → Standing S R → S → Standing S R
with_limits x limits = record { header = x.header; links = x.links; places = x.places; used = x.used; preference = record { limits = limits; rule = x.preference.rule } }

-- a refusal changes nothing
abbrev pub refused : {A S R : Type 0} → Standing S R → List (Trail S) → Refusal → After A S R
refused x trails why = record { answer = Err why; standing = x; trails = trails }

abbrev pub table_of : {S R : Type 0} → Standing S R → List (Trail S) → Table S
table_of x trails = tabled trails x.used

-- ---- begin

-- the trail that begin makes: open, at the start, at no cost
abbrev pub first_trail : {S : Type 0} → Ghosts S → Repertoire S → Trail S
first_trail s r = record { motif = r.header.start; parent = 0; link = 0; cost = s.neutral; state = Open }

abbrev pub new_standing : {S R : Type 0} → Repertoire S → S → R → List (Trail S) → Standing S R
new_standing r limits rule trails = record { header = r.header; links = link_count r; places = length trails; used = 1; preference = record { limits = limits; rule = rule } }

module _ {S R : Type 0} (s : Ghosts S) (r : Repertoire S) where
  -- begin, from the first check that fails
  abbrev pub begun_by : S → R → List (Trail S) → Option Refusal → Begun S R
  begun_by limits rule trails failing = unless_refused failing (λ why. record { answer = Err why; trails = trails }) (record { answer = Ok (new_standing r limits rule trails); trails = slice_set trails 0 (first_trail s r) })

  unfoldable pub begin : S → R → List (Trail S) → Begun S R
  begin limits rule trails = begun_by limits rule trails (first_failing (begin_checks s r trails))

-- ---- relimit and reopen

abbrev pub relimit : {S R : Type 0} → Standing S R → S → Standing S R
relimit x limits = with_limits x limits

abbrev pub reopen : {S R : Type 0} → Settled S R → S → Standing S R
reopen p limits = with_limits p.standing limits

-- ---- step, run and settle

-- what step, run and settle do behind their checks
module _ {S R : Type 0} where
  abbrev pub step_by : Ghosts S → Repertoire S → Standing S R → List (Trail S) → Outlook → After Step S R
  step_by s r x trails o = let after = moved_by s r (table_of x trails) o in record { answer = step_answer o; standing = with_used x after.used; trails = after.trails }

  abbrev pub run_by : Standing S R → Ran S → After Run S R
  run_by x ran = record { answer = Ok (record { expansions = ran.expansions; ending = ran.ending }); standing = with_used x ran.table.used; trails = ran.table.trails }

  -- the plan whose trail is at the place
  abbrev pub plan_at : Ghosts S → Standing S R → List (Trail S) → ℕ → Settled S R
  plan_at s x trails place = record { standing = x; place = place; cost = (trail_at s trails place).cost; held = held_set s.shape x.preference.limits (trail_at s trails place).cost }

  abbrev pub settle_by : Ghosts S → Standing S R → List (Trail S) → Outlook → Result (Settled S R) (Standing S R × Refusal)
  settle_by s x trails NoneOpen = Err (x, NotSettled)
  settle_by s x trails (AtGoal place) = Ok (plan_at s x trails place)
  settle_by s x trails (Cramped place) = Err (x, NotSettled)
  settle_by s x trails (Roomy place) = Err (x, NotSettled)

-- which of two costs is preferred under the limits and by the rule in force
abbrev pub prefers_by : {S R : Type 0} → Ghosts S → rules.Ghosts R → Standing S R → S → S → Bool
prefers_by s q x = preferred_by s q x.preference

module _ {S R : Type 0} (s : Ghosts S) (q : rules.Ghosts R) (r : Repertoire S) where
  -- what lies ahead at a standing
  abbrev pub ahead : Standing S R → List (Trail S) → Outlook
  ahead x trails = outlook s r (prefers_by s q x) (table_of x trails)

  unfoldable pub step : Standing S R → List (Trail S) → After Step S R
  step x trails = unless_refused (first_failing (call_checks s r x trails)) (refused x trails) (step_by s r x trails (ahead x trails))

  unfoldable pub run : ℕ → Standing S R → List (Trail S) → After Run S R
  run budget x trails = unless_refused (first_failing (call_checks s r x trails)) (refused x trails) (run_by x (ran_from s r (prefers_by s q x) budget (table_of x trails)))

  -- where it is refused, the standing comes back unchanged
  unfoldable pub settle : Standing S R → List (Trail S) → Result (Settled S R) (Standing S R × Refusal)
  settle x trails = unless_refused (first_failing (call_checks s r x trails)) (λ why. Err (x, why)) (settle_by s x trails (ahead x trails))

-- ---- route

-- a plan's path is its trail's
abbrev pub plan_path : {S R : Type 0} → Ghosts S → Settled S R → List (Trail S) → List ℕ
plan_path s p trails = trail_path s trails p.place

-- the links at the front of the buffer, and how many; the rest of the buffer stays
abbrev pub route_by : List ℕ → List ℕ → Routed
route_by links buffer = cond (nat_le (length links) (length buffer)) (record { answer = Ok (length links); buffer = links ++ drop (length links) buffer }) (record { answer = Err RouteTooLong; buffer = buffer })

unfoldable pub route : {S R : Type 0} → Ghosts S → Repertoire S → Settled S R → List (Trail S) → List ℕ → Routed
route s r p trails buffer = unless_refused (first_failing (call_checks s r p.standing trails)) (λ why. record { answer = Err why; buffer = buffer }) (route_by (plan_path s p trails) buffer)
