-- What every history of calls keeps, whatever the calls, budgets and limits.
use Rattle.std.proofs.Common.{◌≡◌, ℕ, ◌+◌, ◌<◌, List, length, set, None, Err, Option, sym, refl, ap, ◌∙◌, subst, arith, length-set}
use Rattle.std.proofs.lemmas.List.{get_or-set_same}
use Rattle.scale.specs.declared.scales.Scale.{Ghosts}
use Rattle.rule.specs.declared.rules.Rule as rules
use Rattle.repertoire.specs.declared.refusals.Refusal.{Refusal}
use Rattle.trails.specs.declared.standings.Standing.{Standing}
use Rattle.trails.specs.declared.states.State.TheVariants.{Done, Dropped}
use Rattle.trails.specs.declared.trails.Trail.{Trail}
use Rattle.trails.specs.Repertoires.{Repertoire}
use Rattle.trails.specs.Tables.{trail_at}
use Rattle.trails.specs.declared.outlooks.Outlook.{Outlook}
use Rattle.trails.specs.declared.outlooks.Outlook.TheVariants.{NoneOpen, AtGoal, Cramped, Roomy}
use Rattle.trails.specs.Steps.{step_expansions, run_expansions, ran_from}
use Rattle.trails.specs.Checks.{first_failing, call_checks}
use Rattle.trails.specs.Calls.{unless_refused, refused, with_used, with_limits, table_of, first_trail, prefers_by, ahead, step, step_by, run, run_by, plan_at, settle_by, settle}
use Rattle.trails.specs.Promise.{Stage, looking, planned, standing_of, settled_stage, History, begun, stepped, ran, relimited, settled, reopened}
use Rattle.trails.proofs.Invariant.{Fair, Same}
use Rattle.trails.proofs.Places.{open_not_done, same_refl}
use Rattle.trails.proofs.Choosing.{Chooses}
use Rattle.trails.proofs.Steps.{Sound, step_sound, run_sound}
use Rattle.trails.proofs.Checks.{Accepted, Fits, call_passes}

-- ---- the table that begin makes

module _ {S : Type 0} (s : Ghosts S) (laws : Fair s) (r : Repertoire S) (places : List (Trail S)) (some : 0 < length places) where
  first_is : trail_at s (set places 0 (first_trail s r)) 0 ≡ first_trail s r
  first_is = get_or-set_same places 0 (first_trail s r) (record { motif = 0; parent = 0; link = 0; cost = s.neutral; state = Dropped }) some

  not_done : {A : Type 0} (i : ℕ) → i < 1 → (trail_at s (set places 0 (first_trail s r)) i).state ≡ Done → A
  not_done i l d = let e : i ≡ 0 = omega arith in absurd (open_not_done (sym (ap (λ t. t.state) first_is) ∙ rw e at d))

  pub new_sound : Sound s r (length places) 0 (record { trails = set places 0 (first_trail s r); used = 1 })
  new_sound = record {
    whole = record {
      grown = record { some = omega arith; within = rw (length-set places 0 (first_trail s r)) some; first = subst (Same (first_trail s r)) (sym first_is) (same_refl (first_trail s r)); on = λ i h l. absurd (omega arith) };
      outdone = record { by_live = λ i l. let e : i ≡ 0 = omega arith in (i, record { within = l; live = rw (e, first_is) refl; there = refl; no_worse = laws.reflexive _ }) };
      single = record { apart = λ i j hi li hj lj e f. omega arith; shut = λ i h l e. omega arith };
      gained = record { over = λ i j h l e w. omega arith };
      followed = λ i k l d. not_done i l d;
      goal_ahead = λ i l d g. not_done i l d;
    };
    counted = rw first_is (omega arith);
    length_is = length-set places 0 (first_trail s r);
  }

-- ---- the calls

not_refused : {A : Type 0} (o : Option Refusal) (why : Refusal → A) (done : A) → o ≡ None → unless_refused o why done ≡ done
not_refused o why done e = ap (λ o. unless_refused o why done) e

module _ {S R : Type 0} (s : Ghosts S) (laws : Fair s) (q : rules.Ghosts R) (r : Repertoire S) (ok : Accepted s r) (chooses : (x : Standing S R) → Chooses s (prefers_by s q x)) (places : ℕ) where
  -- a plan is the one at its place, where the best open trail is at the goal
  abbrev Ready : Stage S R → List (Trail S) → Type 0
  Ready (looking x) trails = Unit {0}
  Ready (planned p) trails = (ahead s q r p.standing trails ≡ AtGoal p.place) × (p ≡ plan_at s p.standing trails p.place)

  pub record Kept (e : ℕ) (stage : Stage S R) (trails : List (Trail S)) : Type 0 where
    pub sound : Sound s r places e (table_of (standing_of stage) trails)
    pub fits : Fits r places (standing_of stage)
    pub ready : Ready stage trails

  -- so the calls are never refused for what they are given
  module _ {e : ℕ} (x : Standing S R) (trails : List (Trail S)) (k : Kept e (looking x) trails) where
    passes : first_failing (call_checks s r x trails) ≡ None
    passes = call_passes s r ok laws x trails (subst (λ n. Fits r n x) (sym k.sound.length_is) k.fits) k.sound.whole

    pub step_is : step s q r x trails ≡ step_by s r x trails (ahead s q r x trails)
    unfolding step
    step_is = not_refused _ (refused x trails) _ passes

    pub run_is : (budget : ℕ) → run s q r budget x trails ≡ run_by x (ran_from s r (prefers_by s q x) budget (table_of x trails))
    unfolding run
    run_is budget = not_refused _ (refused x trails) _ passes

    settle_is : settle s q r x trails ≡ settle_by s x trails (ahead s q r x trails)
    unfolding settle
    settle_is = not_refused _ (λ why. Err (x, why)) _ passes

    -- other used places change nothing of what was begun with
    fits_used : (used : ℕ) → Fits r places (with_used x used)
    fits_used used = record { header_is = k.fits.header_is; links_is = k.fits.links_is; places_is = k.fits.places_is }

    kept_step : Kept (e + step_expansions (step s q r x trails).answer) (looking (step s q r x trails).standing) (step s q r x trails).trails
    kept_step = rw step_is (record { sound = step_sound s laws r (prefers_by s q x) (chooses x) places e (table_of x trails) k.sound; fits = fits_used _; ready = tt })

    kept_run : (budget : ℕ) → Kept (e + run_expansions (run s q r budget x trails).answer) (looking (run s q r budget x trails).standing) (run s q r budget x trails).trails
    kept_run budget = rw (run_is budget) (record { sound = run_sound s laws r (prefers_by s q x) (chooses x) places budget e (table_of x trails) k.sound; fits = fits_used _; ready = tt })

    kept_settle_by : (o : Outlook) → ahead s q r x trails ≡ o → Kept e (settled_stage (settle_by s x trails o)) trails
    kept_settle_by NoneOpen a = k
    kept_settle_by (AtGoal p) a = record { sound = k.sound; fits = k.fits; ready = (a, refl) }
    kept_settle_by (Cramped p) a = k
    kept_settle_by (Roomy p) a = k

    kept_settle : Kept e (settled_stage (settle s q r x trails)) trails
    kept_settle = rw settle_is (kept_settle_by (ahead s q r x trails) refl)

  kept_limits : {e : ℕ} (stage : Stage S R) (trails : List (Trail S)) (limits : S) → Kept e stage trails → Kept e (looking (with_limits (standing_of stage) limits)) trails
  kept_limits stage trails limits k =
      record { sound = k.sound; fits = record { header_is = k.fits.header_is; links_is = k.fits.links_is; places_is = k.fits.places_is }; ready = tt }

  -- whatever was called, in whatever order
  pub history_kept : {first : Standing S R} {new : List (Trail S)} {e : ℕ} {stage : Stage S R} {trails : List (Trail S)} → Kept 0 (looking first) new → History s q r first new e stage trails → Kept e stage trails
  history_kept k begun = k
  history_kept k (stepped {e} {x} {trails} y) = kept_step x trails (history_kept k y)
  history_kept k (ran {e} {x} {trails} budget y) = kept_run x trails (history_kept k y) budget
  history_kept k (relimited {e} {x} {trails} limits y) = kept_limits (looking x) trails limits (history_kept k y)
  history_kept k (settled {e} {x} {trails} y) = kept_settle x trails (history_kept k y)
  history_kept k (reopened {e} {p} {trails} limits y) = kept_limits (planned p) trails limits (history_kept k y)
