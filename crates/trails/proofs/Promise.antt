-- The promise over whole runs holds of what begin makes, for every scale and rule that keep their laws.
use Rattle.std.proofs.Common.{◌≡◌, ℕ, ◌+◌, ◌<◌, ◌≤◌, Bool, false, ◌⊎◌, List, length, set, Some, None, Ok, Option, sym, refl, ap, ◌∙◌, subst, inl, inr, arith}
use Rattle.scale.specs.declared.scales.Scale.{Ghosts}
use Rattle.scale.specs.Shapes.{held_set, Shaped}
use Rattle.rule.specs.declared.rules.Rule as rules
use Rattle.rule.specs.Soundness as soundness
use Rattle.repertoire.specs.declared.refusals.Refusal.{Refusal}
use Rattle.trails.specs.declared.answers.Ending.{Ending}
use Rattle.trails.specs.declared.answers.Ending.TheVariants as ending
use Rattle.trails.specs.declared.answers.Step.TheVariants as answer
use Rattle.trails.specs.declared.standings.Settled.{Settled}
use Rattle.trails.specs.declared.standings.Standing.{Standing}
use Rattle.trails.specs.declared.trails.Trail.{Trail}
use Rattle.trails.specs.Repertoires.{Repertoire, most_leaving}
use Rattle.trails.specs.Paths.{path_cost, IsChain}
use Rattle.trails.specs.Counts.{simple_path_count}
use Rattle.trails.specs.Tables.{Table, trail_at}
use Rattle.trails.specs.declared.outlooks.Outlook.{Outlook}
use Rattle.trails.specs.declared.outlooks.Outlook.TheVariants.{NoneOpen, AtGoal, Cramped, Roomy}
use Rattle.trails.specs.Steps.{step_answer, RefusesWith, EndsIn, outlook, Ran, ran_from, EndingMeans}
use Rattle.trails.specs.Checks.{first_failing, begin_checks}
use Rattle.trails.specs.Calls.{table_of, first_trail, prefers_by, new_standing, begun_by, begin, ahead, step, run, plan_at}
use Rattle.trails.specs.Promise.{Stage, looking, planned, standing_of, Best, NoWayIsNone, BestAt, Suffices, SufficesAt, Promise}
use Rattle.trails.proofs.Invariant.{Fair}
use Rattle.trails.proofs.Following.{remembered}
use Rattle.trails.proofs.Choosing.{Chooses, prefers_chooses}
use Rattle.trails.proofs.Bounded.{used_within, leaving_within}
use Rattle.trails.proofs.Steps.{Sound, means_at, run_sound, ending_means, none_open_no_chain, goal_leads, goal_costs, goal_best}
use Rattle.trails.proofs.Checks.{Accepted, begin_accepted}
use Rattle.trails.proofs.Histories.{new_sound, Kept, step_is, run_is, history_kept}

-- ---- what the answers of a step tell

no_way_ahead : (o : Outlook) → step_answer o ≡ Ok answer.NoWay → o ≡ NoneOpen
no_way_ahead NoneOpen e = refl
no_way_ahead (AtGoal p) e = cc
no_way_ahead (Cramped p) e = cc
no_way_ahead (Roomy p) e = cc

refused_ahead : (o : Outlook) → RefusesWith 23 (step_answer o) → (p : ℕ) × (o ≡ Cramped p)
refused_ahead NoneOpen e = absurd e
refused_ahead (AtGoal p) e = absurd e
refused_ahead (Cramped p) e = (p, refl)
refused_ahead (Roomy p) e = absurd e

-- ---- on one table

module _ {S : Type 0} (s : Ghosts S) (laws : Fair s) (r : Repertoire S) (ok : Accepted s r) (prefers : S → S → Bool) (chooses : Chooses s prefers) (places : ℕ) where
  -- as many expansions as there are paths that repeat no motif, at most
  expansions_within : (e : ℕ) (t : Table S) → Sound s r places e t → e ≤ simple_path_count s r
  expansions_within e t h = omega (arith, h.counted, used_within s laws r t.trails t.used h.whole)

  -- where the table has S + D places, those unused suffice for the links of any used trail
  not_cramped : (e : ℕ) (t : Table S) → Sound s r places e t → simple_path_count s r + most_leaving r ≤ places → (p : ℕ) → outlook s r prefers t ≡ Cramped p → ⊥
  not_cramped e t h room p a =
      let m = means_at s laws r prefers chooses t (Cramped p) a in
      omega (arith, m.3, h.length_is, used_within s laws r t.trails t.used h.whole, leaving_within s laws r t.trails t.used h.whole ok.starts ok.reaches p m.1.within)

  -- a run, from a table that is sound
  module _ (budget e : ℕ) (t : Table S) (h : Sound s r places e t) where
    abbrev after : Ran S
    after = ran_from s r prefers budget t

    after_sound : Sound s r places (e + after.expansions) after.table
    after_sound = run_sound s laws r prefers chooses places budget e t h

    means : (x : Ending) → after.ending ≡ x → EndingMeans s r prefers budget after x
    means x a = subst (EndingMeans s r prefers budget after) a (ending_means s laws r prefers chooses budget t)

    run_no_way : after.ending ≡ ending.NoWay → (ks : List ℕ) → IsChain s r ks → ⊥
    run_no_way a = none_open_no_chain s laws r prefers chooses after.table after_sound.whole (means ending.NoWay a).1

    run_not_full : simple_path_count s r + most_leaving r ≤ places → after.ending ≡ ending.Full → ⊥
    run_not_full room a = let m = means ending.Full a in not_cramped _ after.table after_sound room m.1.0 m.1.1

    -- above S no run is spent
    run_not_spent : simple_path_count s r < budget → after.ending ≡ ending.Spent → ⊥
    run_not_spent big a = omega (arith, means ending.Spent a, expansions_within _ after.table after_sound)

    run_plan : after.ending ≡ ending.Plan → (ks : List ℕ) × IsChain s r ks
    run_plan a = let m = means ending.Plan a in (_, goal_leads s laws r prefers chooses after.table after_sound.whole m.1.0 m.1.1)

    -- so in S + D places a run with a budget above S finds a plan, or that there is no way
    run_finds : simple_path_count s r + most_leaving r ≤ places → simple_path_count s r < budget → (after.ending ≡ ending.Plan) ⊎ (after.ending ≡ ending.NoWay)
    run_finds room big = go after.ending refl
      where
        go : (x : Ending) → after.ending ≡ x → (after.ending ≡ ending.Plan) ⊎ (after.ending ≡ ending.NoWay)
        go ending.Plan a = inl a
        go ending.NoWay a = inr a
        go ending.Full a = absurd (run_not_full room a)
        go ending.Spent a = absurd (run_not_spent big a)

-- ---- at one stage

module _ {S R : Type 0} (s : Ghosts S) (laws : Fair s) (q : rules.Ghosts R) (r : Repertoire S) (ok : Accepted s r) (chooses : (x : Standing S R) → Chooses s (prefers_by s q x)) (places : ℕ) where
  module _ (e : ℕ) (x : Standing S R) (trails : List (Trail S)) (k : Kept s laws q r ok chooses places e (looking x) trails) where
    abbrev from : Table S
    from = table_of x trails

    -- what a step and a run answer here
    step_answers : (step s q r x trails).answer ≡ step_answer (ahead s q r x trails)
    step_answers = ap (λ a. a.answer) (step_is s laws q r ok chooses places x trails k)

    run_answers : (budget : ℕ) → (run s q r budget x trails).answer ≡ Ok (record { expansions = (ran_from s r (prefers_by s q x) budget from).expansions; ending = (ran_from s r (prefers_by s q x) budget from).ending })
    run_answers budget = ap (λ a. a.answer) (run_is s laws q r ok chooses places x trails k budget)

    run_ends : (budget : ℕ) (end : Ending) → (ran_from s r (prefers_by s q x) budget from).ending ≡ end → EndsIn end (run s q r budget x trails).answer
    run_ends budget end a = subst (EndsIn end) (sym (run_answers budget)) a

    run_ended : (budget : ℕ) (end : Ending) → EndsIn end (run s q r budget x trails).answer → (ran_from s r (prefers_by s q x) budget from).ending ≡ end
    run_ended budget end a = subst (EndsIn end) (run_answers budget) a

    no_way_is_none : NoWayIsNone s q r x trails
    no_way_is_none = record {
      by_step = λ a. none_open_no_chain s laws r (prefers_by s q x) (chooses x) from k.sound.whole (no_way_ahead _ (sym step_answers ∙ a));
      by_run = λ budget a. run_no_way s laws r ok (prefers_by s q x) (chooses x) places budget e from k.sound (run_ended budget ending.NoWay a);
    }

    suffices : simple_path_count s r + most_leaving r ≤ places → Suffices s q r x trails
    suffices room = record {
      step_fits = λ a. let o = refused_ahead _ (subst (RefusesWith 23) step_answers a) in not_cramped s laws r ok (prefers_by s q x) (chooses x) places e from k.sound room o.0 o.1;
      run_fits = λ budget a. run_not_full s laws r ok (prefers_by s q x) (chooses x) places budget e from k.sound room (run_ended budget ending.Full a);
      finds_plan = λ budget big ks p. elim (run_finds s laws r ok (prefers_by s q x) (chooses x) places budget e from k.sound room big) [
        | inl a ↦ run_ends budget ending.Plan a
        | inr a ↦ absurd (run_no_way s laws r ok (prefers_by s q x) (chooses x) places budget e from k.sound a ks p)
      ];
      finds_no_way = λ budget big none. elim (run_finds s laws r ok (prefers_by s q x) (chooses x) places budget e from k.sound room big) [
        | inl a ↦ absurd (let p = run_plan s laws r ok (prefers_by s q x) (chooses x) places budget e from k.sound a in none p.0 p.1)
        | inr a ↦ run_ends budget ending.NoWay a
      ];
    }

  -- a plan that lies ready is the best
  plan_best : (e : ℕ) (p : Settled S R) (trails : List (Trail S)) → Kept s laws q r ok chooses places e (planned p) trails → Best s q r p trails
  plan_best e p trails k =
      let x = p.standing in
      let t = table_of x trails in
      let whole = k.sound.whole in
      let ready = k.ready.0 in
      let is : p ≡ plan_at s x trails p.place = k.ready.1 in
      let cost : p.cost ≡ (trail_at s trails p.place).cost = ap (λ y. y.cost) is in
      let held : p.held ≡ held_set s.shape x.preference.limits (trail_at s trails p.place).cost = ap (λ y. y.held) is in
      record {
        leads = goal_leads s laws r (prefers_by s q x) (chooses x) t whole p.place ready;
        costs = goal_costs s laws r (prefers_by s q x) (chooses x) t whole p.place ready ∙ sym cost;
        holds = ap (held_set s.shape x.preference.limits) cost ∙ sym held;
        none_preferred = λ ks chain. subst (λ c. prefers_by s q x (path_cost s r ks) c ≡ false) (sym cost) (goal_best s laws r (prefers_by s q x) (chooses x) t whole p.place ready ok.guided ks chain);
      }

  best_at : (e : ℕ) (stage : Stage S R) (trails : List (Trail S)) → Kept s laws q r ok chooses places e stage trails → BestAt s q r stage trails
  best_at e (looking x) trails k = no_way_is_none e x trails k
  best_at e (planned p) trails k = plan_best e p trails k

  suffices_at : (e : ℕ) (stage : Stage S R) (trails : List (Trail S)) → Kept s laws q r ok chooses places e stage trails → simple_path_count s r + most_leaving r ≤ places → SufficesAt s q r stage trails
  suffices_at e (looking x) trails k room = suffices e x trails k room
  suffices_at e (planned p) trails k room = tt

  -- ---- at all stages

  pub promised_from : (first : Standing S R) (new : List (Trail S)) → Kept s laws q r ok chooses places 0 (looking first) new → Promise s q r first new
  promised_from first new begun e stage trails y =
      let k = history_kept s laws q r ok chooses places begun y in
      record {
        best = best_at e stage trails k;
        nothing_forgotten = remembered s laws r trails (standing_of stage).used k.sound.whole;
        bounded = expansions_within s laws r ok (prefers_by s q (standing_of stage)) (chooses (standing_of stage)) places e (table_of (standing_of stage) trails) k.sound;
        suffices = λ room. suffices_at e stage trails k (subst (λ n. simple_path_count s r + most_leaving r ≤ n) k.sound.length_is room);
      }

-- ---- of what begin makes

module _ {S R : Type 0} (s : Ghosts S) (laws : Fair s) (shaped : Shaped s.no_worse s.shape) (q : rules.Ghosts R) (sound : (rule : R) → soundness.Sound (q.better rule)) (r : Repertoire S) where
  choosing : (x : Standing S R) → Chooses s (prefers_by s q x)
  choosing = prefers_chooses s laws shaped q sound

  module _ (limits : S) (rule : R) (places : List (Trail S)) (first : Standing S R) where
    new_kept : (ok : Accepted s r) → 0 < length places → Kept s laws q r ok choosing (length places) 0 (looking (new_standing r limits rule places)) (set places 0 (first_trail s r))
    new_kept ok some = record { sound = new_sound s laws r places some; fits = record { header_is = refl; links_is = refl; places_is = refl }; ready = tt }

    pub promised : (begin s r limits rule places).answer ≡ Ok first → Promise s q r first (begin s r limits rule places).trails
    unfolding begin
    promised = go (first_failing (begin_checks s r places)) refl
      where
        go : (o : Option Refusal) → first_failing (begin_checks s r places) ≡ o → (begun_by s r limits rule places o).answer ≡ Ok first → Promise s q r first (begun_by s r limits rule places o).trails
        go (Some why) e a = cc
        go None e a =
            let ok = begin_accepted s r places e in
            let is : new_standing r limits rule places ≡ first = cc in
            subst (λ x. Promise s q r x (set places 0 (first_trail s r))) is (promised_from s laws q r ok.0 choosing (length places) _ _ (new_kept ok.0 ok.1))
