-- Steps and runs on a table: what they keep, and what their answers tell.
use Rattle.std.proofs.Common.{◌≡◌, ℕ, zero, suc, ◌+◌, ◌≤◌, Bool, true, false, cond, eqb, leb, List, length, Some, None, Option, refl, ap, ◌∙◌, subst, arith}
use Rattle.std.proofs.lemmas.Bool.{eqb-true, eqb-false, leb-true, leb-false}
use Rattle.scale.specs.declared.scales.Scale.{Ghosts}
use Rattle.trails.specs.declared.answers.Ending.{Ending}
use Rattle.trails.specs.declared.answers.Ending.TheVariants as ending
use Rattle.trails.specs.Repertoires.{Repertoire, leaving_count}
use Rattle.trails.specs.Paths.{path_cost, IsChain}
use Rattle.trails.specs.Tables.{Table, trail_at, trail_path, unused}
use Rattle.trails.specs.Choosing.{best, Chosen}
use Rattle.trails.specs.Expanding.{expanded}
use Rattle.trails.specs.declared.outlooks.Outlook.{Outlook}
use Rattle.trails.specs.declared.outlooks.Outlook.TheVariants.{NoneOpen, AtGoal, Cramped, Roomy}
use Rattle.trails.specs.Steps.{step_answer, step_expansions, motif_at, outlook_by, outlook, OutlookMeans, moved_by, Ran, goes_on, ran_from, EndingMeans}
use Rattle.trails.proofs.Invariant.{Fair, Whole, open_count}
use Rattle.trails.proofs.Paths.{Guided, grows_worse, guide_admits}
use Rattle.trails.proofs.TrailPaths.{trail_leads, trail_costs}
use Rattle.trails.proofs.Following.{continued}
use Rattle.trails.proofs.Choosing.{Chooses, chosen}
use Rattle.trails.proofs.Expanding.{expanded_keeps}

-- what holds of a table with so many places after e expansions
pub record Sound {S : Type 0} (s : Ghosts S) (r : Repertoire S) (places e : ℕ) (t : Table S) : Type 0 where
  pub whole : Whole s r t.trails t.used
  pub counted : e + open_count s t.trails t.used ≤ t.used
  pub length_is : length t.trails ≡ places

module _ {S : Type 0} (s : Ghosts S) (laws : Fair s) (r : Repertoire S) (prefers : S → S → Bool) (chooses : Chooses s prefers) where
  -- ---- what lies ahead

  means_by : (t : Table S) (o : Option (ℕ × S)) → Chosen s r prefers t t.used o → OutlookMeans s r prefers t (outlook_by s r t o)
  means_by t None none = none
  means_by t (Some b) is = go (eqb (motif_at s t b.0) r.header.goal) refl (leb (leaving_count r (motif_at s t b.0)) (unused t)) refl
    where
      go : (x : Bool) → eqb (motif_at s t b.0) r.header.goal ≡ x → (y : Bool) → leb (leaving_count r (motif_at s t b.0)) (unused t) ≡ y
          → OutlookMeans s r prefers t (cond x (AtGoal b.0) (cond y (Roomy b.0) (Cramped b.0)))
      go true ex y ey = (b.1, is, eqb-true _ _ ex)
      go false ex true ey = (b.1, is, eqb-false _ _ ex, leb-true _ _ ey)
      go false ex false ey = (b.1, is, eqb-false _ _ ex, leb-false _ _ ey)

  pub outlook_means : (t : Table S) → OutlookMeans s r prefers t (outlook s r prefers t)
  unfolding outlook
  outlook_means t = means_by t (best s r prefers t) (chosen s r prefers chooses laws.reflexive t)

  pub means_at : (t : Table S) (o : Outlook) → outlook s r prefers t ≡ o → OutlookMeans s r prefers t o
  means_at t o e = subst (OutlookMeans s r prefers t) e (outlook_means t)

  -- ---- a step keeps what holds

  module _ (places : ℕ) where
    sound_at : (e d : ℕ) (t : Table S) → d ≡ e → Sound s r places e t → Sound s r places d t
    sound_at e d t x h = rw x h

    sound_expanded : (e : ℕ) (t : Table S) (p : ℕ) → OutlookMeans s r prefers t (Roomy p) → Sound s r places e t → Sound s r places (suc e) (expanded s r p t)
    sound_expanded e t p m h =
        let is = m.1 in
        let k = expanded_keeps s laws r p t h.whole is.within is.opened m.2 (omega (arith, m.3, h.whole.grown.within)) in
        record { whole = k.whole; counted = k.counted e h.counted; length_is = k.length_is ∙ h.length_is }

    sound_moved : (e : ℕ) (t : Table S) (o : Outlook) → OutlookMeans s r prefers t o → Sound s r places e t → Sound s r places (e + step_expansions (step_answer o)) (moved_by s r t o)
    sound_moved e t NoneOpen m h = sound_at e _ t (omega arith) h
    sound_moved e t (AtGoal p) m h = sound_at e _ t (omega arith) h
    sound_moved e t (Cramped p) m h = sound_at e _ t (omega arith) h
    sound_moved e t (Roomy p) m h = sound_at (suc e) _ (expanded s r p t) (omega arith) (sound_expanded e t p m h)

    pub step_sound : (e : ℕ) (t : Table S) → Sound s r places e t → Sound s r places (e + step_expansions (step_answer (outlook s r prefers t))) (moved_by s r t (outlook s r prefers t))
    step_sound e t h = sound_moved e t _ (outlook_means t) h

    -- ---- a run keeps what holds

    pub run_sound : (budget e : ℕ) (t : Table S) → Sound s r places e t → Sound s r places (e + (ran_from s r prefers budget t).expansions) (ran_from s r prefers budget t).table
    unfolding ran_from
    run_sound zero e t h = sound_at e _ t (omega arith) h
    run_sound (suc n) e t h = go (outlook s r prefers t) (outlook_means t) (λ p m. run_sound n (suc e) (expanded s r p t) (sound_expanded e t p m h))
      where
        rest : ℕ → Ran S
        rest p = ran_from s r prefers n (expanded s r p t)

        go : (o : Outlook) → OutlookMeans s r prefers t o → ((p : ℕ) → OutlookMeans s r prefers t (Roomy p) → Sound s r places (suc e + (rest p).expansions) (rest p).table)
            → Sound s r places (e + (goes_on o t rest).expansions) (goes_on o t rest).table
        go NoneOpen m ih = sound_at e _ t (omega arith) h
        go (AtGoal p) m ih = sound_at e _ t (omega arith) h
        go (Cramped p) m ih = sound_at e _ t (omega arith) h
        go (Roomy p) m ih = sound_at _ _ (rest p).table (omega arith) (ih p m)

  -- ---- what the ending of a run tells

  means_further : (n : ℕ) (ran : Ran S) (x : Ending) → EndingMeans s r prefers n ran x → EndingMeans s r prefers (suc n) (record { expansions = suc ran.expansions; ending = ran.ending; table = ran.table }) x
  means_further n ran ending.Plan m = (omega (arith, m.0), m.1)
  means_further n ran ending.NoWay m = (omega (arith, m.0), m.1)
  means_further n ran ending.Full m = (omega (arith, m.0), m.1)
  means_further n ran ending.Spent m = ap suc m

  pub ending_means : (budget : ℕ) (t : Table S) → EndingMeans s r prefers budget (ran_from s r prefers budget t) (ran_from s r prefers budget t).ending
  unfolding ran_from
  ending_means zero t = refl
  ending_means (suc n) t = go (outlook s r prefers t) refl (λ p. ending_means n (expanded s r p t))
    where
      rest : ℕ → Ran S
      rest p = ran_from s r prefers n (expanded s r p t)

      go : (o : Outlook) → outlook s r prefers t ≡ o → ((p : ℕ) → EndingMeans s r prefers n (rest p) (rest p).ending) → EndingMeans s r prefers (suc n) (goes_on o t rest) (goes_on o t rest).ending
      go NoneOpen e ih = (omega arith, e)
      go (AtGoal p) e ih = (omega arith, (p, e))
      go (Cramped p) e ih = (omega arith, (p, e))
      go (Roomy p) e ih = means_further n (rest p) (rest p).ending (ih p)

  -- ---- the answers are right

  -- with no open trail there is no path from start to goal
  pub none_open_no_chain : (t : Table S) → Whole s r t.trails t.used → outlook s r prefers t ≡ NoneOpen → (ks : List ℕ) → IsChain s r ks → ⊥
  none_open_no_chain t whole e ks p = let c = continued s laws r t.trails t.used whole ks p in means_at t NoneOpen e c.place c.within c.opened

  module _ (t : Table S) (whole : Whole s r t.trails t.used) (p : ℕ) (ready : outlook s r prefers t ≡ AtGoal p) where
    -- the best open trail's path leads to the goal, at its cost
    pub goal_leads : IsChain s r (trail_path s t.trails p)
    goal_leads = let m = means_at t (AtGoal p) ready in rw m.2 at (trail_leads s r t.trails t.used whole.grown p m.1.within)

    pub goal_costs : path_cost s r (trail_path s t.trails p) ≡ (trail_at s t.trails p).cost
    goal_costs = trail_costs s r t.trails t.used whole.grown p (means_at t (AtGoal p) ready).1.within

    -- No path from start to goal is preferred: some open estimate is no worse than its cost, none is preferred to that of
    -- the best open trail, and this estimate is not preferred to the trail's cost, which is no worse.
    pub goal_best : Guided s r → (ks : List ℕ) → IsChain s r ks → prefers (path_cost s r ks) (trail_at s t.trails p).cost ≡ false
    goal_best guided ks chain =
        let m = means_at t (AtGoal p) ready in
        let is = m.1 in
        let c = continued s laws r t.trails t.used whole ks chain in
        let cost : S = (trail_at s t.trails p).cost in
        let admits = guide_admits s r laws guided (trail_at s t.trails c.place).motif (trail_at s t.trails c.place).cost c.rest c.leads in
        let own : prefers m.0 cost ≡ false = rw is.estimated (chooses.no_worse _ _ (grows_worse s r laws cost _)) in
        chooses.carries _ _ _ (chooses.carries _ _ _ (chooses.no_worse _ _ (laws.transitive _ _ _ admits c.no_worse)) (is.none_preferred c.place c.within c.opened)) own
