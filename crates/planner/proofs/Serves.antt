-- What a call comes to, from the answer of its checks.
use Rattle.std.proofs.Common.{◌≡◌, ℕ, zero, suc, ◌<◌, ◌≤◌, ◌&&◌, ltb, List, ◌++◌, length, drop, Ok, Err, Result, sym, refl, ap, ◌∙◌, arith}
use Rattle.std.specs.Result.{IsErrAnd}
use Rattle.std.proofs.lemmas.Bool.{and_parts, ltb-true, le-leb, lt-leb, cond-true, cond-false}
use Rattle.scale.specs.declared.scales.Scale.{Ghosts}
use Rattle.rule.specs.declared.rules.Rule as rules
use Rattle.repertoire.specs.declared.refusals.Refusal.{Refusal}
use Rattle.repertoire.specs.declared.refusals.Refusal.TheVariants.{RouteTooLong, NotSettled}
use Rattle.trails.specs.declared.answers.Run.{Run}
use Rattle.trails.specs.declared.answers.Step.{Step}
use Rattle.trails.specs.declared.outlooks.Outlook.{Outlook}
use Rattle.trails.specs.declared.outlooks.Outlook.TheVariants.{NoneOpen, AtGoal, Cramped, Roomy}
use Rattle.trails.specs.declared.standings.Settled.{Settled}
use Rattle.trails.specs.declared.standings.Standing.{Standing}
use Rattle.trails.specs.declared.trails.Trail.{Trail}
use Rattle.trails.specs.Repertoires.{Repertoire, link_count}
use Rattle.trails.specs.Tables.{Table, tabled, trail_at, trail_path}
use Rattle.trails.specs.Steps.{step_answer, outlook, moved_by, ran_from}
use Rattle.trails.specs.Checks.{first_failing, is_motif, call_checks}
use Rattle.trails.specs.Calls.{After, Routed, with_used, refused, table_of, prefers_by, ahead, step_by, step, run_by, run, settle_by, settle, plan_path, route_by, route}
use Rattle.trails.proofs.Checks.{Served, call_served}
use Rattle.checks.specs.Answers.{checked}
use Rattle.routes.specs.Walks.{LeadsBack}
use Rattle.planner.specs.Answers.{settled_by}
use Rattle.planner.proofs.Begins.{passed, served, refused_by}

module _ {S R : Type 0} (s : Ghosts S) (q : rules.Ghosts R) (r : Repertoire S) (x : Standing S R) (trails : List (Trail S)) where
  pub step_refused : (why : Refusal) → Err why ≡ checked (first_failing (call_checks s r x trails)) → (o : Result Step Refusal) → IsErrAnd o (λ y. y ≡ why) → step s q r x trails ≡ record { answer = o; standing = x; trails = trails }
  unfolding step
  step_refused why e o is = refused_by _ why e o is (λ y. record { answer = y; standing = x; trails = trails }) _

  pub run_refused : (why : Refusal) → Err why ≡ checked (first_failing (call_checks s r x trails)) → (budget : ℕ) (o : Result Run Refusal) → IsErrAnd o (λ y. y ≡ why) → run s q r budget x trails ≡ record { answer = o; standing = x; trails = trails }
  unfolding run
  run_refused why e budget o is = refused_by _ why e o is (λ y. record { answer = y; standing = x; trails = trails }) _

  module _ {u : Unit {0}} (e : Ok u ≡ checked (first_failing (call_checks s r x trails))) where
    -- where so many places are used: what the code found, and the table that it left, are the step
    pub step_done : (held : ℕ) → held ≡ x.used → (o : Outlook) → o ≡ outlook s r (prefers_by s q x) (tabled trails held) → (answer : Result Step Refusal) → answer ≡ step_answer o
        → (t : Table S) → t ≡ moved_by s r (tabled trails held) o → (after : List (Trail S)) → after ≡ t.trails → step s q r x trails ≡ record { answer = answer; standing = with_used x t.used; trails = after }
    unfolding step
    step_done held h o is answer a t moved after left =
        let told : Result Step Refusal → Table S → List (Trail S) → After Step S R = λ y u ts. record { answer = y; standing = with_used x u.used; trails = ts } in
        let made : Table S → Outlook → After Step S R = λ u y. told (step_answer y) (moved_by s r u y) (moved_by s r u y).trails in
        served (first_failing (call_checks s r x trails)) e (refused x trails) (step_by s r x trails (ahead s q r x trails))
        ∙ ap (λ u. made (tabled trails u) (outlook s r (prefers_by s q x) (tabled trails u))) (sym h) ∙ ap (made (tabled trails held)) (sym is)
        ∙ ap (λ u. told (step_answer o) u u.trails) (sym moved) ∙ ap (λ y. told y t t.trails) (sym a) ∙ ap (told answer t) (sym left)

    pub run_done : (held : ℕ) → held ≡ x.used → (budget : ℕ) (answer : Run) (t : Table S) → record { expansions = answer.expansions; ending = answer.ending; table = t } ≡ ran_from s r (prefers_by s q x) budget (tabled trails held)
        → (after : List (Trail S)) → after ≡ t.trails → run s q r budget x trails ≡ record { answer = Ok answer; standing = with_used x t.used; trails = after }
    unfolding run
    run_done held h budget answer t ran after left =
        let told : List (Trail S) → After Run S R = λ ts. record { answer = Ok answer; standing = with_used x t.used; trails = ts } in
        served (first_failing (call_checks s r x trails)) e (refused x trails) (run_by x (ran_from s r (prefers_by s q x) budget (table_of x trails)))
        ∙ ap (λ u. run_by x (ran_from s r (prefers_by s q x) budget (tabled trails u))) (sym h) ∙ ap (run_by x) (sym ran) ∙ ap told (sym left)

-- ---- settle

module _ {S R : Type 0} (s : Ghosts S) (q : rules.Ghosts R) (r : Repertoire S) (x : Standing S R) (trails : List (Trail S)) where
  pub settle_refused : (why : Refusal) → Err why ≡ checked (first_failing (call_checks s r x trails)) → (o : Result ℕ Refusal) → IsErrAnd o (λ y. y ≡ why) → settle s q r x trails ≡ settled_by s x trails o
  unfolding settle
  settle_refused why e o is = refused_by _ why e o is (settled_by s x trails) _

  -- where so many places are used: by the outlook that the code found
  pub settle_served : {u : Unit {0}} → Ok u ≡ checked (first_failing (call_checks s r x trails)) → (held : ℕ) → held ≡ x.used → (o : Outlook) → o ≡ outlook s r (prefers_by s q x) (tabled trails held)
      → settle s q r x trails ≡ settle_by s x trails o
  unfolding settle
  settle_served e held h o is =
      served (first_failing (call_checks s r x trails)) e (λ y. Err (x, y)) (settle_by s x trails (ahead s q r x trails))
      ∙ ap (λ u. settle_by s x trails (outlook s r (prefers_by s q x) (tabled trails u))) (sym h) ∙ ap (settle_by s x trails) (sym is)

-- nothing is settled where the best open trail is not at the goal
pub not_settled : {S R : Type 0} (s : Ghosts S) (x : Standing S R) (trails : List (Trail S)) (o : Outlook) → ((place : ℕ) → o ≡ AtGoal place → ⊥) → settle_by s x trails o ≡ Err (x, NotSettled)
not_settled s x trails NoneOpen away = refl
not_settled s x trails (AtGoal place) away = absurd (away place refl)
not_settled s x trails (Cramped place) away = refl
not_settled s x trails (Roomy place) away = refl

-- ---- route

module _ {S R : Type 0} (s : Ghosts S) (r : Repertoire S) (p : Settled S R) (trails : List (Trail S)) (buffer : List ℕ) where
  pub route_refused : (why : Refusal) → Err why ≡ checked (first_failing (call_checks s r p.standing trails)) → (o : Result ℕ Refusal) → IsErrAnd o (λ y. y ≡ why) → route s r p trails buffer ≡ record { answer = o; buffer = buffer }
  unfolding route
  route_refused why e o is = refused_by _ why e o is (λ y. record { answer = y; buffer = buffer }) _

  module _ {u : Unit {0}} (e : Ok u ≡ checked (first_failing (call_checks s r p.standing trails))) where
    route_is : route s r p trails buffer ≡ route_by (plan_path s p trails) buffer
    unfolding route
    route_is = served (first_failing (call_checks s r p.standing trails)) e _ _

    relied : Served s r p.standing trails
    relied = call_served s r p.standing trails (passed _ e)

    lower : (i : ℕ) → 0 < i → i < p.standing.used → (trail_at s trails i).parent < i
    lower zero z l = absurd (omega arith)
    lower (suc i) z l =
        let t = trail_at s trails (suc i) in
        let right = and_parts (is_motif s r t.motif) (ltb t.link (link_count r) && ltb t.parent (suc i)) (relied.places_right (suc i) l) in
        ltb-true t.parent (suc i) (and_parts (ltb t.link (link_count r)) (ltb t.parent (suc i)) right.1).1

    -- from the plan's place the way leads back
    pub leads_back : (place : ℕ) → place ≡ p.place → p.place < p.standing.used → LeadsBack s trails place
    leads_back place at found = (omega (arith, relied.within), λ i z l. lower i z (omega arith))

    module _ (place count : ℕ) (at : place ≡ p.place) (counted : count ≡ length (trail_path s trails place)) where
      path_length : length (plan_path s p trails) ≡ count
      path_length = ap (λ i. length (trail_path s trails i)) (sym at) ∙ sym counted

      pub route_too_long : length buffer < count → route s r p trails buffer ≡ record { answer = Err RouteTooLong; buffer = buffer }
      route_too_long l = route_is ∙ cond-false _ _ _ (lt-leb (length (plan_path s p trails)) (length buffer) (omega (arith, path_length)))

      pub route_done : count ≤ length buffer → (after : List ℕ) → after ≡ trail_path s trails place ++ drop count buffer → route s r p trails buffer ≡ record { answer = Ok count; buffer = after }
      route_done l after is =
          let told : ℕ → List ℕ → Routed = λ n b. record { answer = Ok n; buffer = b } in
          let written : List ℕ → ℕ → List ℕ = λ path n. path ++ drop n buffer in
          route_is ∙ cond-true _ _ _ (le-leb (length (plan_path s p trails)) (length buffer) (omega (arith, path_length)))
          ∙ ap (λ n. told n (written (plan_path s p trails) n)) path_length
          ∙ ap (told count) (ap (λ i. written (trail_path s trails i) count) (sym at) ∙ sym is)
