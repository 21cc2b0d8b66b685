-- What begin comes to, from the answer of its checks.
use Rattle.std.proofs.Common.{◌≡◌, ℕ, List, length, set, Some, None, Ok, Err, Option, Result, sym, refl, ap, ◌∙◌, subst, length-set}
use Rattle.std.specs.Result.{IsErrAnd}
use Rattle.std.proofs.lemmas.Result.{err_from_is_err_and}
use Rattle.scale.specs.declared.scales.Scale.{Ghosts}
use Rattle.scale.specs.Shapes.{Shaped}
use Rattle.rule.specs.declared.rules.Rule as rules
use Rattle.rule.specs.Soundness as soundness
use Rattle.repertoire.specs.declared.refusals.Refusal.{Refusal}
use Rattle.trails.specs.declared.standings.Standing.{Standing}
use Rattle.trails.specs.declared.states.State.TheVariants.{Open}
use Rattle.trails.specs.declared.trails.Trail.{Trail}
use Rattle.trails.specs.Repertoires.{Repertoire, link_count}
use Rattle.trails.specs.Checks.{first_failing, begin_checks}
use Rattle.trails.specs.Calls.{unless_refused, Begun, begin}
use Rattle.trails.specs.Promise.{Promise}
use Rattle.trails.proofs.Invariant.{Fair}
use Rattle.trails.proofs.Promise.{promised}
use Rattle.checks.specs.Answers.{checked}
use Rattle.planner.specs.declared.searches.Search.{Search}
use Rattle.planner.specs.Answers.{standing_in}

-- ---- the answer of a list of checks

pub passed : (o : Option Refusal) {u : Unit {0}} → Ok u ≡ checked o → o ≡ None
passed None e = refl
passed (Some why) e = cc

-- they passed, and the call is done
pub served : {A : Type 0} (o : Option Refusal) {u : Unit {0}} → Ok u ≡ checked o → (refused : Refusal → A) (done : A) → unless_refused o refused done ≡ done
served o e refused done = ap (λ f. unless_refused f refused done) (passed o e)

-- one failed, and the call hands its refusal on by a `?`, where it tells so of a result
pub refused_by : {A B : Type 0} (o : Option Refusal) (why : Refusal) → Err why ≡ checked o → (answer : Result A Refusal) → IsErrAnd answer (λ y. y ≡ why) → (told : Result A Refusal → B) (done : B)
    → unless_refused o (λ y. told (Err y)) done ≡ told answer
refused_by None why e answer is told done = cc
refused_by (Some other) why e answer is told done =
    let p = err_from_is_err_and answer is in
    let same : other ≡ why = cc in
    ap (λ y. told (Err y)) (same ∙ sym p.2) ∙ ap told (sym p.1)

-- ---- begin

module _ {S R : Type 0} (s : Ghosts S) (r : Repertoire S) (limits : S) (rule : R) (trails : List (Trail S)) where
  -- the trails with one at the start, whose cost is c
  abbrev pub started : S → List (Trail S)
  started c = set trails 0 (record { motif = r.header.start; parent = 0; link = 0; cost = c; state = Open })

  pub begin_refused : (why : Refusal) → Err why ≡ checked (first_failing (begin_checks s r trails)) → (o : Result (Search S R) Refusal) → IsErrAnd o (λ y. y ≡ why) → begin s r limits rule trails ≡ record { answer = standing_in o; trails = trails }
  unfolding begin
  begin_refused why e o is = refused_by _ why e o is (λ y. record { answer = standing_in y; trails = trails }) _

  pub begin_done : {u : Unit {0}} → Ok u ≡ checked (first_failing (begin_checks s r trails)) → (c : S) → c ≡ s.neutral
      → begin s r limits rule trails ≡ record { answer = Ok (record { header = r.header; links = link_count r; places = length (started c); used = 1; preference = record { limits = limits; rule = rule } }); trails = started c }
  unfolding begin
  begin_done e c n =
      let told : ℕ → S → Begun S R = λ places x. record { answer = Ok (record { header = r.header; links = link_count r; places = places; used = 1; preference = record { limits = limits; rule = rule } }); trails = started x } in
      served (first_failing (begin_checks s r trails)) e _ _ ∙ ap (λ places. told places s.neutral) (sym (length-set trails 0 _)) ∙ ap (told (length (started c))) (sym n)

  module _ (laws : Fair s) (shaped : Shaped s.no_worse s.shape) (q : rules.Ghosts R) (sound : (rule : R) → soundness.Sound (q.better rule)) where
    pub promise_of : (x : Standing S R) (after : List (Trail S)) → begin s r limits rule trails ≡ record { answer = Ok x; trails = after } → Promise s q r x after
    promise_of x after e = subst (Promise s q r x) (ap (λ b. b.trails) e) (promised s laws shaped q sound r limits rule trails x (ap (λ b. b.answer) e))
