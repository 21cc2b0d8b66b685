-- A run, step by step: what has been made so far and what is left give the whole.
use Rattle.std.proofs.Common.{◌≡◌, ℕ, suc, ◌+◌, ◌-◌, ◌<◌, Bool, Some, None, sym, ap, ◌∙◌, arith}
use Rattle.scale.specs.declared.scales.Scale.{Ghosts}
use Rattle.trails.specs.declared.answers.Ending.{Ending}
use Rattle.trails.specs.declared.answers.Ending.TheVariants.{Spent}
use Rattle.trails.specs.declared.outlooks.Outlook.{Outlook}
use Rattle.trails.specs.declared.outlooks.Outlook.TheVariants.{NoneOpen, AtGoal, Cramped, Roomy}
use Rattle.trails.specs.Repertoires.{Repertoire}
use Rattle.trails.specs.Tables.{Table}
use Rattle.trails.specs.Expanding.{expanded}
use Rattle.trails.specs.Steps.{outlook, moved_by, Ran, goes_on, ran_from}
use Rattle.planner.specs.Endings.{ending_by}

-- a run behind so many expansions
abbrev pub behind : {S : Type 0} → ℕ → Ran S → Ran S
behind made rest = record { expansions = made + rest.expansions; ending = rest.ending; table = rest.table }

module _ {S : Type 0} (s : Ghosts S) (r : Repertoire S) (prefers : S → S → Bool) (budget : ℕ) (start : Table S) where
  -- after so many expansions the table is this one, and the rest of the run gives the whole
  abbrev pub GoneOn : ℕ → Table S → Type 0
  GoneOn made t = behind made (ran_from s r prefers (budget - made) t) ≡ ran_from s r prefers budget start

  -- a step from there, to the table after
  module _ (made : ℕ) (lt : made < budget) (t : Table S) (gone : GoneOn made t) (o : Outlook) (ahead : o ≡ outlook s r prefers t) (after : Table S) (moved : after ≡ moved_by s r t o) where
    -- the rest of the run behind that step
    abbrev rest : Table S → Ran S
    rest = ran_from s r prefers (budget - (made + 1))

    onward : behind made (goes_on o t (λ place. rest (expanded s r place t))) ≡ ran_from s r prefers budget start
    unfolding ran_from
    onward =
        let one : budget - made ≡ suc (budget - (made + 1)) = omega arith in
        ap (λ x. behind made (goes_on x t (λ place. rest (expanded s r place t)))) ahead ∙ ap (λ n. behind made (ran_from s r prefers n t)) (sym one) ∙ gone

    -- it ends here
    pub gone_ended : (e : Ending) → Some e ≡ ending_by o → record { expansions = made; ending = e; table = after } ≡ ran_from s r prefers budget start
    gone_ended e is = ap (λ x. record { expansions = made; ending = e; table = x }) moved ∙ ended o is ∙ onward
      where
        ended : (o : Outlook) → Some e ≡ ending_by o → record { expansions = made; ending = e; table = moved_by s r t o } ≡ behind made (goes_on o t (λ place. rest (expanded s r place t)))
        ended NoneOpen is = let none : made ≡ made + 0 = omega arith in cc
        ended (AtGoal p) is = let none : made ≡ made + 0 = omega arith in cc
        ended (Cramped p) is = let none : made ≡ made + 0 = omega arith in cc
        ended (Roomy p) is = cc

    -- it goes on
    pub gone_more : None ≡ ending_by o → GoneOn (made + 1) after
    gone_more is = ap (λ x. behind (made + 1) (rest x)) moved ∙ more o is ∙ onward
      where
        more : (o : Outlook) → None ≡ ending_by o → behind (made + 1) (rest (moved_by s r t o)) ≡ behind made (goes_on o t (λ place. rest (expanded s r place t)))
        more NoneOpen is = cc
        more (AtGoal p) is = cc
        more (Cramped p) is = cc
        more (Roomy p) is = let one : made + 1 + (rest (expanded s r p t)).expansions ≡ made + suc (rest (expanded s r p t)).expansions = omega arith in cc

  -- the budget is spent
  pub gone_all : (made : ℕ) → made ≡ budget → (t : Table S) → GoneOn made t → record { expansions = budget; ending = Spent; table = t } ≡ ran_from s r prefers budget start
  unfolding ran_from
  gone_all made all t gone =
      let told : ℕ → Ran S = λ n. record { expansions = n; ending = Spent; table = t } in
      let whole : budget ≡ made + 0 = omega arith in
      let nothing : 0 ≡ budget - made = omega arith in
      ap told whole ∙ ap (λ n. behind made (ran_from s r prefers n t)) nothing ∙ gone
