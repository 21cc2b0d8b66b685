-- What lies ahead of a table, by the place of its best open trail.
use Rattle.std.proofs.Common.{◌≡◌, ℕ, ◌-◌, ◌<◌, ◌≤◌, Bool, false, eqb, List, length, get_or, take, Some, None, Option, sym, refl, ap, ◌∙◌, arith}
use Rattle.std.proofs.lemmas.List.{length-take-le}
use Rattle.std.proofs.lemmas.Bool.{cond-true, cond-false, eq-eqb, ne_eqb, le-leb, lt-leb}
use Rattle.scale.specs.declared.scales.Scale.{Ghosts}
use Rattle.trails.specs.declared.outlooks.Outlook.TheVariants.{NoneOpen, AtGoal, Cramped, Roomy}
use Rattle.trails.specs.declared.trails.Trail.{Trail}
use Rattle.trails.specs.Repertoires.{Repertoire, leaving_count}
use Rattle.trails.specs.Tables.{Table, tabled, unused}
use Rattle.trails.specs.Choosing.{best}
use Rattle.trails.specs.Steps.{motif_at, outlook_by, outlook}
use Rattle.table.specs.Chosen.{place_of}
use Rattle.table.proofs.Bests.{best_front}
use Rattle.trails.proofs.ReadTrails.{read_at}

module _ {S : Type 0} (s : Ghosts S) (r : Repertoire S) (t : Table S) where
  -- none is open
  none_chosen : (o : Option (ℕ × S)) → None ≡ place_of o → NoneOpen ≡ outlook_by s r t o
  none_chosen None e = refl
  none_chosen (Some chosen) e = cc

  -- the estimate beside the place makes no difference
  some_chosen : (place : ℕ) (o : Option (ℕ × S)) → Some place ≡ place_of o → outlook_by s r t (Some (place, s.neutral)) ≡ outlook_by s r t o
  some_chosen place None e = cc
  some_chosen place (Some chosen) e = let same : place ≡ chosen.0 = cc in ap (λ (k : ℕ). outlook_by s r t (Some (k, s.neutral))) same

module _ {S : Type 0} (s : Ghosts S) (r : Repertoire S) (prefers : S → S → Bool) (trails : List (Trail S)) (used : ℕ) (fits : used ≤ length trails) where
  -- the table that is looked at
  abbrev table : Table S
  table = tabled trails used

  -- the place that was found among the used places
  abbrev found : Option ℕ
  found = place_of (best s r prefers (tabled (take used trails) (length (take used trails))))

  -- no trail is open
  pub ahead_none : None ≡ found → NoneOpen ≡ outlook s r prefers table
  unfolding outlook
  ahead_none e = none_chosen s r table _ (e ∙ ap place_of (best_front s r prefers trails used fits))

  -- the trail x was read at the place of the best open one
  module _ (place : ℕ) (chosen : Some place ≡ found) (x : Trail S) (within : place < length (take used trails)) (read : x ≡ get_or trails place x) where
    -- its motif stands for that in the table
    motif_here : x.motif ≡ motif_at s table place
    motif_here = let front = length-take-le used trails fits in ap (λ t. t.motif) (read_at s trails place x (omega arith) read)

    -- what is said of its place is what lies ahead
    ahead : outlook_by s r table (Some (place, s.neutral)) ≡ outlook s r prefers table
    unfolding outlook
    ahead = some_chosen s r table place _ (chosen ∙ ap place_of (best_front s r prefers trails used fits))

    -- it is at the goal
    pub ahead_goal : x.motif ≡ r.header.goal → AtGoal place ≡ outlook s r prefers table
    ahead_goal goal = sym (cond-true _ _ _ (eq-eqb _ _ (sym motif_here ∙ goal))) ∙ ahead

    -- it is not, and so many links leave its motif
    module _ (away : x.motif ≡ r.header.goal → ⊥) (count : ℕ) (counted : count ≡ leaving_count r x.motif) where
      not_goal : eqb (motif_at s table place) r.header.goal ≡ false
      not_goal = ne_eqb _ _ (λ e. away (motif_here ∙ e))

      count_here : count ≡ leaving_count r (motif_at s table place)
      count_here = counted ∙ ap (leaving_count r) motif_here

      -- there is room for them
      pub ahead_roomy : count ≤ length trails - used → Roomy place ≡ outlook s r prefers table
      ahead_roomy room = sym (cond-true _ _ _ (le-leb (leaving_count r (motif_at s table place)) (unused table) (omega (arith, count_here)))) ∙ sym (cond-false _ _ _ not_goal) ∙ ahead

      -- or there is not
      pub ahead_cramped : length trails - used < count → Cramped place ≡ outlook s r prefers table
      ahead_cramped full = sym (cond-false _ _ _ (lt-leb (leaving_count r (motif_at s table place)) (unused table) (omega (arith, count_here)))) ∙ sym (cond-false _ _ _ not_goal) ∙ ahead
