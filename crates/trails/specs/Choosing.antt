-- The best open trail.
use Rattle.std.specs.Prelude.{◌≡◌, ℕ, zero, suc, ◌<◌, Bool, true, false, cond, ◌&&◌, Some, None, Option, ◌≢◌}
use Rattle.scale.specs.declared.scales.Scale.{Ghosts}
use Rattle.trails.specs.declared.states.State.TheVariants.{Open}
use Rattle.trails.specs.Repertoires.{Repertoire}
use Rattle.trails.specs.Tables.{is_open, Table, trail_at, estimate}

-- whether an open trail with this estimate goes before the best one at the places before it: only where its estimate is
-- preferred, so that among several the lowest place stays
abbrev pub goes_first : {S : Type 0} → (S → S → Bool) → S → Option (ℕ × S) → Bool
goes_first prefers e None = true
goes_first prefers e (Some best) = prefers e best.1

-- the estimate of the trail at a place
abbrev pub estimate_at : {S : Type 0} → Ghosts S → Repertoire S → Table S → ℕ → S
estimate_at s r t i = estimate s r (trail_at s t.trails i)

module _ {S : Type 0} (s : Ghosts S) (r : Repertoire S) (prefers : S → S → Bool) (t : Table S) where
  -- the better of the best so far and the trail at place i
  abbrev pub better : ℕ → Option (ℕ × S) → Option (ℕ × S)
  better i best = cond (is_open (trail_at s t.trails i).state && goes_first prefers (estimate_at s r t i) best) (Some (i, estimate_at s r t i)) best

  -- the best open trail of the first n places, with its estimate
  unfoldable pub best_below : ℕ → Option (ℕ × S)
  best_below zero = None
  best_below (suc n) = better n (best_below n)

  unfoldable pub best : Option (ℕ × S)
  best = best_below t.used

  -- ---- what the best open trail is, in other words

  -- of the first n places: it is open, no open estimate is preferred to its own, and its own is preferred to those of the
  -- open trails at lower places
  pub record IsBest (n : ℕ) (place : ℕ) (its_estimate : S) : Type 0 where
    pub within : place < n
    pub opened : (trail_at s t.trails place).state ≡ Open
    pub estimated : its_estimate ≡ estimate_at s r t place
    pub none_preferred : (i : ℕ) → i < n → (trail_at s t.trails i).state ≡ Open → prefers (estimate_at s r t i) its_estimate ≡ false
    pub lowest : (i : ℕ) → i < place → (trail_at s t.trails i).state ≡ Open → prefers its_estimate (estimate_at s r t i) ≡ true

  -- there is a best one, or none of the first n is open
  abbrev pub Chosen : ℕ → Option (ℕ × S) → Type 0
  Chosen n None = (i : ℕ) → i < n → (trail_at s t.trails i).state ≢ Open
  Chosen n (Some best) = IsBest n best.0 best.1
