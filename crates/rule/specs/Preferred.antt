-- Which of two costs is preferred.
use Rattle.std.specs.Prelude.{◌≡◌, ℕ, Bool, true, false, cond, not, ◌⊎◌}
use Rattle.scale.specs.declared.scales.Scale.{Ghosts}
use Rattle.scale.specs.Shapes.{held_set}

module _ {S : Type 0} (s : Ghosts S) (better : ℕ → ℕ → Bool) (limits : S) where
  -- the first cost is preferred: its held set is better, or the sets are equal and the second isn't liked as well
  abbrev pub preferred : S → S → Bool
  preferred x y = cond (better (held_set s.shape limits x) (held_set s.shape limits y)) true (cond (better (held_set s.shape limits y) (held_set s.shape limits x)) false (not (s.liked y x)))

  -- Preferred is a strict order whose "not preferred" is total and carries on, and no cost is preferred to one that is no
  -- worse than it.
  pub record Orders : Type 0 where
    pub asymmetric : (x y : S) → preferred x y ≡ true → preferred y x ≡ false
    pub transitive : (x y z : S) → preferred x y ≡ true → preferred y z ≡ true → preferred x z ≡ true
    pub total : (x y : S) → (preferred x y ≡ false) ⊎ (preferred y x ≡ false)
    pub carries : (x y z : S) → preferred y x ≡ false → preferred z y ≡ false → preferred z x ≡ false
    pub no_worse : (x y : S) → s.no_worse x y ≡ true → preferred y x ≡ false
