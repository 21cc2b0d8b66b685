-- What every scale keeps.
use Rattle.std.specs.Prelude.{◌≡◌, Bool, true, ◌⊎◌}

-- Joining "x then y", "no worse" and "liked as well as" keep these laws, and no others are asked.
pub record Laws {S : Type 0} (neutral : S) (joined : S → S → S) (no_worse : S → S → Bool) (liked : S → S → Bool) : Type 0 where
  -- joining is associative, and neutral changes no value on either side
  pub assoc : (x y z : S) → joined (joined x y) z ≡ joined x (joined y z)
  pub left : (x : S) → joined neutral x ≡ x
  pub right : (x : S) → joined x neutral ≡ x
  -- no worse holds of a value and itself, and carries on
  pub reflexive : (x : S) → no_worse x x ≡ true
  pub transitive : (x y z : S) → no_worse x y ≡ true → no_worse y z ≡ true → no_worse x z ≡ true
  -- neutral is no worse than any value
  pub least : (x : S) → no_worse neutral x ≡ true
  -- joining a third value in front or behind keeps no worse
  pub before : (x y z : S) → no_worse x y ≡ true → no_worse (joined z x) (joined z y) ≡ true
  pub behind : (x y z : S) → no_worse x y ≡ true → no_worse (joined x z) (joined y z) ≡ true
  -- of two values at least one is liked as well as the other, and liking carries on
  pub total : (x y : S) → (liked x y ≡ true) ⊎ (liked y x ≡ true)
  pub carries : (x y z : S) → liked x y ≡ true → liked y z ≡ true → liked x z ≡ true
  -- a value no worse than another is liked as well as it
  pub agrees : (x y : S) → no_worse x y ≡ true → liked x y ≡ true
