-- What every rule keeps.
use Rattle.std.specs.Prelude.{◌≡◌, ℕ, ◌<◌, Bool, true, false, ◌⊎◌}
use Rattle.scale.specs.Shapes.{Contains}
use Rattle.rule.specs.declared.verdicts.Verdict.{Verdict}
use Rattle.rule.specs.declared.verdicts.Verdict.TheVariants.{First, Second, Equal}

-- a held set is a byte
abbrev pub IsSet : ℕ → Type 0
IsSet a = a < 256

-- "at least as good": the other is not better
abbrev pub AsGood : (ℕ → ℕ → Bool) → ℕ → ℕ → Type 0
AsGood better a b = better b a ≡ false

-- "at least as good" is total and carries on, and a set that contains another is at least as good
pub record Sound (better : ℕ → ℕ → Bool) : Type 0 where
  pub total : (a b : ℕ) → IsSet a → IsSet b → AsGood better a b ⊎ AsGood better b a
  pub carries : (a b c : ℕ) → IsSet a → IsSet b → IsSet c → AsGood better a b → AsGood better b c → AsGood better a c
  pub contains : (a b : ℕ) → IsSet a → IsSet b → Contains a b → AsGood better a b

-- the answer for two sets, from whether the first is better and whether the second is
abbrev pub verdict : Bool → Bool → Verdict
verdict true second = First
verdict false true = Second
verdict false false = Equal
