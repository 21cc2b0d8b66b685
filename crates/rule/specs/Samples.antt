-- Two samples, checked by evaluation.
use Rattle.std.specs.Prelude.{◌≡◌, ℕ, true, false}
use Rattle.scale.specs.declared.yarns.YarnSet.{YarnSet}
use Rattle.scale.specs.Measures.{together, within, no_more_yarns}
use Rattle.rule.specs.Rules.{ladder, more}

abbrev pub yarns : ℕ → YarnSet
yarns n = record { bits = n }

-- Yarns {0} are liked over {1, 2}, and neither is no worse. After joining {1, 2} to each, {1, 2} is liked over {0, 1, 2}:
-- liking need not last when costs grow, and no worse does.
pub record YarnSample : Type 0 where
  pub liked : no_more_yarns (yarns 1) (yarns 6) ≡ true
  pub not_liked : no_more_yarns (yarns 6) (yarns 1) ≡ false
  pub not_within : within (yarns 1) (yarns 6) ≡ false
  pub not_around : within (yarns 6) (yarns 1) ≡ false
  pub one : together (yarns 1) (yarns 6) ≡ yarns 7
  pub two : together (yarns 6) (yarns 6) ≡ yarns 6
  pub liked_then : no_more_yarns (yarns 6) (yarns 7) ≡ true
  pub not_liked_then : no_more_yarns (yarns 7) (yarns 6) ≡ false

-- Of held sets 3 and 6 the ladder takes 3, and count finds them equal.
pub record RuleSample : Type 0 where
  pub ladder_takes : ladder 8 3 6 ≡ true
  pub ladder_leaves : ladder 8 6 3 ≡ false
  pub count_takes : more 3 6 ≡ false
  pub count_leaves : more 6 3 ≡ false
