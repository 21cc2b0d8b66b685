-- Which of two costs a preference prefers.
use Rattle.std.specs.Prelude.{Bool}
use Rattle.scale.specs.declared.scales.Scale.{Ghosts}
use Rattle.rule.specs.declared.preferences.Preference.{Preference}
use Rattle.rule.specs.declared.rules.Rule as rules
use Rattle.rule.specs.Preferred.{preferred}

-- the first cost is preferred under its limits and by its rule
abbrev pub preferred_by : {S R : Type 0} → Ghosts S → rules.Ghosts R → Preference S R → S → S → Bool
preferred_by s q p = preferred s (q.better p.rule) p.limits
