-- The cost of weaving, and of a change of harness.
use Rattle.std.specs.Prelude.{ℕ}
use Rattle.scale.specs.declared.grades.Grade.{Grade}
use Rattle.scale.specs.declared.pairs.Pair.{Pair}
use Rattle.scale.specs.declared.peaks.Peak.{Peak}
use Rattle.scale.specs.declared.tallies.Tally.{Tally}
use Rattle.scale.specs.declared.yarns.YarnSet.{YarnSet}

-- longest float, yarns used, picks
abbrev pub WeaveCost : Type 0
WeaveCost = Pair Peak (Pair YarnSet Tally)

-- the cost of these three numbers
abbrev pub woven : ℕ → ℕ → ℕ → WeaveCost
woven float yarns picks = record { first = record { value = float }; second = record { first = record { bits = yarns }; second = record { value = picks } } }

-- grade of work, hooks retied
abbrev pub HarnessCost : Type 0
HarnessCost = Pair Grade Tally

abbrev pub harnessed : Grade → ℕ → HarnessCost
harnessed work hooks = record { first = work; second = record { value = hooks } }
