-- How a run ends for what lies ahead.
use Rattle.std.specs.Prelude.{Some, None, Option}
use Rattle.trails.specs.declared.answers.Ending.{Ending}
use Rattle.trails.specs.declared.answers.Ending.TheVariants.{Plan, NoWay, Full}
use Rattle.trails.specs.declared.outlooks.Outlook.{Outlook}
use Rattle.trails.specs.declared.outlooks.Outlook.TheVariants.{NoneOpen, AtGoal, Cramped, Roomy}

-- the ending, unless the best open trail can be expanded
abbrev pub ending_by : Outlook → Option Ending
ending_by NoneOpen = Some NoWay
ending_by (AtGoal place) = Some Plan
ending_by (Cramped place) = Some Full
ending_by (Roomy place) = None
