-- What is left gives the answer; every line has a byte, so the counts stay within the sheet.
use Rattle.std.proofs.Common.{◌≡◌, ◌+◌, ◌≤◌, length}
use Rattle.frames.specs.Lines.{lines}
use Rattle.sheet.specs.Steps.{begun, surveyed}
use Rattle.sheet.proofs.survey.Given as goal

abbrev pub invariant-loop-text : goal.invariant-loop-text
invariant-loop-text l =
    (surveyed l.survey (lines l.left) ≡ surveyed begun (lines l.sheet))
    × (l.survey.line + length l.left ≤ length l.sheet + 1)
    × (l.survey.links + length l.left ≤ length l.sheet)
    × (l.survey.guides + length l.left ≤ length l.sheet)

abbrev pub decreases-loop-text : goal.decreases-loop-text
decreases-loop-text l = length l.left
