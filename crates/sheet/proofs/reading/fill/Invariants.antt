-- What is left gives the answer; every line has a byte, so the counts stay within the sheet.
use Rattle.std.proofs.Common.{◌≡◌, ◌+◌, ◌≤◌, length}
use Rattle.frames.specs.Lines.{lines}
use Rattle.sheet.specs.Steps.{filling, empty, filled}
use Rattle.sheet.proofs.reading.fill.Given as goal

abbrev pub invariant-loop-text : goal.invariant-loop-text
invariant-loop-text l =
    (filled (filling l.contents l.links l.guides) (lines l.left) ≡ filled (filling empty l.initial.links l.initial.guides) (lines l.sheet))
    × (l.contents.links + length l.left ≤ length l.sheet)
    × (l.contents.guides + length l.left ≤ length l.sheet)

abbrev pub decreases-loop-text : goal.decreases-loop-text
decreases-loop-text l = length l.left
