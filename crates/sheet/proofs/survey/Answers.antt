use Rattle.frames.specs.Lines.{lines}
use Rattle.sheet.proofs.survey.Goals as goal

pub returns : goal.returns
unfolding lines
returns c = rw c.in_default.ensures at c.loop-text.invariant.0
