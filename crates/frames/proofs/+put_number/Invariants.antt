use Rattle.std.proofs.Common.{length}
use Rattle.frames.proofs.+put_number.Given as goal

-- what is left to be written
abbrev pub decreases-put_number : goal.decreases-put_number
decreases-put_number l = length l.slot.now
