-- What is left, behind the number so far, gives the answer.
use Rattle.std.proofs.Common.{◌≡◌, ◌^◌, ◌<◌, drop}
use Rattle.frames.specs.Digits.{value, value_from}
use Rattle.frames.proofs.number.Given as goal

abbrev pub invariant-loop-digit : goal.invariant-loop-digit
invariant-loop-digit l = (l.number < 16 ^ l.digit-index) × (value_from l.number (drop l.digit-index l.digits) ≡ value l.digits)
