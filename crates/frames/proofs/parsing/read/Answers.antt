use Rattle.std.proofs.Common.{◌≡◌, Ok, arith}
use Rattle.std.proofs.lemmas.Grind.{common_steps}
use Rattle.frames.specs.Frames.{read_line}
use Rattle.frames.proofs.Reading.{whole, said_is, length_known_body}
use Rattle.frames.proofs.RoundTrip.{read_again}
use Rattle.frames.proofs.parsing.read.Goals as goal

pub entry-requires : goal.entry-requires
entry-requires c = let p = c.in_ok-frame.ensures in whole c.in_ok-frame.frame _ _ p.2 (length_known_body c.args.text.now _ p.1)

pub returns-clause-again : goal.returns-clause-again
returns-clause-again c =
    let read : read_line c.args.text.now ≡ Ok c.entry.result = grind (arith, common_steps, said_is) in
    read_again c.args.text.now c.entry.result read
