-- The lines that are left, written over the buffer, give the answer.
use Rattle.std.proofs.Common.{◌≡◌, ◌+◌, map, length, drop}
use Rattle.std.specs.List.{AllByRecursion}
use Rattle.frames.specs.Frames.{over, ReadsBack}
use Rattle.sheet.specs.Sheets.{text_of}
use Rattle.sheet.proofs.writing.write_rows.Given as goal

abbrev pub invariant-loop-row : goal.invariant-loop-row
invariant-loop-row g l =
    let said = g.R.Row.said in
    (over l.buffer l.at (text_of (map said (drop l.row-index l.rows))) ≡ over l.initial.buffer l.start (text_of (map said l.rows)))
    × (l.at + length (text_of (map said (drop l.row-index l.rows))) ≡ l.start + length (text_of (map said l.rows)))
    × (AllByRecursion ReadsBack (map said (drop l.row-index l.rows)) → AllByRecursion ReadsBack (map said l.rows))
