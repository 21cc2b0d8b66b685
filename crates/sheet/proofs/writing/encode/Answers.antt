use Rattle.std.proofs.Common.{◌≤◌, length, Ok, ap, ◌∙◌, arith}
use Rattle.std.proofs.lemmas.Bool.{le-leb, lt-leb}
use Rattle.sheet.specs.Sheets.{written, records}
use Rattle.sheet.proofs.Encoding.{rows_end, two_lines, lengths, written_front, each_back}
use Rattle.sheet.proofs.RoundTrip.{read_back}
use Rattle.sheet.proofs.writing.encode.Goals as goal

pub returns-then-sheet_length-buffer : goal.returns-then-sheet_length-buffer
returns-then-sheet_length-buffer c =
    let s = records c.args.repertoire c.args.limits in
    let size = lengths s in
    let short = lt-leb (length (written s)) (length c.args.buffer.now) (omega arith) in
    record { value = rw short; after = rw short; back = tt }

pub write_rows-requires : goal.write_rows-requires
write_rows-requires c = let size = lengths (records c.args.repertoire c.args.limits) in omega arith

pub write_rows-requires-2 : goal.write_rows-requires-2
write_rows-requires-2 c =
    let size = lengths (records c.args.repertoire c.args.limits) in
    let i = rows_end c.in_ok-links_at.ensures.value in
    omega arith

pub write_rows-requires-3 : goal.write_rows-requires-3
write_rows-requires-3 c =
    let size = lengths (records c.args.repertoire c.args.limits) in
    let i = rows_end c.in_ok-links_at.ensures.value in
    let j = rows_end c.in_ok-guides_at.ensures.value in
    omega arith

pub write_rows-requires-4 : goal.write_rows-requires-4
write_rows-requires-4 c =
    let size = lengths (records c.args.repertoire c.args.limits) in
    let i = rows_end c.in_ok-links_at.ensures.value in
    let j = rows_end c.in_ok-guides_at.ensures.value in
    let k = rows_end c.in_ok-limits_at.ensures.value in
    omega (arith, two_lines)

pub returns : goal.returns
returns c =
    let b = c.args.buffer.now in
    let s = records c.args.repertoire c.args.limits in
    let size = lengths s in
    let i = rows_end c.in_ok-links_at.ensures.value in
    let j = rows_end c.in_ok-guides_at.ensures.value in
    let k = rows_end c.in_ok-limits_at.ensures.value in
    let room : length (written s) ≤ length b = omega arith in
    let fits = le-leb (length (written s)) (length b) room in
    let each = each_back s c.write_rows.ensures.back c.write_rows-2.ensures.back c.write_rows-3.ensures.back c.write_rows-4.ensures.back in
    record {
      value = rw fits (c.write_rows-4.ensures.value ∙ ap Ok (omega arith));
      after = rw fits (written_front s b _ _ _ _ _ _ _ room i j k c.write_rows.ensures.after c.write_rows-2.ensures.after c.write_rows-3.ensures.after c.write_rows-4.ensures.after);
      back = rw c.write_rows-4.ensures.value (λ p q h l. read_back p q s each h l);
    }
