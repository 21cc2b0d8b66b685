use Rattle.std.proofs.Common.{◌+◌, ◌≤◌, map, length, drop, sym, refl, ap, ◌∙◌, arith}
use Rattle.std.proofs.lemmas.Bool.{le-leb}
use Rattle.std.proofs.lemmas.List.{length-append}
use Rattle.frames.specs.Frames.{line_of, over}
use Rattle.sheet.specs.Sheets.{text_of}
use Rattle.sheet.proofs.Encoding.{rows_end, over_then, text_more, all_more}
use Rattle.sheet.proofs.writing.write_rows.Goals as goal

pub loop-row-preserved : goal.loop-row-preserved
loop-row-preserved g c =
    let said = g.R.Row.said in
    let rows = c.args.rows.now in
    let i = c.loop-row.row-index in
    let b = c.loop-row.buffer in
    let at = c.loop-row.at in
    let line = line_of c.entry.result in
    let rest = text_of (map said (drop (i + 1) rows)) in
    let left = text_more said rows i c.row-item.result c.entry.result c.loop-row-test.true c.row-item.is c.entry.ensures in
    let size = length-append line rest in
    let long = ap length left in
    let room : at + length line ≤ length b = omega arith in
    let fits = le-leb (at + length line) (length b) room in
    let end = rows_end (rw fits at c.in_ok-at.ensures.value) in
    let wrote = rw fits at c.write.ensures.after in (
      over_then b c.write.new.buffer _ line rest at c.in_ok-at.at end (omega arith) wrote refl ∙ ap (over b at) (sym left) ∙ c.loop-row.invariant.0,
      omega arith,
      (λ rest. c.loop-row.invariant.2 (all_more said rows i c.row-item.result c.entry.result c.loop-row-test.true c.row-item.is c.entry.ensures c.in_ok-at.ensures.back rest)),
    )
