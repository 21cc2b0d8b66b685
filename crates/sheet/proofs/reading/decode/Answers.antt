use Rattle.std.proofs.Common.{◌≡◌, length, Ok, sym, ap, ◌∙◌, arith}
use Rattle.std.proofs.lemmas.Result.{err_from_is_err_and}
use Rattle.frames.specs.Lines.{lines}
use Rattle.sheet.specs.Sheets.{decoded, gathered, entries_in}
use Rattle.sheet.proofs.Fills.{filled_sheet}
use Rattle.sheet.proofs.RoundTrip.{again, accepted_rows}
use Rattle.sheet.proofs.Walks.{unframed_decides, survey_decides, faulted, faultless}
use Rattle.sheet.proofs.reading.decode.Goals as goal

pub returns-in_err-survey : goal.returns-in_err-survey
returns-in_err-survey c =
    let m = length c.args.links.now in
    let n = length c.args.guides.now in
    let d = unframed_decides m n c.args.sheet.now _ (sym c.in_err-survey.ensures) in
    let p = err_from_is_err_and c.from_residual.result c.from_residual.ensures.1 in
    record { value = rw (p.1, p.2, d); links = rw d; guides = rw d; within = rw p.1 tt; again = again m n c.args.sheet.now }

pub returns-in_err-check : goal.returns-in_err-check
returns-in_err-check c =
    let m = length c.args.links.now in
    let n = length c.args.guides.now in
    let v = survey_decides m n c.args.sheet.now _ (sym c.in_ok-survey.ensures) in
    let d = v.1 ∙ faulted _ _ _ (sym c.in_err-check.ensures) in
    let p = err_from_is_err_and c.from_residual-in_err-check.result c.from_residual-in_err-check.ensures.1 in
    record { value = rw (p.1, p.2, d); links = rw d; guides = rw d; within = rw p.1 tt; again = again m n c.args.sheet.now }

pub returns : goal.returns
returns c =
    let s = c.args.sheet.now in
    let m = length c.args.links.now in
    let n = length c.args.guides.now in
    let v = survey_decides m n s _ (sym c.in_ok-survey.ensures) in
    let d : decoded m n s ≡ Ok (gathered (entries_in (lines s))) = v.1 ∙ faultless _ _ _ (sym c.in_ok-check.ensures) in
    let rows = accepted_rows m n s _ d in
    let f = c.fill.ensures ∙ filled_sheet c.args.links.now c.args.guides.now (lines s) v.0 rows.0 rows.1 in
    record {
      value = rw d (ap (λ x. Ok x.contents) f);
      links = rw d (ap (λ x. x.links) f);
      guides = rw d (ap (λ x. x.guides) f);
      within = (omega (arith, ap (λ x. x.contents.links) f, rows.0), omega (arith, ap (λ x. x.contents.guides) f, rows.1));
      again = again m n s;
    }
