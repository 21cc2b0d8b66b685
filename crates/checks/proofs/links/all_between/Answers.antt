use Rattle.std.proofs.Common.{◌∙◌, rules, tests}
use Rattle.std.proofs.lemmas.Iterator.{YieldsList-from_slice}
use Rattle.std.proofs.lemmas.Iterator.Search.{all_from_yields_List}
use Rattle.trails.specs.Checks.{is_between_motifs}
use Rattle.trails.specs.Repertoires.{held_by}
use Rattle.checks.proofs.Rows.{all_of_row}
use Rattle.checks.proofs.links.all_between.Goals as goal

pub returns : goal.returns
returns g c =
    let q = is_between_motifs g.S.Scale (held_by c.args.repertoire) in
    let links = c.args.repertoire.links.now in
    all_from_yields_List q _ _ c.all.result c.all.ensures.ran (YieldsList-from_slice links cc) (λ x b f k. search (rules, tests))
    ∙ all_of_row q links _
