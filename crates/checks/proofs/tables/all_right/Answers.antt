use Rattle.std.proofs.Common.{◌∙◌, rules, tests}
use Rattle.std.proofs.lemmas.Iterator.{YieldsList-from_slice}
use Rattle.std.proofs.lemmas.Iterator.Consumers.{YieldsList-from_enumerate}
use Rattle.std.proofs.lemmas.Iterator.Search.{all_from_yields_List}
use Rattle.trails.specs.Repertoires.{held_by}
use Rattle.checks.specs.Answers.{is_right}
use Rattle.checks.proofs.Rows.{all_of_places}
use Rattle.checks.proofs.tables.all_right.Goals as goal

pub returns : goal.returns
returns g c =
    let r = held_by c.args.repertoire in
    let used = c.args.used.now in
    all_from_yields_List (λ x. is_right g.S.Scale r x.1 x.0) _ _ c.all.result c.all.ensures.ran (YieldsList-from_enumerate (YieldsList-from_slice used cc) cc) (λ x b f k. search (rules, tests))
    ∙ all_of_places g.S.Scale r used
