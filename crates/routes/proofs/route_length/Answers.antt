use Rattle.std.proofs.Common.{◌≡◌, length, ◌∙◌, arith}
use Rattle.std.proofs.lemmas.Iterator.Consumers.{YieldsList-from_first, count_from_yields_List}
use Rattle.std.proofs.lemmas.List.{length-reverse}
use Rattle.trails.specs.Tables.{trail_path}
use Rattle.routes.specs.Walks.{links_back}
use Rattle.routes.proofs.route_length.Goals as goal

pub returns : goal.returns
returns g c =
    let counted : c.count.result ≡ length (trail_path g.S.Scale c.args.trails.now c.args.place) =
    count_from_yields_List _ _ c.count.ensures.ran (YieldsList-from_first (λ x. x) (λ walk. links_back g.S.Scale walk.trails.now walk.at) _ cc)
    ∙ length-reverse (trail_path g.S.Scale c.args.trails.now c.args.place) in
    omega (arith, counted)
