use Rattle.std.proofs.Common.{◌≡◌, ◌+◌, length, rules, tests, ◌==◌}
use Rattle.std.specs.List.{position}
use Rattle.std.specs.Option.{MatchOption}
use Rattle.std.proofs.lemmas.Iterator.{YieldsList-from_slice}
use Rattle.std.proofs.lemmas.Iterator.Search.{position_from_yields_List}
use Rattle.frames.proofs.Cuts.{line_end_found}
use Rattle.frames.proofs.lines.line_end.Goals as goal

pub returns-clause-value : goal.returns-clause-value
returns-clause-value c =
    let s = c.args.sheet.now in
    let found : c.position.result ≡ position (λ b. b == 10) s =
    position_from_yields_List (λ b. b == 10) _ _ c.position.result c.position.ensures.ran (YieldsList-from_slice s cc) (λ x b q k. search (rules, tests)) in
    let end : MatchOption c.position.result (c.map_or.result ≡ length s) (λ i. c.map_or.result ≡ i + 1) = search rules in
    line_end_found s c.position.result c.map_or.result found end
