use Rattle.std.proofs.Common.{◌≡◌, length, refl, ap, ◌∙◌, arith, rules}
use Rattle.rule.specs.Preferences.{preferred_by}
use Rattle.trails.specs.Repertoires.{held_by}
use Rattle.trails.specs.Tables.{tabled}
use Rattle.trails.specs.Choosing.{best_below, best}
use Rattle.table.specs.Chosen.{place_of}
use Rattle.table.proofs.Bests.{place_mapped, best_more, best_is, best_within}
use Rattle.table.proofs.choosing.best_open.Goals as goal

pub loop-place-init : goal.loop-place-init
unfolding best_below
loop-place-init g c = refl

pub loop-place-preserved : goal.loop-place-preserved
loop-place-preserved g c = c.better_of-best.ensures ∙ best_more g.S.Scale _ _ _ _ _ _ c.loop-place-test.true c.index-used-place.is _ c.loop-place.invariant

pub returns : goal.returns
returns g c =
    let r = held_by c.args.repertoire in
    let prefers = preferred_by g.S.Scale g.R.Rule c.args.preference.now in
    let used = c.args.used.now in
    let value : c.map.result ≡ place_of (best g.S.Scale r prefers (tabled used (length used))) =
    place_mapped (λ x k p. search rules) c.loop-place.best c.map.result c.map.ensures.cases ∙ ap place_of (best_is g.S.Scale r prefers used (length used) _ (omega arith) _ c.loop-place.invariant) in
    record { value = value; within = rw value (best_within g.S.Scale r prefers used (length used)) }
