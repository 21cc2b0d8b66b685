use Rattle.std.proofs.Common.{◌≡◌, ◌+◌, length, refl, ◌∙◌, ap₂, arith, length-set}
use Rattle.trails.specs.Repertoires.{held_by}
use Rattle.trails.specs.Tables.{tabled}
use Rattle.trails.specs.Expanding.{tried_below}
use Rattle.table.proofs.Expansions.{leaving_all, leaving_more, leaving_same, tried_link, passed_link, expanded_is}
use Rattle.table.proofs.expanding.expand.Goals as goal
use Rattle.table.proofs.expanding.expand.Goals.{then-link-from, else-link-from}

pub loop-k-init : goal.loop-k-init
unfolding tried_below
loop-k-init g c = (refl, omega arith, omega arith)

pub try_trail-n-requires : goal.try_trail-n-requires
try_trail-n-requires g c =
    let r = held_by c.args.repertoire in
    let one = leaving_more r _ _ c.loop-k-test.true c.link-item.is _ c.if-link-from.true in
    omega (arith, one, leaving_all g.S.Scale r c.args.trails.now _ _ (omega arith) c.index-trails-place.is (c.loop-k.k + 1), simp length-set at c.loop-k.auto.trails)

pub loop-k-preserved : goal.loop-k-preserved
loop-k-preserved g c =
    let r = held_by c.args.repertoire in
    let lt = c.loop-k-test.true in
    let read = c.link-item.is in
    elim c.if-link-from.branch [
      | then-link-from w ↦ (
        ap₂ tabled w.trails-is w.n-is ∙ tried_link g.S.Scale r _ _ lt read _ _ _ _ c.loop-k.invariant.0 w.if-link-from.true _ w.join.ensures _ w.try_trail-n.ensures.value,
        omega (arith, w.try_trail-n.ensures.grown, w.n-is),
        omega (arith, leaving_more r _ _ lt read _ w.if-link-from.true, w.try_trail-n.ensures.within, w.n-is),
      )
      | else-link-from w ↦ (
        ap₂ tabled w.trails-is w.n-is ∙ passed_link g.S.Scale r _ _ lt read _ _ _ _ c.loop-k.invariant.0 w.if-link-from.false,
        omega (arith, w.n-is),
        omega (arith, leaving_same r _ _ lt read _ w.if-link-from.false, w.n-is),
      )
    ]

pub returns-clause-value : goal.returns-clause-value
returns-clause-value g c =
    let all : c.loop-k.k ≡ length c.args.repertoire.links.now = omega arith in
    expanded_is g.S.Scale (held_by c.args.repertoire) _ _ _ _ (omega arith) c.index-trails-place.is c.loop-k.k all _ c.loop-k.invariant.0

pub returns-clause-within : goal.returns-clause-within
returns-clause-within g c =
    omega (arith, leaving_all g.S.Scale (held_by c.args.repertoire) c.args.trails.now _ _ (omega arith) c.index-trails-place.is c.loop-k.k, simp length-set at c.loop-k.auto.trails)
