use Rattle.std.proofs.Common.{◌≤◌, length, ◌∙◌, arith}
use Rattle.std.proofs.lemmas.Bool.{eq-eqb, le-leb}
use Rattle.trails.specs.Repertoires.{held_by}
use Rattle.checks.proofs.Rows.{used_alone}
use Rattle.checks.proofs.tables.is_same_table.Goals as goal

pub returns-then-used-trails : goal.returns-then-used-trails
returns-then-used-trails g c =
    let there : c.from-used.result ≤ length c.args.trails.now = omega arith in
    rw (← c.from-used.ensures, ← c.from.ensures, eq-eqb _ _ c.if-used-trails.true.0, le-leb _ _ there)
    (c.all_right.ensures ∙ used_alone g.S.Scale (held_by c.args.repertoire) c.args.trails.now c.from-used.result there)
