-- What has been made so far and the rest of the run give the whole.
use Rattle.std.proofs.Common.{◌≡◌, length}
use Rattle.rule.specs.Preferences.{preferred_by}
use Rattle.trails.specs.Repertoires.{held_by}
use Rattle.table.specs.Held.{held_in}
use Rattle.planner.proofs.Runs.{GoneOn}
use Rattle.planner.proofs.running.run_on.Given as goal

abbrev pub invariant-loop-made : goal.invariant-loop-made
invariant-loop-made g l =
    GoneOn g.S.Scale (held_by l.repertoire) (preferred_by g.S.Scale g.R.Rule l.preference) l.budget (held_in l.initial.table) l.made (held_in l.table)
    × (length l.table.trails.now ≡ length l.initial.table.trails.now)
    × (l.table.trails.ghost_name ≡ l.initial.table.trails.ghost_name)
