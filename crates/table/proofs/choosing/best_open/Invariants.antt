-- The best of the open trails so far.
use Rattle.std.proofs.Common.{◌≡◌, length}
use Rattle.rule.specs.Preferences.{preferred_by}
use Rattle.trails.specs.Repertoires.{held_by}
use Rattle.trails.specs.Tables.{tabled}
use Rattle.trails.specs.Choosing.{best_below}
use Rattle.table.proofs.choosing.best_open.Given as goal

abbrev pub invariant-loop-place : goal.invariant-loop-place
invariant-loop-place g l =
    l.best ≡ best_below g.S.Scale (held_by l.repertoire) (preferred_by g.S.Scale g.R.Rule l.preference) (tabled l.used (length l.used)) l.place
