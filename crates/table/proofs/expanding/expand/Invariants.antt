-- The links so far that leave the motif have been tried, and no more places are taken than there are such links.
use Rattle.std.proofs.Common.{◌≡◌, ◌+◌, ◌≤◌}
use Rattle.trails.specs.Repertoires.{held_by}
use Rattle.trails.specs.Tables.{tabled}
use Rattle.trails.specs.Expanding.{tried_below}
use Rattle.table.proofs.Expansions.{leaving_of}
use Rattle.table.proofs.expanding.expand.Given as goal

abbrev pub invariant-loop-k : goal.invariant-loop-k
invariant-loop-k g l =
    (tabled l.trails l.n ≡ tried_below g.S.Scale (held_by l.repertoire) l.place l.from l.k (tabled l.initial.trails l.used))
    × (l.used ≤ l.n)
    × (l.n ≤ l.used + leaving_of (held_by l.repertoire) l.from.motif l.k)
