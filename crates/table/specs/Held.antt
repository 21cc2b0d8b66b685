-- What a lent table holds.
use Rattle.table.specs.declared.tables.TrailTable.{TrailTable}
use Rattle.trails.specs.Tables.{Table, tabled}

-- its row, of which so many places are used
abbrev pub held_in : {S : Type 0} → TrailTable S → Table S
held_in t = tabled t.trails.now t.used
