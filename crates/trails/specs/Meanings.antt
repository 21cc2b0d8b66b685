-- That the answers of the calls mean what their other words say, for every repertoire, standing and table.
use Rattle.std.specs.Prelude.{ℕ, List}
use Rattle.scale.specs.declared.scales.Scale.{Ghosts}
use Rattle.rule.specs.declared.rules.Rule as rules
use Rattle.trails.specs.declared.standings.Standing.{Standing}
use Rattle.trails.specs.declared.trails.Trail.{Trail}
use Rattle.trails.specs.Repertoires.{Repertoire}
use Rattle.trails.specs.Steps.{OutlookMeans, ran_from, EndingMeans}
use Rattle.trails.specs.Calls.{table_of, prefers_by, ahead}

module _ {S R : Type 0} (s : Ghosts S) (q : rules.Ghosts R) where
  -- what lies ahead, and with it a step's answer
  abbrev pub OutlooksMean : Type 0
  OutlooksMean = (r : Repertoire S) (x : Standing S R) (trails : List (Trail S)) → OutlookMeans s r (prefers_by s q x) (table_of x trails) (ahead s q r x trails)

  -- how a run ends
  abbrev pub EndingsMean : Type 0
  EndingsMean = (r : Repertoire S) (x : Standing S R) (trails : List (Trail S)) (budget : ℕ)
      → EndingMeans s r (prefers_by s q x) budget (ran_from s r (prefers_by s q x) budget (table_of x trails)) (ran_from s r (prefers_by s q x) budget (table_of x trails)).ending
