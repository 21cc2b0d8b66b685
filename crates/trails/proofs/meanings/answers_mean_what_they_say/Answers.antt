use Rattle.trails.specs.Calls.{table_of, prefers_by}
use Rattle.trails.proofs.Choosing.{prefers_chooses}
use Rattle.trails.proofs.Steps.{outlook_means, ending_means}
use Rattle.trails.proofs.meanings.answers_mean_what_they_say.Goals as goal

pub returns-clause-outlooks : goal.returns-clause-outlooks
returns-clause-outlooks g c = λ r x trails.
    let chooses = prefers_chooses g.S.Scale g.met.S.Scale.fair g.met.S.Scale.shaped g.R.Rule g.met.R.Rule.sound x in
    outlook_means g.S.Scale g.met.S.Scale.fair r (prefers_by g.S.Scale g.R.Rule x) chooses (table_of x trails)

pub returns-clause-endings : goal.returns-clause-endings
returns-clause-endings g c = λ r x trails budget.
    let chooses = prefers_chooses g.S.Scale g.met.S.Scale.fair g.met.S.Scale.shaped g.R.Rule g.met.R.Rule.sound x in
    ending_means g.S.Scale g.met.S.Scale.fair r (prefers_by g.S.Scale g.R.Rule x) chooses budget (table_of x trails)
