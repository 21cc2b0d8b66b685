use Rattle.std.proofs.Common.{arith}
use Rattle.routes.proofs.Backs.{further, first_back}
use Rattle.routes.proofs.walks.LinksBackIterator.next.Goals as goal

pub returns-clause-steps : goal.returns-clause-steps
returns-clause-steps g c =
    let walk = c.args.self.now in
    rw (c.from-self.ensures, ← c.index-self-self.is) (first_back g.S.Scale walk.trails.now walk.at c.requires (omega arith) c.index-self-self.result c.index-self-self.is)

pub returns-clause-goes : goal.returns-clause-goes
returns-clause-goes g c =
    let walk = c.args.self.now in
    let on = further g.S.Scale walk.trails.now walk.at c.requires (omega arith) c.index-self-self.result c.index-self-self.is in
    rw (c.from-self.ensures, ← c.index-self-self.is) (record { on = λ _. (on.1, tt, on.0); keeps = on.1; rests = λ _. tt })
