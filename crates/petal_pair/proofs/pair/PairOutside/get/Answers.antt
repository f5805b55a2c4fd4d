-- A get leaves every sector of the pair.
use Rattle.petal_pair.proofs.Staying.{is_pair_got, sectors_got}
use Rattle.petal_pair.proofs.pair.PairOutside.get.Goals as goal

pub invariant_of-self : goal.invariant_of-self
invariant_of-self g c =
    is_pair_got c.self.inside.in_use c.get_of_used-answer.result.1 (g.A.Outside.state c.self.inside.first) (g.A.Outside.state c.get_of_used-answer.new.first) (g.B.Outside.state c.self.inside.second) (g.B.Outside.state c.get_of_used-answer.new.second)
    c.self.inside.missed.items c.self.inside.acts.items c.args.server.0 c.args.sector.0 c.get_of_used-answer.result.0 c.self.invariant c.get_of_used-answer.ensures

pub returns-clause-sectors : goal.returns-clause-sectors
returns-clause-sectors g c =
    rw (← c.self.view_is)
    (sectors_got c.self.inside.in_use c.get_of_used-answer.result.1 (g.A.Outside.state c.self.inside.first) (g.A.Outside.state c.get_of_used-answer.new.first) (g.B.Outside.state c.self.inside.second) (g.B.Outside.state c.get_of_used-answer.new.second)
    c.self.inside.missed.items c.self.inside.acts.items c.args.server.0 c.args.sector.0 c.get_of_used-answer.result.0 c.self.invariant c.get_of_used-answer.ensures)

pub returns-clause-pair : goal.returns-clause-pair
returns-clause-pair g c =
    is_pair_got c.self.inside.in_use c.get_of_used-answer.result.1 (g.A.Outside.state c.self.inside.first) (g.A.Outside.state c.get_of_used-answer.new.first) (g.B.Outside.state c.self.inside.second) (g.B.Outside.state c.get_of_used-answer.new.second)
    c.self.inside.missed.items c.self.inside.acts.items c.args.server.0 c.args.sector.0 c.get_of_used-answer.result.0 c.self.invariant c.get_of_used-answer.ensures
