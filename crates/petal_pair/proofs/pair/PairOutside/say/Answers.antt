-- A say leaves every sector of the pair.
use Rattle.std.proofs.Common.{rules, ◌≡◌}
use Rattle.petal_pair.specs.PairedCalls.{acts_said}
use Rattle.petal_pair.proofs.Staying.{is_pair_said, sectors_said}
use Rattle.petal_pair.proofs.pair.PairOutside.say.Goals as goal

pub invariant_of-self-2 : goal.invariant_of-self-2
invariant_of-self-2 g c =
    let acts : c.note_said.new.acts.items ≡ acts_said c.self.inside.acts.items c.in_ok-text.text c.say-answer.result = search rules in
    rw acts
    (is_pair_said c.self.inside.in_use (g.A.Outside.state c.self.inside.first) (g.A.Outside.state c.say-answer.new.self) (g.B.Outside.state c.self.inside.second) c.self.inside.missed.items c.self.inside.acts.items c.in_ok-text.text
    c.say-answer.result c.self.invariant c.say-answer.ensures.sectors (rw c.in_ok-text.ensures c.say-answer.ensures.outcome))

pub returns-clause-sectors : goal.returns-clause-sectors
returns-clause-sectors g c =
    let acts : c.note_said.new.acts.items ≡ acts_said c.self.inside.acts.items c.in_ok-text.text c.say-answer.result = search rules in
    rw (← c.self.view_is, acts)
    (sectors_said c.self.inside.in_use (g.A.Outside.state c.self.inside.first) (g.A.Outside.state c.say-answer.new.self) (g.B.Outside.state c.self.inside.second) c.self.inside.missed.items c.self.inside.acts.items c.in_ok-text.text
    c.say-answer.result c.self.invariant c.say-answer.ensures.sectors (rw c.in_ok-text.ensures c.say-answer.ensures.outcome))

pub returns-clause-pair : goal.returns-clause-pair
returns-clause-pair g c = invariant_of-self-2 g c
