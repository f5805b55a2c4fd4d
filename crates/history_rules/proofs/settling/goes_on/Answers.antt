-- Behind a list that was legal the step may stand or not.
use Rattle.history_rules.proofs.Standing.{with_step_on}
use Rattle.history_rules.proofs.settling.goes_on.Goals as goal

pub returns : goal.returns
returns c = λ opening steps at.
    with_step_on opening steps c.args.at.now.tree c.go_on.new.self.tree c.args.at.now.ever c.go_on.new.self.ever c.args.step.now c.args.was c.go_on.result
    c.if-not-was.false at c.go_on.ensures.is c.go_on.ensures.tree c.go_on.ensures.ever
