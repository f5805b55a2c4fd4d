-- Over the disk of a tree by what the line comes to.
use Rattle.std.proofs.Common.{arith}
use Rattle.line_plan.proofs.Exactly.{exact_if}
use Rattle.line_plan.proofs.Standing.{stands_if}
use Rattle.line_plan.proofs.plan.plan_line.Goals as goal

pub returns-clause-stands : goal.returns-clause-stands
returns-clause-stands c =
    let hand = c.args.hand.now in
    stands_if c.args.op.now c.args.birth c.args.when hand.sectors.now.entries hand.held.now hand.all (omega (arith, c.ranges.birth)) (omega (arith, c.ranges.when)) c.plan_over_walks.result c.plan_over_walks.ensures.comes

pub returns-clause-exact : goal.returns-clause-exact
returns-clause-exact c =
    let hand = c.args.hand.now in
    exact_if c.args.op.now c.args.birth c.args.when hand.sectors.now.entries hand.held.now hand.all c.plan_over_walks.result c.plan_over_walks.ensures.comes
