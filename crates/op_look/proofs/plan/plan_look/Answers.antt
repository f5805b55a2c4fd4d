-- By the laws of plans over disks.
use Rattle.disk_definitions.specs.Written.{hand_of}
use Rattle.code_plan_laws.proofs.Ended.{stands_if, exact_if}
use Rattle.op_look.proofs.Paths.{has_path}
use Rattle.op_look.proofs.plan.plan_look.Goals as goal

pub returns-clause-stands : goal.returns-clause-stands
returns-clause-stands c birth when held all small fits =
    stands_if c.args.op.now birth when c.args.sectors.now.entries held all (has_path c.args.op.now c.requires) small fits c.ended_look.result (c.ended_look.ensures (hand_of c.args.sectors.now.entries held all) birth when held)

pub returns-clause-exact : goal.returns-clause-exact
returns-clause-exact c birth when held all small fits =
    exact_if c.args.op.now birth when c.args.sectors.now.entries held all (has_path c.args.op.now c.requires) small fits c.ended_look.result (c.ended_look.ensures (hand_of c.args.sectors.now.entries held all) birth when held)
