-- By the laws of plans over disks.
use Rattle.std.proofs.Common.{arith}
use Rattle.disk_definitions.specs.PlanOf.{plan_of}
use Rattle.disk_definitions.specs.Written.{hand_of}
use Rattle.dir_lookup.specs.Reading.{reading}
use Rattle.code_plan_laws.proofs.Versions.{holds_segments}
use Rattle.code_plan_laws.proofs.Ended.{ends_below, stands_if, exact_if}
use Rattle.op_dir.proofs.Names.{has_path}
use Rattle.op_dir.proofs.plan.plan_dir.Goals as goal

pub finish-requires-clause-segments : goal.finish-requires-clause-segments
finish-requires-clause-segments c = holds_segments c.args.op.now c.args.birth.0 c.args.sectors.now.entries c.args.held.now c.args.all c.requires.disk

pub finish-requires-clause-versions : goal.finish-requires-clause-versions
finish-requires-clause-versions c = ends_below c.args.op.now c.args.birth.0 0 c.args.sectors.now.entries c.args.held.now c.args.all (has_path c.args.op.now c.requires.names) (omega arith) (omega arith) c.requires.disk c.plan_names-ended.result (c.plan_names-ended.ensures.comes 0)

pub returns-clause-is : goal.returns-clause-is
returns-clause-is c when = c.finish.ensures (reading (plan_of (hand_of c.args.sectors.now.entries c.args.held.now c.args.all) c.args.birth.0 when c.args.op.now) c.args.sectors.now.entries c.args.held.now) (c.plan_names-ended.ensures.comes when)

pub returns-clause-stands : goal.returns-clause-stands
returns-clause-stands c when fits = stands_if c.args.op.now c.args.birth.0 when c.args.sectors.now.entries c.args.held.now c.args.all (has_path c.args.op.now c.requires.names) (omega arith) fits c.finish.result (returns-clause-is c when)

pub returns-clause-exact : goal.returns-clause-exact
returns-clause-exact c when fits = exact_if c.args.op.now c.args.birth.0 when c.args.sectors.now.entries c.args.held.now c.args.all (has_path c.args.op.now c.requires.names) (omega arith) fits c.finish.result (returns-clause-is c when)
