-- By the laws of plans over disks.
use Rattle.std.proofs.Common.{arith}
use Rattle.disk_definitions.specs.PlanOf.{plan_of}
use Rattle.disk_definitions.specs.Written.{hand_of}
use Rattle.dir_lookup.specs.Reading.{reading}
use Rattle.code_plan_laws.proofs.Versions.{holds_segments}
use Rattle.code_plan_laws.proofs.Ended.{ends_below, stands_if, exact_if}
use Rattle.op_data.proofs.Paths.{has_path}
use Rattle.op_data.proofs.plan.plan_data.Goals as goal

pub finish-requires-clause-segments : goal.finish-requires-clause-segments
finish-requires-clause-segments c = let d = c.requires.disk in holds_segments c.args.op.now d.birth c.args.sectors.now.entries c.args.held.now c.args.all d.over

pub finish-requires-clause-versions : goal.finish-requires-clause-versions
finish-requires-clause-versions c = let d = c.requires.disk in
    ends_below c.args.op.now d.birth c.args.when c.args.sectors.now.entries c.args.held.now c.args.all (has_path c.args.op.now c.requires.bytes) d.small (omega arith) d.over c.plan_bytes-ended.result (c.plan_bytes-ended.ensures.comes d.birth)

pub returns-clause-is : goal.returns-clause-is
returns-clause-is c birth = c.finish.ensures (reading (plan_of (hand_of c.args.sectors.now.entries c.args.held.now c.args.all) birth c.args.when c.args.op.now) c.args.sectors.now.entries c.args.held.now) (c.plan_bytes-ended.ensures.comes birth)

pub returns-clause-stands : goal.returns-clause-stands
returns-clause-stands c birth small = stands_if c.args.op.now birth c.args.when c.args.sectors.now.entries c.args.held.now c.args.all (has_path c.args.op.now c.requires.bytes) small (omega arith) c.finish.result (returns-clause-is c birth)

pub returns-clause-exact : goal.returns-clause-exact
returns-clause-exact c birth small = exact_if c.args.op.now birth c.args.when c.args.sectors.now.entries c.args.held.now c.args.all (has_path c.args.op.now c.requires.bytes) small (omega arith) c.finish.result (returns-clause-is c birth)
