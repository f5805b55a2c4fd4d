-- The first that isn't held is one of those that are left, and those before were looked at.
use Rattle.std.proofs.Common.{◌≡◌, ◌/◌, map, drop}
use Rattle.plan_steps.specs.Rooms.{needed}
use Rattle.op_data.proofs.HeldSegments.{HasOver}
use Rattle.op_data.proofs.segments.small_held.Given as goal

abbrev pub invariant-loop-block : goal.invariant-loop-block
invariant-loop-block l = record {
  needs : needed l.held (map (λ k. k / 1024) (drop l.block-index l.blocks)) ≡ needed l.held (map (λ k. k / 1024) l.blocks);
  looks : HasOver l.held l.blocks l.block-index l.initial.looked l.looked;
}
