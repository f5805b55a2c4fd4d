-- The edits so far, and those of the blocks that are left.
use Rattle.std.proofs.Common.{◌≡◌, ◌++◌, map, drop}
use Rattle.disk_definitions.specs.Edits.{SetUse}
use Rattle.disk_definitions.specs.Store.{Fresh}
use Rattle.plan_steps.specs.Edits.{edits_of}
use Rattle.op_data.proofs.truncate.small_freed.Given as goal

abbrev pub invariant-loop-block : goal.invariant-loop-block
invariant-loop-block l = edits_of l.edits.items ++ map (λ k. SetUse k Fresh) (drop l.block-index l.blocks) ≡ map (λ k. SetUse k Fresh) l.blocks
