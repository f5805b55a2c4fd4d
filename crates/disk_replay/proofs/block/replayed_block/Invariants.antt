use Rattle.std.proofs.Common.{◌≡◌, drop}
use Rattle.disk_definitions.specs.ReplayedBlocks.{replayed_block}
use Rattle.disk_replay.proofs.block.replayed_block.Given as goal

-- what is left makes of the block as it is what all records make of it
abbrev pub invariant-loop-record : goal.invariant-loop-record
invariant-loop-record l = replayed_block (drop l.record-index l.records) l.sector.0 l.block ≡ replayed_block l.records l.sector.0 l.fn.block
