-- The blocks so far are counted.
use Rattle.std.proofs.Common.{◌≡◌, ◌≤◌, ◌==◌, ◌||◌}
use Rattle.disk_definitions.specs.Least.{count}
use Rattle.disk_definitions.specs.Bitmaps.{block_state}
use Rattle.op_data.proofs.room.directory_blocks_in.Given as goal

abbrev pub invariant-loop-j : goal.invariant-loop-j
invariant-loop-j l = record { few : l.blocks ≤ l.j; is : l.blocks ≡ count (λ j. block_state l.bitmap j == 2 || block_state l.bitmap j == 3) l.j }
