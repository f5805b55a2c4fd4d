-- The blocks of the segments so far are counted.
use Rattle.std.proofs.Common.{◌≡◌, ◌≤◌, ◌*◌, ◌||◌}
use Rattle.disk_definitions.specs.Least.{count}
use Rattle.disk_definitions.specs.Held.{state_in}
use Rattle.disk_definitions.specs.Picks.{is_in_state}
use Rattle.op_data.proofs.room.directory_blocks.Given as goal

abbrev pub invariant-loop-k : goal.invariant-loop-k
invariant-loop-k l = record { few : l.blocks ≤ 1024 * l.k; is : l.blocks ≡ count (λ b. is_in_state 2 (state_in l.held b) || is_in_state 3 (state_in l.held b)) (1024 * l.k) }
