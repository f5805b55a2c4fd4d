use Rattle.std.proofs.Common.{◌≡◌, ◌≤◌, ◌<◌, ◌+◌, ◌*◌, ◌-◌}
use Rattle.bitmap_block.specs.States.{state_number}
use Rattle.disk_definitions.specs.Least.{least_from}
use Rattle.disk_definitions.specs.Held.{state_in}
use Rattle.disk_definitions.specs.Picks.{is_in_state}
use Rattle.bitmap_alloc.proofs.pick.least_block.Given as goal

abbrev pub invariant-loop-k : goal.invariant-loop-k
invariant-loop-k l = record {
  place : l.start < 1024;
  within : 1024 * l.k + l.start ≤ 65536;
  rest : least_from (λ b. is_in_state (state_number l.state) (state_in l.held b)) (1024 * l.k + l.start) (65536 - (1024 * l.k + l.start)) ≡ least_from (λ b. is_in_state (state_number l.state) (state_in l.held b)) l.from (65536 - l.from);
}
