use Rattle.std.proofs.Common.{◌≡◌, ◌-◌, ◌==◌}
use Rattle.bitmap_block.specs.States.{state_number}
use Rattle.disk_definitions.specs.Bitmaps.{block_state}
use Rattle.disk_definitions.specs.Least.{least_from}
use Rattle.bitmap_alloc.proofs.pick.least_of.Given as goal

abbrev pub invariant-loop-j : goal.invariant-loop-j
invariant-loop-j l = least_from (λ j. block_state l.bitmap j == state_number l.state) l.j (1024 - l.j) ≡ least_from (λ j. block_state l.bitmap j == state_number l.state) l.start (1024 - l.start)
