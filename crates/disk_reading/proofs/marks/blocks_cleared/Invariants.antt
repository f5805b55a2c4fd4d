use Rattle.std.proofs.Common.{◌≡◌}
use Rattle.standing_laws.specs.Below.{all_below}
use Rattle.standing_laws.specs.Soundness.{is_cleared}
use Rattle.disk_reading.specs.Seen.{store_in}
use Rattle.disk_reading.proofs.marks.blocks_cleared.Given as goal

abbrev pub invariant-loop-block : goal.invariant-loop-block
invariant-loop-block l = l.all ≡ all_below l.block (λ k. is_cleared (store_in l.segments l.disk) k ((store_in l.segments l.disk).use_of k))
