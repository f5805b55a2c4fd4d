use Rattle.std.proofs.Common.{◌≡◌, ◌||◌}
use Rattle.disk_definitions.specs.Store.{is_unused}
use Rattle.standing_laws.specs.Below.{all_below}
use Rattle.disk_reading.specs.Marks.{flag_at}
use Rattle.disk_reading.specs.Seen.{store_in}
use Rattle.disk_reading.proofs.owners.others_unused.Given as goal

abbrev pub invariant-loop-block : goal.invariant-loop-block
invariant-loop-block l = l.all ≡ all_below l.block (λ k. flag_at l.flags k || is_unused ((store_in l.segments l.disk).use_of k))
