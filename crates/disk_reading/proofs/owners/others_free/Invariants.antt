use Rattle.std.proofs.Common.{◌≡◌, ◌||◌, not}
use Rattle.standing_laws.specs.Below.{all_below}
use Rattle.disk_reading.specs.Marks.{flag_at}
use Rattle.disk_reading.specs.Seen.{store_in}
use Rattle.disk_reading.proofs.owners.others_free.Given as goal

abbrev pub invariant-loop-g : goal.invariant-loop-g
invariant-loop-g l = l.all ≡ all_below l.g (λ g. flag_at l.flags g || not ((store_in l.segments l.disk).large_bit g))
