use Rattle.std.proofs.Common.{◌≡◌, ◌/◌, ◌%◌}
use Rattle.standing_laws.specs.Below.{all_below}
use Rattle.standing_laws.specs.Soundness.{use_agrees}
use Rattle.disk_reading.specs.Seen.{store_in}
use Rattle.disk_reading.proofs.marks.uses_agree.Given as goal

abbrev pub invariant-loop-t : goal.invariant-loop-t
invariant-loop-t l = l.all ≡ all_below l.t (λ t. use_agrees (store_in l.segments l.disk) ((store_in l.segments l.disk).inode (t / 16)) (t % 16))
