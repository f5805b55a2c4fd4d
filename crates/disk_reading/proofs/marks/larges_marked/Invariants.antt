use Rattle.std.proofs.Common.{◌≡◌}
use Rattle.standing_laws.specs.Below.{all_below}
use Rattle.standing_laws.specs.Soundness.{is_marked, large_at}
use Rattle.disk_reading.specs.Seen.{store_in}
use Rattle.disk_reading.proofs.marks.larges_marked.Given as goal

abbrev pub invariant-loop-i : goal.invariant-loop-i
invariant-loop-i l = l.all ≡ all_below l.i (λ i. is_marked (store_in l.segments l.disk) (large_at (store_in l.segments l.disk) i))
