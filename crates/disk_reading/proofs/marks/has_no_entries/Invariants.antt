use Rattle.std.proofs.Common.{◌≡◌, not, is_some}
use Rattle.standing_laws.specs.Below.{all_below}
use Rattle.disk_reading.specs.Seen.{store_in}
use Rattle.disk_reading.proofs.marks.has_no_entries.Given as goal

abbrev pub invariant-loop-p : goal.invariant-loop-p
invariant-loop-p l = l.all ≡ all_below l.p (λ p. not (is_some ((store_in l.segments l.disk).place l.block p)))
