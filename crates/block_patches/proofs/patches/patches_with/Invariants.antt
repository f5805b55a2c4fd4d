-- The patches so far, and the runs in what is left.
use Rattle.std.proofs.Common.{ℕ, Bool, ◌-◌, ◌≡◌, ◌++◌, ◌&&◌, nat_le, nat_lt, drop}
use Rattle.sector_bytes.specs.Patches.{patches_with, runs_from}
use Rattle.block_patches.proofs.patches.patches_with.Given as goal

abbrev pub invariant-loop-at : goal.invariant-loop-at
invariant-loop-at l =
    let forced : ℕ → Bool = λ at. nat_le l.fn.forced.start at && nat_lt at l.fn.forced.end in
    l.patches ++ runs_from forced l.at (drop l.at l.old) (drop l.at l.new) ≡ patches_with forced l.fn.old l.fn.new

abbrev pub decreases-loop-at : goal.decreases-loop-at
decreases-loop-at l = 513 - l.at
