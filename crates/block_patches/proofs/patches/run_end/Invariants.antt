-- The bytes so far differ or are forced, and what comes behind them is counted.
use Rattle.std.proofs.Common.{ℕ, Bool, ◌-◌, ◌+◌, ◌≡◌, ◌≤◌, ◌&&◌, nat_le, nat_lt, drop}
use Rattle.block_patches.specs.Runs.{differing}
use Rattle.block_patches.proofs.patches.run_end.Given as goal

abbrev pub invariant-loop-at : goal.invariant-loop-at
invariant-loop-at l =
    let forced : ℕ → Bool = λ at. nat_le l.fn.forced.start at && nat_lt at l.fn.forced.end in
    record {
      after : l.from ≤ l.at;
      within : l.at ≤ 512;
      counted : l.at + differing forced l.at (drop l.at l.old) (drop l.at l.new) ≡ l.from + differing forced l.from (drop l.from l.old) (drop l.from l.new);
    }

abbrev pub decreases-loop-at : goal.decreases-loop-at
decreases-loop-at l = 512 - l.at
