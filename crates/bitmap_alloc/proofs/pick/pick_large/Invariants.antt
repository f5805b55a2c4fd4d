use Rattle.std.proofs.Common.{◌≡◌, ◌-◌}
use Rattle.disk_definitions.specs.Least.{least_from}
use Rattle.disk_definitions.specs.Held.{large_in}
use Rattle.disk_definitions.specs.Picks.{is_free, picked_large}
use Rattle.bitmap_alloc.proofs.pick.pick_large.Given as goal

abbrev pub invariant-loop-k : goal.invariant-loop-k
invariant-loop-k l = least_from (λ k. is_free (large_in l.held k)) l.k (64 - l.k) ≡ picked_large l.held
