use Rattle.std.proofs.Common.{◌≡◌, ◌-◌, filter}
use Rattle.std.specs.List.{range_with_len}
use Rattle.tree_definitions.specs.Numbers.{below}
use Rattle.lock_definitions.specs.Holders.{next_among}
use Rattle.lock_table.proofs.Looking.{chosen_in, is_outside}
use Rattle.lock_table.proofs.table.LockTable.next_segment.Given as goal

-- of what was found and what is left that is chosen which is of all
abbrev pub invariant-loop-segment : goal.invariant-loop-segment
invariant-loop-segment l =
    chosen_in l.self.locks l.server.0 l.set l.found (range_with_len l.segment (l.segments - l.segment)) ≡ next_among l.self.locks l.server.0 (filter (is_outside l.self.locks l.server.0 l.set) (below l.segments))
