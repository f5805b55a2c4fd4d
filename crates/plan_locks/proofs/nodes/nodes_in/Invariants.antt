-- The nodes so far, and those of the sectors that are left.
use Rattle.std.proofs.Common.{◌≡◌, fold, drop}
use Rattle.disk_definitions.specs.LookedAt.{nodes_in, with_node}
use Rattle.lock_sets.specs.Seen.{numbers}
use Rattle.plan_locks.proofs.nodes.nodes_in.Given as goal

abbrev pub invariant-loop-sector : goal.invariant-loop-sector
invariant-loop-sector l = fold (with_node l.segments) l.nodes.items (numbers (drop l.sector-index l.looked)) ≡ nodes_in l.segments (numbers l.looked)
