use Rattle.std.proofs.Common.{◌≤◌, ◌+◌, map}
use Rattle.tree_definitions.specs.Numbers.{below}
use Rattle.disk_definitions.specs.declared.region.Region.TheVariants as region
use Rattle.disk_definitions.specs.Regions.{sector_of}
use Rattle.host_tree.specs.Wanting.{Adds}
use Rattle.host_tree.proofs.wanting.add_block.Given as goal

-- the parts so far
abbrev pub invariant-loop-i : goal.invariant-loop-i
invariant-loop-i l = record {
  added : Adds l.read.entries (map (λ part. sector_of (region.Small l.block part)) (below l.i)) l.fn.wanted.entries l.wanted.entries;
  spare : l.fn.wanted.spare ≤ l.wanted.spare + l.i;
}
