use Rattle.std.proofs.Common.{◌≤◌, ◌+◌, Some}
use Rattle.std.specs.List.{filter_map}
use Rattle.std.specs.Option.{option_map}
use Rattle.tree_definitions.specs.Numbers.{below}
use Rattle.disk_definitions.specs.Store.{entry_in}
use Rattle.core_definitions.specs.Trees.{inode_sector}
use Rattle.host_tree.specs.Wanting.{Adds}
use Rattle.host_tree.proofs.wanting.add_entries.Given as goal

-- the places so far
abbrev pub invariant-loop-place : goal.invariant-loop-place
invariant-loop-place l = record {
  added : Adds l.read.entries (filter_map (λ place. option_map (λ entry. inode_sector entry.inode) (entry_in (Some l.sector) place)) (below l.place)) l.fn.wanted.entries l.wanted.entries;
  spare : l.fn.wanted.spare ≤ l.wanted.spare + l.place;
}
