-- The servers so far are listed.
use Rattle.std.specs.List.{flat_map}
use Rattle.tree_definitions.specs.Numbers.{below}
use Rattle.world_list.specs.Listing.{AddsOf}
use Rattle.world_list.specs.Rows.{party_events}
use Rattle.world_list.proofs.rows.push_row.Given as goal

abbrev pub invariant-loop-a : goal.invariant-loop-a
invariant-loop-a l = AddsOf l.fn.list.items l.list.items (λ tree. flat_map (λ a. party_events l.world l.row a tree) (below l.a))
