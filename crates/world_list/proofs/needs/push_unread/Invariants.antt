-- The slots so far are listed.
use Rattle.std.specs.List.{flat_map}
use Rattle.frang_base.specs.Functions.{member}
use Rattle.tree_definitions.specs.Numbers.{below}
use Rattle.core_definitions.specs.Enabled.{only}
use Rattle.core_definitions.specs.Events.{Fetch}
use Rattle.disk_definitions.specs.Regions.{sector_of}
use Rattle.disk_definitions.specs.declared.region.Region.TheVariants as region
use Rattle.log_slots.specs.Reading.{unread_slots}
use Rattle.world_list.specs.Listing.{Adds}
use Rattle.world_list.proofs.needs.push_unread.Given as goal

abbrev pub invariant-loop-number : goal.invariant-loop-number
invariant-loop-number l =
    Adds l.fn.list.items l.list.items (flat_map (λ slot. only (member slot (unread_slots l.under.under.slots)) (Fetch l.a.0 (sector_of (region.Log l.a.0 slot)))) (below l.number))
