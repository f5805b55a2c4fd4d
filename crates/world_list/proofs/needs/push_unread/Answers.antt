-- Of all 256 slots those that aren't read are listed.
use Rattle.std.proofs.Common.{◌≡◌, ℕ, ◌++◌, ap, ◌∙◌, arith}
use Rattle.std.specs.List.{flat_map}
use Rattle.frang_base.specs.Functions.{member}
use Rattle.tree_definitions.specs.Numbers.{below}
use Rattle.core_definitions.specs.Enabled.{only}
use Rattle.core_definitions.specs.Events.{Event, Fetch}
use Rattle.disk_definitions.specs.Regions.{sector_of}
use Rattle.disk_definitions.specs.declared.region.Region.TheVariants as region
use Rattle.log_slots.specs.Reading.{unread_slots}
use Rattle.world_list.specs.Listing.{events_of}
use Rattle.world_list.proofs.Fetching.{unread_are}
use Rattle.world_list.proofs.needs.push_unread.Goals as goal

pub returns : goal.returns
returns c =
    let slots = c.args.under.now.under.slots in
    let fetch : ℕ → Event = λ slot. Fetch c.args.a.0 (sector_of (region.Log c.args.a.0 slot)) in
    let all : c.loop-number.number ≡ 256 = omega arith in
    c.loop-number.invariant
    ∙ ap (λ es. events_of c.args.list.now.items ++ es) (ap (λ n. flat_map (λ slot. only (member slot (unread_slots slots)) (fetch slot)) (below n)) all ∙ unread_are fetch slots)
