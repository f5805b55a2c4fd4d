-- The server is off and mounts.
use Rattle.std.proofs.Common.{List, OnOk, sym, subst, ◌∙◌}
use Rattle.core_definitions.specs.Events.{Event}
use Rattle.world_list.specs.Listing.{Adds}
use Rattle.world_list.proofs.Fetching.{slots_are}
use Rattle.world_list.proofs.needs.push_slots.Goals as goal

pub returns-in-Some : goal.returns-in-Some
returns-in-Some c =
    let are = slots_are c.args.a.0 c.args.server.now.server c.in-Some.under.now.under (sym c.in-Some.ensures) (sym c.is_off.ensures ∙ c.if-is_off.true) (sym c.is_open_mount.ensures ∙ c.if-is_open_mount.true) in
    subst (λ (es : List Event). OnOk c.push_unread.result (Adds c.args.list.now.items c.push_unread.new.list.items es)) (sym are) c.push_unread.ensures
