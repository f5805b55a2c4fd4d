-- The loads are those of the slots that aren't read.
use Rattle.std.proofs.Common.{◌++◌, map, ap, ◌∙◌}
use Rattle.std.specs.Map.{keys_of}
use Rattle.ordered_map.specs.Chunks.{joined}
use Rattle.recovery_demon.specs.Recovering.{behind_loads, load}
use Rattle.log_slots.specs.Reading.{unread_slots}
use Rattle.recovery_demon.proofs.demon.Demon.wants.Goals as goal

pub returns : goal.returns
returns c =
    let value = c.args.self.now in
    c.in_ok-push_behind_loads.ensures
    ∙ ap (λ loads. loads ++ behind_loads value.segments value.recovery value.issued)
    (c.in_ok-push_loads.ensures ∙ ap (λ before. before ++ map load (keys_of (joined c.unread.result.now))) c.new-list.ensures.items
    ∙ ap (map load) (c.unread.ensures ∙ ap (λ d. unread_slots d.recovery.slots) c.self.view_is))
