-- What is asked of all marks is asked of their list.
use Rattle.std.proofs.Common.{Bool, sym, ap, ◌∙◌}
use Rattle.std.specs.List.{list_any}
use Rattle.core_definitions.specs.Cores.{server_numbers}
use Rattle.world_parties.specs.States.{State, held_at}
use Rattle.world_parties.proofs.Reading.{any_held}
use Rattle.world_parties.proofs.parties.Parties.is_any_held.Goals as goal

pub returns : goal.returns
returns c =
    let s : State = record { segments = c.self.inside.segments; parties = c.self.inside.list.items; host = c.self.inside.host; held = c.self.inside.held.items } in
    c.is_any_set.ensures ∙ ap (list_any (λ (mark : Bool). mark)) c.deref.ensures.value ∙ sym (any_held s c.self.invariant)
    ∙ ap (λ (s : State). list_any (held_at s) server_numbers) c.self.view_is
