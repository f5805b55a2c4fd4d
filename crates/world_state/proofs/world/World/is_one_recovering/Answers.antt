-- A server that is up, or the host.
use Rattle.std.proofs.Common.{ℕ, ◌&&◌, is_some, sym, ap, ◌∙◌}
use Rattle.std.specs.List.{list_any}
use Rattle.core_definitions.specs.Cores.{parties, server_numbers}
use Rattle.core_definitions.specs.EndGuards.{is_recovering}
use Rattle.core_definitions.specs.Scripts.{host_party}
use Rattle.core_definitions.specs.Servers.{is_up}
use Rattle.world_state.specs.States.{State, core_at}
use Rattle.world_state.proofs.Recovering.{any_recovering, either_first, either_second}
use Rattle.world_state.proofs.world.World.is_one_recovering.Goals as goal

pub returns-then-is_any_recovering : goal.returns-then-is_any_recovering
returns-then-is_any_recovering c =
    let s : State = record { places = c.self.inside.places; run = c.self.inside.run; tick = c.self.inside.tick; parties = c.self.inside.parties; locks = c.self.inside.locks; flights = c.self.inside.flights; ticks = c.self.inside.ticks; over = c.self.inside.over } in
    either_first c.is_any_recovering.result (list_any (λ (a : ℕ). is_up ((core_at s).servers a).phase && is_some ((core_at s).servers a).recovery) server_numbers)
    (is_some ((core_at s).servers host_party).recovery) c.is_any_recovering.ensures c.if-is_any_recovering.true
    ∙ sym (any_recovering (core_at s)) ∙ ap (λ (s : State). list_any (is_recovering (core_at s)) parties) c.self.view_is

pub returns-else-is_any_recovering : goal.returns-else-is_any_recovering
returns-else-is_any_recovering c =
    let s : State = record { places = c.self.inside.places; run = c.self.inside.run; tick = c.self.inside.tick; parties = c.self.inside.parties; locks = c.self.inside.locks; flights = c.self.inside.flights; ticks = c.self.inside.ticks; over = c.self.inside.over } in
    either_second c.is_any_recovering.result c.is_host_recovering.result (list_any (λ (a : ℕ). is_up ((core_at s).servers a).phase && is_some ((core_at s).servers a).recovery) server_numbers)
    (is_some ((core_at s).servers host_party).recovery) c.is_any_recovering.ensures c.if-is_any_recovering.false c.is_host_recovering.ensures
    ∙ sym (any_recovering (core_at s)) ∙ ap (λ (s : State). list_any (is_recovering (core_at s)) parties) c.self.view_is
