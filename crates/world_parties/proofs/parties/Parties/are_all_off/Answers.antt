-- What is asked of all sixteen is asked of their list.
use Rattle.std.proofs.Common.{sym, ap, ◌∙◌, ℕ}
use Rattle.std.specs.List.{list_all}
use Rattle.core_definitions.specs.Cores.{server_numbers}
use Rattle.core_definitions.specs.Servers.{Server, is_off}
use Rattle.world_parties.specs.States.{State, server_of, servers_at}
use Rattle.world_parties.specs.declared.party.Party.{Party}
use Rattle.world_parties.proofs.Reading.{all_servers}
use Rattle.world_parties.proofs.parties.Parties.are_all_off.Goals as goal

pub returns : goal.returns
returns c =
    let s : State = record { segments = c.self.inside.segments; parties = c.self.inside.list.items; host = c.self.inside.host; held = c.self.inside.held.items } in
    c.are_all_off.ensures ∙ ap (list_all (λ (party : Party). is_off (server_of party).phase)) c.deref.ensures.value ∙ sym (all_servers s (λ (server : Server). is_off server.phase) c.self.invariant)
    ∙ ap (λ (s : State). list_all (λ (a : ℕ). is_off (servers_at s a).phase) server_numbers) c.self.view_is
