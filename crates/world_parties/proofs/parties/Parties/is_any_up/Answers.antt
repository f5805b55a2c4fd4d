-- What is asked of all sixteen is asked of their list.
use Rattle.std.proofs.Common.{sym, ap, ◌∙◌, ℕ}
use Rattle.std.specs.List.{list_any}
use Rattle.core_definitions.specs.Cores.{server_numbers}
use Rattle.core_definitions.specs.Servers.{Server, is_up}
use Rattle.world_parties.specs.States.{State, server_of, servers_at}
use Rattle.world_parties.specs.declared.party.Party.{Party}
use Rattle.world_parties.proofs.Reading.{any_server}
use Rattle.world_parties.proofs.parties.Parties.is_any_up.Goals as goal

pub returns : goal.returns
returns c =
    let s : State = record { segments = c.self.inside.segments; parties = c.self.inside.list.items; host = c.self.inside.host; held = c.self.inside.held.items } in
    c.is_any_up.ensures ∙ ap (list_any (λ (party : Party). is_up (server_of party).phase)) c.deref.ensures.value ∙ sym (any_server s (λ (server : Server). is_up server.phase) c.self.invariant)
    ∙ ap (λ (s : State). list_any (λ (a : ℕ). is_up (servers_at s a).phase) server_numbers) c.self.view_is
