-- A server's is acknowledged by it, and the host has nothing that it changes.
use Rattle.std.proofs.Common.{◌≡◌, ℕ, sym, subst, ap, ◌∙◌}
use Rattle.frang_base.specs.Functions.{put}
use Rattle.core_definitions.specs.Servers.{Server}
use Rattle.core_definitions.specs.WriteEffects.{acknowledged}
use Rattle.flight_laws.specs.Flights.{purpose_of}
use Rattle.world_parties.specs.States.{recovery_in, servers_at}
use Rattle.world_state.specs.Arrivals.{acknowledged_at}
use Rattle.world_state.proofs.Acknowledging.{of_the_host}
use Rattle.world_state.proofs.PartySteps.{host_of, left_as, left_changed, put_itself}
use Rattle.world_state.proofs.arriving.acknowledge_own.Goals as goal

pub returns-then-is_server : goal.returns-then-is_server
returns-then-is_server c =
    let flying = c.args.flying.now in
    left_changed c.args.parties.now c.forget_write.new.parties c.acknowledge_at.new.parties flying (acknowledged flying.put.sector.0 flying.put.bytes (purpose_of flying.purpose)) c.forget_write.ensures
    c.acknowledge_at.ensures.becomes c.acknowledge_at.ensures.keeps

pub returns-else-is_server : goal.returns-else-is_server
returns-else-is_server c =
    let flying = c.args.flying.now in
    let old = c.args.parties.now in
    let by = flying.put.server.0 in
    let after : Server → Server = acknowledged flying.put.sector.0 flying.put.bytes (purpose_of flying.purpose) in
    let host = host_of by c.requires.may.party (sym c.is_server.ensures ∙ c.if-is_server.false) in
    let P : ℕ → Type 0 = λ b. after (servers_at old b) ≡ servers_at old b in
    let same : after (servers_at old by) ≡ servers_at old by = subst P (sym host) (of_the_host flying.put.sector.0 flying.put.bytes flying.purpose (recovery_in old.host) c.requires.own) in
    left_as old c.forget_write.new.parties flying (servers_at old) (acknowledged_at old flying) c.forget_write.ensures (sym (put_itself (servers_at old) by) ∙ ap (put (servers_at old) by) (sym same))
