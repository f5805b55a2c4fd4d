-- The write is in flight, and goes with its flag and with that it is issued.
use Rattle.std.proofs.Common.{IsSome, is_some, sym, subst, ap, ◌∙◌}
use Rattle.petal_disk.specs.Flights.{Writes, write_at}
use Rattle.flight_laws.specs.Flights.{flights_of}
use Rattle.sector_bytes.specs.SectorMaps.{value_at}
use Rattle.core_definitions.specs.WriteEffects.{landed}
use Rattle.world_parties.specs.States.{IsReady}
use Rattle.world_state.specs.States.{IsWriteOf, State, core_at}
use Rattle.world_state.proofs.Effects.{landed_is}
use Rattle.world_state.proofs.Landing.{is_flying_here, loss_ready}
use Rattle.world_state.proofs.Lasting.{loss_lasts}
use Rattle.world_state.proofs.world.World.lose.Goals as goal

pub lose-requires : goal.lose-requires
lose-requires c =
    let P : State → Type 0 = λ s. IsReady s.parties c.writer.result.0.0 in
    subst P (sym c.self.view_is) (loss_ready c.args.self.now c.args.ticket.0 c.writer.result.0.0 c.writer.result.1.0 c.writer.ensures c.requires.room)

pub lose-requires-2 : goal.lose-requires-2
lose-requires-2 c =
    let t = c.args.ticket.0 in
    let P : Writes → Type 0 = λ writes. IsSome (write_at writes t) in
    subst P (sym c.count-count.ensures.puts)
    (is_flying_here c.self.inside.flights.flying t c.a_write_is_the_cores.ensures.asked (ap (λ (s : State). is_some (value_at (core_at s).flights t)) c.self.view_is ∙ c.requires.flies))

pub invariant_of-self : goal.invariant_of-self
invariant_of-self c =
    let s : State = record { places = c.self.inside.places; run = c.self.inside.run; tick = c.self.inside.tick; parties = c.self.inside.parties; locks = c.self.inside.locks; flights = c.self.inside.flights; ticks = c.self.inside.ticks; over = c.self.inside.over } in
    let P : State → Type 0 = λ s. IsWriteOf s c.args.ticket.0 c.writer.result.0.0 c.writer.result.1.0 in
    loss_lasts s c.lose.new.self c.lose-2.new.self c.args.ticket.0 c.writer.result.0.0 c.writer.result.1.0 c.self.invariant c.lose.ensures.keeps c.lose.ensures.same.stays.segments
    (subst P (sym c.self.view_is) c.writer.ensures) c.lose.ensures.unflagged c.lose.ensures.unissued
    (ap flights_of c.lose-2.ensures.flying ∙ c.a_landed_write_is_the_cores.ensures.made s.flights.flying c.args.ticket.0)

pub returns : goal.returns
returns c =
    let s : State = record { places = c.self.inside.places; run = c.self.inside.run; tick = c.self.inside.tick; parties = c.self.inside.parties; locks = c.self.inside.locks; flights = c.self.inside.flights; ticks = c.self.inside.ticks; over = c.self.inside.over } in
    landed_is s c.lose.new.self c.lose-2.new.self c.args.ticket.0 c.lose.ensures.same
    (ap flights_of c.lose-2.ensures.flying ∙ c.a_landed_write_is_the_cores.ensures.made s.flights.flying c.args.ticket.0) c.lose-2.ensures.next
    ∙ ap (λ (s : State). landed (core_at s) c.args.ticket.0) c.self.view_is
