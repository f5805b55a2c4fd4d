-- The write is in flight, and what becomes of the parties becomes of the core.
use Rattle.std.proofs.Common.{IsSome, is_some, refl, sym, subst, ap, ◌∙◌}
use Rattle.petal_disk.specs.Flights.{Writes, write_at}
use Rattle.sector_bytes.specs.SectorMaps.{value_at}
use Rattle.world_state.specs.States.{State, core_at}
use Rattle.world_state.proofs.Landing.{is_flying_here}
use Rattle.world_state.proofs.WritesLanded.{lands_kept}
use Rattle.world_state.proofs.world.World.arrive.Goals as goal

pub arrive-arrived-requires : goal.arrive-arrived-requires
arrive-arrived-requires g c =
    let t = c.args.ticket.0 in
    let P : Writes → Type 0 = λ writes. IsSome (write_at writes t) in
    subst P (sym c.count-count.ensures.puts)
    (is_flying_here c.self.inside.flights.flying t c.a_write_is_the_cores.ensures.asked (ap (λ (s : State). is_some (value_at (core_at s).flights t)) c.self.view_is ∙ c.requires.flies))

pub invariant_of-self : goal.invariant_of-self
invariant_of-self g c =
    let s : State = record { places = c.self.inside.places; run = c.self.inside.run; tick = c.self.inside.tick; parties = c.self.inside.parties; locks = c.self.inside.locks; flights = c.self.inside.flights; ticks = c.self.inside.ticks; over = c.self.inside.over } in
    let at = ap (λ (s : State). write_at s.flights.flying c.args.ticket.0) c.self.view_is ∙ c.flight-flying.ensures in
    lands_kept s (record s { parties = c.land.new.parties; flights = c.arrive-arrived.new.self; over = c.is_over-over.result }) c.args.ticket.0 c.flight-flying.result c.arrive-arrived.result
    c.a_write_is_the_cores.ensures.asked c.a_landed_write_is_the_cores.ensures.made c.self.invariant at c.land.ensures c.arrive-arrived.ensures.flying c.is_over-over.ensures c.self.invariant.clock c.self.invariant.counted refl refl
