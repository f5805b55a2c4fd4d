-- The new write is of a sector of its own, and its ticket is above all others.
use Rattle.std.proofs.Common.{[], ◌∷◌, ◌++◌, refl, ◌≡◌, ◌+◌, is_some, if◌then◌else◌, sym, subst, ap, ◌∙◌, arith}
use Rattle.sector_bytes.specs.SectorMaps.{Ascend, value_at, room_for}
use Rattle.sector_bytes.proofs.MapLaws.{ascend_with}
use Rattle.petal_disk.specs.Flights.{AreFlights, busy_with}
use Rattle.petal_disk.specs.declared.ticket.Ticket.{Ticket}
use Rattle.petal_disk.specs.declared.flying.Flying.{Flying}
use Rattle.petal_disk.specs.Flying.{flying_of}
use Rattle.petal_disk.specs.Keeping.{AreCounted}
use Rattle.petal_disk.proofs.Counting.{AreCounted-issued, counts_most}
use Rattle.petal_disk.proofs.InFlight.{AreFlights-issued}
use Rattle.petal_disk.proofs.Indexing.{IsIndex-issued}
use Rattle.petal_disk.proofs.flight.Flight.add.Goals as goal

pub more-requires : goal.more-requires
more-requires c =
    omega (arith, counts_most c.self.inside.counts c.self.inside.writes.flying c.self.invariant.counted c.args.put.server.0, c.count.ensures.most, c.requires.room, ap (λ flight. flight.room) c.self.view_is)

pub put-requires : goal.put-requires
put-requires c =
    let sector = c.args.put.sector.0 in
    let one : room_for c.self.inside.tickets.entries sector ≡ 1 =
    ap (λ o. if is_some o then 0 else 1) (c.self.invariant.index sector ∙ ap (λ flight. busy_with flight.writes sector) c.self.view_is ∙ c.requires.free) in
    omega (arith, one, c.requires.room, ap (λ flight. flight.room) c.self.view_is)

pub invariant_of-self : goal.invariant_of-self
invariant_of-self c =
    let sector = c.args.put.sector.0 in
    let free = ap (λ flight. busy_with flight.writes sector) c.self.view_is ∙ c.requires.free in
    let flying = c.self.inside.writes.flying in
    let issued : Ticket × Flying = (record { 0 = c.self.inside.next }, flying_of c.args.put c.args.purpose) in
    record {
      flights = subst (λ writes. AreFlights (record { writes = writes; flying = []; next = c.self.inside.next + 1; room = 0 })) (sym c.push.ensures.writes) (AreFlights-issued c.self.inside.writes.writes c.self.inside.next c.args.put c.self.invariant.flights free);
      ordered = subst Ascend (sym c.put.ensures.entries) (ascend_with sector (record { 0 = c.self.inside.next }) c.self.inside.tickets.entries c.self.invariant.ordered);
      index = λ q. ap (λ entries. value_at entries q) c.put.ensures.entries
          ∙ IsIndex-issued c.self.inside.tickets.entries c.self.inside.writes.writes (record { 0 = c.self.inside.next }) c.args.put free c.self.invariant.index q
          ∙ sym (ap (λ writes. busy_with writes q) c.push.ensures.writes);
      counted = subst (AreCounted c.more.new.self) (sym c.push.ensures.flying)
          (subst (λ counts. AreCounted counts (flying ++ issued ∷ [])) (sym c.more.ensures.counts) (AreCounted-issued c.self.inside.counts flying c.self.invariant.counted issued c.more.ensures.party refl));
    }
