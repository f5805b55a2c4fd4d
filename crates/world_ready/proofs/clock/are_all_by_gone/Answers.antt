-- The first that isn't ends it, and else one more is.
use Rattle.std.proofs.Common.{◌≡◌, ◌<◌, ℕ, Bool, None, Option, Bor, length, sym, ap, ◌∙◌, arith}
use Rattle.std.specs.List.{slice_get}
use Rattle.std.specs.Option.{option_map}
use Rattle.core_definitions.specs.Guards.{is_by_gone}
use Rattle.core_definitions.specs.WriteGuards.{is_flight}
use Rattle.petal_disk.specs.Flights.{Flights}
use Rattle.petal_disk.specs.declared.flying.Flying.{Flying}
use Rattle.petal_disk.specs.declared.ticket.Ticket.{Ticket}
use Rattle.sector_bytes.specs.SectorMaps.{value_at}
use Rattle.world_state.specs.States.{core_at}
use Rattle.world_ready.proofs.Gone.{bars_all, one_more, past}
use Rattle.world_ready.proofs.clock.are_all_by_gone.Goals as goal
use Rattle.world_ready.proofs.clock.are_all_by_gone.Goals.{in-Some+else-not-is_by_gone, in_default}

pub returns-then-not-is_by_gone : goal.returns-then-not-is_by_gone
returns-then-not-is_by_gone c =
    let s = c.args.world.now in
    let passes : ℕ → Bool = λ ticket. is_flight (is_by_gone (core_at s)) (value_at (core_at s).flights ticket) in
    sym
    (bars_all passes s.flights.flying c.loop-i.i (c.in-Some.ticket, c.in-Some.field-0-1.now) (ap (λ (f : Flights). slice_get f.flying c.loop-i.i) (sym c.flights-flights.ensures) ∙ sym c.in-Some.ensures)
    (sym c.is_by_gone.ensures ∙ c.if-not-is_by_gone.true))

pub loop-i-preserved : goal.loop-i-preserved
loop-i-preserved c =
    let s = c.args.world.now in
    let passes : ℕ → Bool = λ ticket. is_flight (is_by_gone (core_at s)) (value_at (core_at s).flights ticket) in
    elim c.match-flying_at.branch [
      | in-Some+else-not-is_by_gone w ↦
          one_more passes s.flights.flying c.loop-i.i (w.in-Some.ticket, w.in-Some.field-0-1.now) (ap (λ (f : Flights). slice_get f.flying c.loop-i.i) (sym c.flights-flights.ensures) ∙ sym w.in-Some.ensures)
          c.loop-i.invariant (sym w.is_by_gone.ensures ∙ w.if-not-is_by_gone.false)
      | in_default w ↦
          let none : slice_get s.flights.flying c.loop-i.i ≡ None =
          ap (λ (f : Flights). slice_get f.flying c.loop-i.i) (sym c.flights-flights.ensures) ∙ sym c.flying_at.ensures
          ∙ ap (λ (o : Option (Ticket × Bor Flying)). option_map (λ write. (write.0, write.1.now)) o) w.in_default.is in
          let count : c.count-i-end.result ≡ length s.flights.flying = c.count-i-end.ensures.all ∙ ap (λ (f : Flights). length f.flying) c.flights-flights.ensures in
          let below : c.loop-i.i < length s.flights.flying = omega arith in
          absurd (past s.flights.flying c.loop-i.i none below)
    ]
