-- What is wanted may be issued, and what is kept of it is of a write in flight.
use Rattle.std.proofs.Common.{refl, sym, ap, ◌∙◌, subst}
use Rattle.std.specs.Option.{option_copied}
use Rattle.sector_bytes.specs.SectorMaps.{value_at}
use Rattle.core_definitions.specs.Cores.{writes}
use Rattle.core_definitions.specs.Flights.{is_flying}
use Rattle.core_definitions.specs.Settings.{setting_of}
use Rattle.core_definitions.specs.WriteGuards.{is_in_flight_window}
use Rattle.flight_laws.specs.Flights.{flight_of, flights_of}
use Rattle.frang_outside.specs.declared.act.Put.{Put}
use Rattle.petal_disk.specs.Flying.{flying_of}
use Rattle.server_issues.specs.Issuing.{write_of}
use Rattle.world_state.specs.States.{AreFlying, State, core_at}
use Rattle.world_state.proofs.InFlight.{flying_more}
use Rattle.world_state.proofs.KeptAlong.{kept_but}
use Rattle.world_state.proofs.Recovering.{is_party}
use Rattle.world_state.proofs.WritesIssued.{may_issue}
use Rattle.world_state.proofs.world.World.issue.Goals as goal

pub issue_by-requires-clause-may : goal.issue_by-requires-clause-may
issue_by-requires-clause-may c =
    let s : State = record { places = c.self.inside.places; run = c.self.inside.run; tick = c.self.inside.tick; parties = c.self.inside.parties; locks = c.self.inside.locks; flights = c.self.inside.flights; ticks = c.self.inside.ticks; over = c.self.inside.over } in
    let by = c.args.by.0 in
    let sector = c.args.sector.0 in
    may_issue c.the_log_counts_first.ensures.found s by sector (write_of c.args.write) c.args.write.purpose (option_copied c.recovery-recovery.result)
    (ap (λ (s : State). value_at (writes (core_at s) by) sector) c.self.view_is ∙ c.requires.write) refl (is_party (core_at c.args.self.now) by c.requires.worker)
    (ap (λ (s : State). is_in_flight_window (core_at s) by (value_at (writes (core_at s) by) sector)) c.self.view_is ∙ c.requires.window)
    c.recovery-recovery.ensures.is c.recovery-recovery.ensures.core c.recovery-recovery.ensures.fits
    (ap (λ (s : State). is_flying (core_at s).flights sector) c.self.view_is ∙ c.requires.free) (c.self.invariant.flying (ap (λ (s : State). s.over) c.self.view_is ∙ c.requires.going))

pub invariant_of-self : goal.invariant_of-self
invariant_of-self c =
    let s : State = record { places = c.self.inside.places; run = c.self.inside.run; tick = c.self.inside.tick; parties = c.self.inside.parties; locks = c.self.inside.locks; flights = c.self.inside.flights; ticks = c.self.inside.ticks; over = c.self.inside.over } in
    let parties = c.issue_by.new.parties in
    let put : Put = record { server = c.args.by; behalf = c.args.write.behalf; stamp = c.stamp.result; now = c.self.inside.tick; sector = c.args.sector; bytes = c.args.write.block } in
    kept_but s (record s { parties = parties; flights = c.put_in_flight.new.flights }) c.args.by.0 c.args.sector.0 c.self.invariant c.issue_by.ensures.keeps
    (ap (λ n. setting_of s.places.script n s.run) c.issue_by.ensures.becomes.stays.segments) c.self.invariant.clock c.self.invariant.counted
    (λ going. subst (AreFlying parties) (sym c.put_in_flight.ensures.flights)
    (flying_more (flights_of s.flights.flying) s.flights.next (flight_of (flying_of put c.args.write.purpose)) s.parties parties c.issue_by.ensures.keeps (c.self.invariant.flying going)))
