-- Once a write has arrived, what is kept of writes in flight is of those that are left.
use Rattle.std.proofs.Common.{◌≡◌, ◌≤◌, ◌==◌, ℕ, Bool, true, false, ◌||◌, Some, refl, sym, ap, ◌∙◌, subst}
use Rattle.std.specs.Option.{option_map}
use Rattle.frang_base.specs.declared.limits.TheConstants.{LAST_TICK}
use Rattle.sector_bytes.specs.SectorMaps.{value_at}
use Rattle.petal_disk.specs.Arriving.{left_by}
use Rattle.petal_disk.specs.Flights.{write_at}
use Rattle.petal_disk.specs.declared.flying.Flying.{Flying}
use Rattle.petal_disk.specs.declared.ticket.Arrived.{Arrived}
use Rattle.petal_disk.specs.declared.ticket.Arrived.TheVariants.{Written, Late, Failed, NoMemory}
use Rattle.flight_laws.specs.Flights.{flight_of, flights_of}
use Rattle.flight_laws.specs.Laws.{ALandedWriteIsTheCores, AWriteIsTheCores}
use Rattle.core_definitions.specs.Scripts.{host_party}
use Rattle.core_definitions.specs.Servers.{Server}
use Rattle.core_definitions.specs.Settings.{setting_of}
use Rattle.world_parties.specs.States.{Keeps, State as Parties, servers_at}
use Rattle.world_state.specs.Arrivals.{Lands, Leaves, ends_core, servers_failed, servers_taken}
use Rattle.world_state.specs.States.{AreFlying, IsKept, State, core_at}
use Rattle.world_parties.proofs.Keeping.{keeps_all}
use Rattle.world_state.proofs.Lasting.{flying_landed, kept_lasts}

-- while it isn't over, nothing that is kept of writes in flight is of this one
pub lands_kept : (s new : State) (ticket : ℕ) (flying : Flying) (how : Arrived) → AWriteIsTheCores → ALandedWriteIsTheCores → IsKept s → write_at s.flights.flying ticket ≡ Some flying
    → Lands s.parties new.parties flying how → new.flights.flying ≡ left_by how s.flights.flying ticket → new.over ≡ (s.over || ends_core how flying.put.server.0)
    → new.tick ≤ LAST_TICK → new.ticks ≤ new.tick → new.places ≡ s.places → new.run ≡ s.run → IsKept new
lands_kept s new ticket flying how write_law landed_law kept at lands gone ended clock counted places run = go how lands gone ended
  where
    there : value_at (core_at s).flights ticket ≡ Some (flight_of flying)
    there = write_law s.flights.flying ticket ∙ ap (option_map flight_of) at

    not_over : (b d : Bool) → new.over ≡ (b || d) → new.over ≡ false → b ≡ false
    not_over false d is off = refl
    not_over true d is off = sym is ∙ off

    by_leaving : (servers : ℕ → Server) (d : Bool) → Leaves s.parties new.parties flying servers → new.flights.flying ≡ left_by Written s.flights.flying ticket → new.over ≡ (s.over || d) → IsKept new
    by_leaving servers d leaves gone ended =
        kept_lasts s new kept leaves.keeps (λ i. setting_of (places i).script (leaves.stays.segments i) (run i)) clock counted
        (λ off. subst (AreFlying new.parties) (sym (ap flights_of gone ∙ landed_law s.flights.flying ticket))
        (flying_landed s.parties new.parties (flights_of s.flights.flying) ticket (flight_of flying) there leaves.forgotten.flag leaves.forgotten.issued
        (kept.flying (not_over s.over d ended off)) leaves.keeps))

    by_staying : (d : Bool) → new.parties ≡ s.parties → new.flights.flying ≡ s.flights.flying → new.over ≡ (s.over || d) → IsKept new
    by_staying d same_parties same_flights ended =
        kept_lasts s new kept (subst (Keeps s.parties) (sym same_parties) (keeps_all s.parties)) (λ i. setting_of (places i).script (same_parties i).segments (run i)) clock counted
        (λ off. subst (λ (p : Parties). AreFlying p (flights_of new.flights.flying)) (sym same_parties) (subst (λ f. AreFlying s.parties (flights_of f)) (sym same_flights) (kept.flying (not_over s.over d ended off))))

    go : (how : Arrived) → Lands s.parties new.parties flying how → new.flights.flying ≡ left_by how s.flights.flying ticket → new.over ≡ (s.over || ends_core how flying.put.server.0) → IsKept new
    go Written lands gone ended = by_leaving (servers_taken s.parties flying) false lands gone ended
    go (Late stamp now) lands gone ended = by_leaving (servers_at s.parties) false lands gone ended
    go Failed lands gone ended = by_leaving (servers_failed s.parties flying.put.server.0) (flying.put.server.0 == host_party) lands gone ended
    go NoMemory lands gone ended = by_staying false lands gone ended
