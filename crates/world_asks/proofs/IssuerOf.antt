-- A server that is asked, as it may issue writes, is the core's.
use Rattle.std.proofs.Common.{◌≡◌, ℕ, Bool, true, ◌&&◌, is_some, IfSome, Option, Some, None, List, refl, sym, ap, ◌∙◌, subst}
use Rattle.frang_base.specs.Functions.{member}
use Rattle.frang_base.specs.declared.sector.Sector.{Sector}
use Rattle.clerk_cache.specs.Dropping.{numbers_of}
use Rattle.flight_laws.specs.Flights.{flights_of}
use Rattle.lock_table.specs.Table.{Table}
use Rattle.log_slots.specs.Reading.{log_rules}
use Rattle.petal_disk.specs.Flights.{Flights}
use Rattle.core_definitions.specs.Cores.{Core, stage}
use Rattle.core_definitions.specs.Flights.{is_flying}
use Rattle.core_definitions.specs.Rings.{is_oldest_named}
use Rattle.core_definitions.specs.Writes.{lacks_room}
use Rattle.line_stages.specs.Oldest.{AreOldest}
use Rattle.recovery_demon.specs.Recovering.{Recovering}
use Rattle.ring_definitions.specs.Rings.{Ring}
use Rattle.sector_bytes.specs.SectorMaps.{value_at}
use Rattle.server_issues.specs.Issuing.{IsIssuing, IsRecoveryOf}
use Rattle.world_parties.specs.States.{IsRecovery, issued_in, recovery_in}
use Rattle.world_parties.specs.declared.party.Party.{Party}
use Rattle.world_asks.specs.Asking.{Asked, IsPartyOf, core_of, stage_in}

recovery_of : (c : Core) (by : ℕ) (recovery : Option Recovering) → IsRecovery c.setting.segments by recovery
    → ((sector : ℕ) → is_some (value_at (issued_in recovery) sector) ≡ true → is_flying c.flights sector ≡ true) → IfSome recovery (IsRecoveryOf c)
recovery_of c by None fits flying = tt
recovery_of c by (Some r) fits flying = record { segments = sym fits.disk; issued = flying }

-- what a list is said to be of a log, where the line lacks room in it
abbrev pub SaysRoom : Bool → List Sector → List Sector → Type 0
SaysRoom lacks oldest room =
    (ring : Ring) → (lacks ≡ true → AreOldest ring (numbers_of oldest)) → (s : ℕ) → member s (numbers_of room) ≡ (lacks && is_oldest_named log_rules ring s)

pub issuing_is : (asked : Asked) (party : Party) (recovery : Option Recovering) (table : Table) (flights : Flights) (tick : ℕ) (lacks : Bool) (oldest room : List Sector) → IsPartyOf asked party
    → recovery ≡ party.recovery → table.locks ≡ asked.world.locks.locks → flights ≡ asked.world.flights → tick ≡ asked.world.tick → lacks ≡ lacks_room log_rules party.server.server.ring (stage_in asked)
    → (lacks_room log_rules party.server.server.ring (stage_in asked) ≡ true → AreOldest party.server.server.ring (numbers_of oldest)) → SaysRoom lacks oldest room
    → IsIssuing (core_of asked) (record { server = party.server; recovery = recovery; locks = table.locks; flights = flights.flying; tick = tick; waits = lacks; room = numbers_of room })
unfolding log_rules
issuing_is asked party recovery table flights tick lacks oldest room of recovery_is table_is flights_are tick_is lacks_so known says = record {
  server = ap (λ n. (core_of asked).servers n) of.number ∙ of.server ∙ ap (λ (o : Option Recovering). record party.server.server { recovery = recovery_in o }) (sym recovery_is);
  locks = sym table_is;
  flights = ap (λ (f : Flights). flights_of f.flying) (sym flights_are);
  tick = sym tick_is;
  logs = refl;
  margin = refl;
  recovery = let P : Option Recovering → Type 0 = λ o. IfSome o (IsRecoveryOf (core_of asked)) in
      subst P (sym recovery_is) (recovery_of (core_of asked) asked.number party.recovery of.fits of.flies.issued);
  waits = ap (λ n. lacks_room log_rules party.server.server.ring (stage (core_of asked) n)) of.number ∙ sym lacks_so;
  room = λ s. says party.server.server.ring (λ so. known (sym lacks_so ∙ so)) s
      ∙ ap (λ (t : Bool). t && is_oldest_named log_rules party.server.server.ring s) (lacks_so ∙ ap (λ n. lacks_room log_rules party.server.server.ring (stage (core_of asked) n)) (sym of.number));
  flagged = of.flies.flagged;
}
