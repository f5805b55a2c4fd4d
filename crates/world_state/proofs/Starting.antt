-- Before anything has happened the world is the first core.
use Rattle.std.proofs.Common.{◌≡◌, ℕ, Bool, false, List, [], ◌∙◌}
use Rattle.frang_base.specs.declared.script.Line.{Line}
use Rattle.lock_definitions.specs.Locks.{no_locks}
use Rattle.lock_table.specs.Table.{Table}
use Rattle.petal_disk.specs.Flights.{Flights}
use Rattle.flight_laws.specs.Flights.{flights_of}
use Rattle.core_definitions.specs.Cores.{first_core}
use Rattle.core_definitions.specs.Servers.{Server, first_server}
use Rattle.core_definitions.specs.Settings.{setting_of}
use Rattle.script_places.specs.Placed.{Placed, mark_count, placed_first}
use Rattle.world_definitions.proofs.Changing.{all_same}
use Rattle.world_parties.specs.States.{State as Parties, held_at, servers_at}
use Rattle.world_state.specs.States.{core_at}

pub first_is : (script : List Line) (segments run : ℕ) (places : Placed) (parties : Parties) (table : Table) (flights : Flights) → places ≡ placed_first script
    → ◌≡◌ {A = ℕ → Server} (servers_at parties) (λ a. first_server) → parties.segments ≡ segments → ◌≡◌ {A = ℕ → Bool} (held_at parties) (λ a. false) → table.locks ≡ no_locks
    → flights.flying ≡ [] → flights.next ≡ 0
    → core_at (record { places = places; run = run; tick = 0; parties = parties; locks = table; flights = flights; ticks = 0; over = false }) ≡ first_core (setting_of script segments run)
first_is script segments run places parties table flights at_first never disk none_held unlocked none next =
    (λ i. record (core_at (record { places = at_first i; run = run; tick = 0; parties = record parties { segments = disk i }; locks = table; flights = flights; ticks = 0; over = false })) {
      servers = never i;
      paused = none_held i;
      locks = unlocked i;
      flights = flights_of (none i);
      tickets = next i;
    })
    ∙ (λ i. record (first_core (setting_of script segments run)) { answered = λ n. all_same (mark_count script) false n i; passed = λ n. all_same (mark_count script) false n i })
