-- What a recovery wants done, event by event, and the sectors that are gathered of which a party may write some.
use Rattle.std.specs.Prelude.{◌≡◌, ℕ, ◌||◌, is_some, Option, Some, None, List, [], ◌∷◌, ◌++◌, map}
use Rattle.std.specs.List.{flat_map}
use Rattle.std.specs.Option.{option_map, option_to_list}
use Rattle.frang_base.specs.Functions.{member}
use Rattle.sector_bytes.specs.SectorMaps.{value_at}
use Rattle.clerk_cache.specs.Marks.{marks_of}
use Rattle.core_definitions.specs.Events.{Event, Load, Look}
use Rattle.core_definitions.specs.Logs.{log_sector}
use Rattle.core_definitions.specs.Rings.{next_write}
use Rattle.core_definitions.specs.Servers.{Server}
use Rattle.log_slots.specs.Reading.{log_rules}
use Rattle.recovery_demon.specs.Recovering.{Recovering, all_wanted}
use Rattle.recovery_demon.specs.declared.next.Next.{Next}
use Rattle.recovery_demon.specs.declared.next.Next.TheVariants as next

-- ---- what is done next in a recovery

abbrev pub load_of : ℕ → Next → List Event
load_of by (next.Load slot) = Load by slot ∷ []
load_of by (next.Look sector) = []
load_of by (next.Write sector) = []
load_of by (next.Done keeps) = []

abbrev pub look_of : ℕ → Next → List Event
look_of by (next.Load slot) = []
look_of by (next.Look sector) = Look by sector.0 ∷ []
look_of by (next.Write sector) = []
look_of by (next.Done keeps) = []

abbrev pub written_of : Next → List ℕ
written_of (next.Load slot) = []
written_of (next.Look sector) = []
written_of (next.Write sector) = sector.0 ∷ []
written_of (next.Done keeps) = []

-- ---- sectors that are gathered

-- sectors, kept as the keys of a map
abbrev pub SectorSet : Type 0
SectorSet = List (ℕ × Unit {0})

-- these have joined the others
abbrev pub Joins : List ℕ → SectorSet → SectorSet → Type 0
Joins sectors before after = (sector : ℕ) → is_some (value_at after sector) ≡ (is_some (value_at before sector) || member sector sectors)

-- of a server its log's next sector, and its dirty ones
abbrev pub log_sectors : ℕ → Server → List ℕ
log_sectors a server = option_to_list (option_map (λ next. log_sector log_rules a next.0) (next_write server.ring))

abbrev pub dirty_sectors : Server → List ℕ
dirty_sectors server = map (λ mark. mark.sector.0) (marks_of server.cache)

abbrev pub kept_sectors : ℕ → Server → List ℕ
kept_sectors a server = log_sectors a server ++ dirty_sectors server

-- those that a recovery, if there is one, wants written
abbrev pub rescue_sectors : Option Recovering → List ℕ
rescue_sectors None = []
rescue_sectors (Some r) = flat_map written_of (all_wanted r.segments r.recovery r.issued)
