-- Which writes a party may issue, of a server that is asked and of the host.
use Rattle.std.specs.Prelude.{◌≡◌, ℕ, Bool, true, if◌then◌else◌, is_some, Option, Some, None, List, []}
use Rattle.sector_bytes.specs.SectorMaps.{Ascend, value_at}
use Rattle.core_definitions.specs.Cores.{writes}
use Rattle.core_definitions.specs.LineGuards.{is_server}
use Rattle.core_definitions.specs.Scripts.{host_party}
use Rattle.core_definitions.specs.WriteGuards.{may_issue}
use Rattle.world_asks.specs.Asking.{Asked, core_of}
use Rattle.world_list.specs.Wanting.{SectorSet, kept_sectors}
use Rattle.world_state.specs.States.{State, core_at}

-- the server that is asked, or else the host, may issue a write of a sector
abbrev pub may_write : State → Option Asked → ℕ → Bool
may_write s (Some asked) sector = may_issue (core_of asked) asked.number sector (writes (core_of asked) asked.number)
may_write s None sector = may_issue (core_at s) host_party sector (writes (core_at s) host_party)

-- sectors, ascending, of which each that the party may write now is one
pub record AreCandidates (s : State) (a : ℕ) (sectors : SectorSet) : Type 0 where
  pub ordered : Ascend sectors
  pub all : (sector : ℕ) → may_issue (core_at s) a sector (writes (core_at s) a) ≡ true → is_some (value_at sectors sector) ≡ true

-- what a server keeps; the host keeps nothing
abbrev pub server_sectors : State → ℕ → List ℕ
server_sectors s a = if is_server a then kept_sectors a ((core_at s).servers a) else []
