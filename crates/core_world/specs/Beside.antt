-- What stands beside a world and the ties along a run: where the marks of dirty sectors lie, what of a log stands while a lease lasts, and that nothing is in flight in a log.
use Rattle.std.specs.Prelude.{◌≡◌, ◌≤◌, ◌<◌, ◌⊎◌, ℕ, Bool, true, false, IsTrue, Option, Some, None, List}
use Rattle.frang_base.specs.declared.limits.TheConstants.{LOG_SECTORS}
use Rattle.disk_definitions.specs.Replay.{slots_of}
use Rattle.sector_bytes.specs.SectorMaps.{value_at}
use Rattle.sector_bytes.specs.Sectors.{Sectors}
use Rattle.cache_definitions.specs.declared.dirt.Dirt.{Dirt}
use Rattle.cache_definitions.specs.Caches.{CachedSector}
use Rattle.core_definitions.specs.LineGuards.{is_server}
use Rattle.core_definitions.specs.Servers.{Server, is_dead}
use Rattle.sector_world.specs.Histories.{Item, settled}
use Rattle.sector_world.specs.Steps.{Event}
use Rattle.sector_world.specs.Steps.Event.{Ack, Issue, IssueBytes, Replay}
use Rattle.sector_world.specs.World.{World, Slot, Dirty, Page, DirtyPage}
use Rattle.core_world.specs.Journals.{IsOwn, Journal}
use Rattle.core_world.specs.Ties.{is_log_sector}

-- ---- where marks lie

-- a mark of the core and one of the world: both are acknowledged, or the world's is an operation of the server that ends at the core's
abbrev pub IsEnd : (ℕ → ℕ) → (reached acked a : ℕ) → List Item → (mark m : ℕ) → Type 0
IsEnd ends reached acked a h mark m = ((mark ≤ reached) × (m ≤ acked)) ⊎ (IsOwn a m h × (ends m ≡ mark))

-- so it is of both marks of a dirty slot
abbrev pub AtSlot : (ℕ → ℕ → Type 0) → ℕ → Slot → Type 0
AtSlot Ties mark (Dirty block m) = Ties mark m
AtSlot Ties mark slot = Unit {0}

-- of a dirty page
abbrev pub AtPage : (ℕ → ℕ → Type 0) → ℕ → Page → Type 0
AtPage Ties mark (DirtyPage block m) = Ties mark m
AtPage Ties mark page = Unit {0}

-- of what is dirty in the core
abbrev pub AtDirt : (ℕ → ℕ → Type 0) → Option Dirt → Slot → Page → Type 0
AtDirt Ties None slot page = Unit {0}
AtDirt Ties (Some dirt) slot page = AtSlot Ties dirt.mark slot × AtPage Ties dirt.mark page

-- of what is cached there
abbrev pub AtCached : (ℕ → ℕ → Type 0) → Option CachedSector → Slot → Page → Type 0
AtCached Ties None slot page = Unit {0}
AtCached Ties (Some kept) slot page = AtDirt Ties kept.dirt slot page

-- at each server and sector: the marks are where the journal has the operations end
abbrev pub AreEnds : (ℕ → Server) → World → (ℕ → Journal) → Type 0
AreEnds servers w journal =
    (a s : ℕ) → IsTrue (is_server a) →
    AtCached (IsEnd (journal a).ends (servers a).ring.reached (w.acked a) a (settled w.history)) (value_at (servers a).cache s) (w.slot a s) (w.page a s)

-- ---- logs of dead servers

-- the log of a dead server whose lease isn't over stands on the disk as its journal has it, with nothing of a seal
abbrev pub AreOpen : (ℕ → Server) → ℕ → Sectors → (ℕ → Journal) → Type 0
AreOpen servers now disk journal =
    (a : ℕ) → IsTrue (is_server a) → IsTrue (is_dead (servers a).phase) → now ≤ (servers a).expiry → (slot : ℕ) → slot < LOG_SECTORS → slots_of disk a slot ≡ (journal a).log.slots slot

-- ---- writes in logs

-- the world has nothing in flight at the sector
abbrev pub NoneFlies : World → ℕ → Type 0
NoneFlies w sector = (w.flight sector ≡ None) × (w.byte_flight sector ≡ None)

-- nor at any in a log
abbrev pub NoneInLogs : ℕ → World → Type 0
NoneInLogs segments w = (x : ℕ) → is_log_sector segments x ≡ true → NoneFlies w x

-- what an event issues lies in no log
abbrev pub IsOutOfLogs : ℕ → Event → Type 0
IsOutOfLogs segments (Issue a x block mark) = is_log_sector segments x ≡ false
IsOutOfLogs segments (IssueBytes a x block mark) = is_log_sector segments x ≡ false
IsOutOfLogs segments (Replay r x block) = is_log_sector segments x ≡ false
IsOutOfLogs segments event = Unit {0}

-- ---- what is known of logs

-- it isn't less than before
abbrev pub KnowsMore : World → Event → Type 0
KnowsMore w (Ack a k) = w.acked a ≤ k
KnowsMore w event = Unit {0}
