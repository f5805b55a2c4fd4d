-- What is dirty beside file bytes: the zeros of blocks that are cleared, which are free until an operation takes them.
use Rattle.std.specs.Prelude.{◌≡◌, ℕ, Bool, true, false, ◌||◌, IsTrue, Some}
use Rattle.sector_bytes.specs.SectorMaps.{value_at}
use Rattle.cache_definitions.specs.Caches.{CachedSector, is_dirty, is_dirty_bytes}
use Rattle.core_definitions.specs.Cores.{Core}
use Rattle.core_definitions.specs.Events.{Event, Answer, Close, Heard, Nothing}
use Rattle.core_definitions.specs.Runs.{State as RunMoment, Makes, Step, Event_, next}
use Rattle.core_definitions.specs.Servers.{Server}
use Rattle.sector_world.specs.Histories.{settled}
use Rattle.sector_world.specs.Histories.Entry.{Synced}
use Rattle.sector_world.specs.Kinds.{Good}
use Rattle.sector_world.specs.HistoryBytes.{is_free}
use Rattle.sector_world.specs.World.{World, has_version}
use Rattle.core_world.specs.Journals.{Journal}
use Rattle.core_world.specs.Steps.{IsReached, IsWorldOf}
use Rattle.core_lives.specs.Idle.{is_idle, tells_sync}
use Rattle.core_lives.specs.Lives.{LeadsWith, is_of_lives}

-- each cached sector that is dirty, but isn't one of file bytes, and has no version is free
abbrev pub ClearedAreFree : (ℕ → Server) → World → Type 0
ClearedAreFree servers w =
    (a s : ℕ) (cached : CachedSector) → value_at (servers a).cache s ≡ Some cached → is_dirty cached ≡ true → is_dirty_bytes cached ≡ false → has_version w s ≡ false →
    is_free w.first (settled w.history) s ≡ true

-- each sector that is cached was cached before, as it is
abbrev pub CachesShrink : (ℕ → Server) → (ℕ → Server) → Type 0
CachesShrink servers next = (a s : ℕ) (cached : CachedSector) → value_at (next a).cache s ≡ Some cached → value_at (servers a).cache s ≡ Some cached

-- then it stays so, where the operations that are settled are the same
abbrev pub ClearedStayFree : Type 0
ClearedStayFree =
    (servers next : ℕ → Server) (w u : World) → CachesShrink servers next → u.first ≡ w.first → u.logged ≡ w.logged → settled u.history ≡ settled w.history → ClearedAreFree servers w →
    ClearedAreFree next u

-- the events on locks and lives, those that are none, answers and closes
abbrev pub is_shown_event : Core → Event → Bool
is_shown_event c (Answer a) = true
is_shown_event c (Close a) = true
is_shown_event c event = is_idle c event || is_of_lives event

-- a step beside the events, or an event on locks and lives, an answer, a close, or one that is none
abbrev pub is_shown : (s v : RunMoment) → Step s v → Bool
is_shown s v (Event_ event heard makes) = is_shown_event s.core event
is_shown s v step = true

-- the events cache nothing
abbrev pub LivesShrinkCaches : Type 0
LivesShrinkCaches =
    (s : RunMoment) (event : Event) (heard : Heard) → IsReached s → Makes s event heard → IsTrue (is_shown_event s.core event) →
    CachesShrink s.core.servers (next s event heard).core.servers

-- ---- a sync

-- where cleared blocks are free it is Sync
abbrev pub SyncsLeadOn : Type 0
SyncsLeadOn =
    (s : RunMoment) (w : World) (journal : ℕ → Journal) (a : ℕ) → IsReached s → IsWorldOf s w journal → Good w → ClearedAreFree s.core.servers w → Makes s (Answer a) Nothing →
    IsTrue (tells_sync s.core a) → LeadsWith w (next s (Answer a) Nothing) journal (Synced a (w.last a))
