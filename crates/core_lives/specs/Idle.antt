-- The steps of the core that are none on the side of sectors: each world of the moment is one of the next, with the same journals.
use Rattle.std.specs.Prelude.{ℕ, Bool, true, false, not, ◌&&◌, ◌||◌, IsTrue, Option, Some, None}
use Rattle.frang_base.specs.declared.reply.Reply.{Reply}
use Rattle.frang_base.specs.declared.said.Said.{Said}
use Rattle.lock_definitions.specs.Locks.{Locks}
use Rattle.lock_definitions.specs.Same.{SameLocks}
use Rattle.tree_definitions.specs.Touched.{is_mounted, is_sync, is_unmount}
use Rattle.tree_definitions.specs.Transcript.{is_mount}
use Rattle.core_definitions.specs.Cores.{Core, clean_at, due_at, stage}
use Rattle.core_definitions.specs.Events.{Event, Begin, Fetch, Again, Answer, Doom, HostLine, Close, Read, Show, End, Heard}
use Rattle.core_definitions.specs.LineGuards.{is_grown, is_moved}
use Rattle.core_definitions.specs.Runs.{State as RunMoment, Makes, entered, flushed, held_on, next, noted, peek_failed, relocked}
use Rattle.core_definitions.specs.Servers.{asks, is_off}
use Rattle.sector_world.specs.World.{World}
use Rattle.core_world.specs.Events.{LeadsQuietly}
use Rattle.core_world.specs.Journals.{Journal}
use Rattle.core_world.specs.Steps.{IsReached, IsWorldOf}

-- each world of the one moment is one of the other
abbrev pub KeepsWorlds : RunMoment → RunMoment → Type 0
KeepsWorlds s v = (w : World) (journal : ℕ → Journal) → IsWorldOf s w journal → IsWorldOf v w journal

-- so no event leads there, and of none there is nothing to tell
abbrev pub KeptWorldsAreQuiet : Type 0
KeptWorldsAreQuiet = (s v : RunMoment) (w : World) (journal : ℕ → Journal) → KeepsWorlds s v → IsWorldOf s w journal → LeadsQuietly w v journal

-- ---- answers

abbrev pub is_mounted_answer : Option Reply → Bool
is_mounted_answer None = false
is_mounted_answer (Some answer) = is_mounted answer

-- the answer that is due begins a mount
abbrev pub begins_mount : Core → ℕ → Bool
begins_mount c a = asks is_mount (c.servers a) && is_mounted_answer (due_at c a)

-- it ends one well
abbrev pub ends_mount : Core → ℕ → Bool
ends_mount c a = asks is_unmount (c.servers a)

-- it says that all is synced
abbrev pub tells_sync : Core → ℕ → Bool
tells_sync c a = asks is_sync (c.servers a)

-- ---- events

-- a line begins, is refused, arms or stalls its server, or its set is made anew or grows; a slot is read for a mount, or isn't; a server is doomed, or wants everything written at
-- the end; the host answers, and reads and says the tree
abbrev pub is_idle : Core → Event → Bool
is_idle c (Begin a) = true
is_idle c (Fetch a sector) = is_off (c.servers a).phase
is_idle c (Again a) = is_moved (stage c a) || is_grown (stage c a)
is_idle c (Answer a) = not (begins_mount c a || ends_mount c a || tells_sync c a)
is_idle c (Doom a) = true
is_idle c (HostLine number) = true
is_idle c (Close a) = not (clean_at c a)
is_idle c (Read sector) = true
is_idle c (Show place) = true
is_idle c End = true
is_idle c event = false

-- these, of a run
abbrev pub IdleEventsKeepWorlds : Type 0
IdleEventsKeepWorlds =
    (s : RunMoment) (event : Event) (heard : Heard) → IsReached s → Makes s event heard → IsTrue (is_idle s.core event) → KeepsWorlds s (next s event heard)

-- ---- the steps beside the events

abbrev pub EntersKeepWorlds : Type 0
EntersKeepWorlds = (s : RunMoment) (line : ℕ) → KeepsWorlds s (entered s line)

abbrev pub HoldsKeepWorlds : Type 0
HoldsKeepWorlds = (s : RunMoment) (a : ℕ) (on : Bool) → KeepsWorlds s (held_on s a on)

abbrev pub FlushesKeepWorlds : Type 0
FlushesKeepWorlds = (s : RunMoment) (a : ℕ) → KeepsWorlds s (flushed s a)

abbrev pub RelocksKeepWorlds : Type 0
RelocksKeepWorlds = (s : RunMoment) (locks : Locks) → SameLocks locks s.core.locks → KeepsWorlds s (relocked s locks)

abbrev pub NotesKeepWorlds : Type 0
NotesKeepWorlds = (s : RunMoment) (line : Said) → KeepsWorlds s (noted s line)

abbrev pub PeeksKeepWorlds : Type 0
PeeksKeepWorlds = (s : RunMoment) → KeepsWorlds s (peek_failed s)
