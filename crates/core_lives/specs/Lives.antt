-- The events of the core on locks and lives as events of a world.
use Rattle.std.specs.Prelude.{◌≡◌, ◌<◌, ◌^◌, ℕ, Bool, true, false, ◌∷◌, IsTrue}
use Rattle.frang_base.specs.Functions.{put}
use Rattle.frang_base.specs.declared.limits.TheConstants.{SERVERS}
use Rattle.disk_definitions.specs.Logs.{log_end}
use Rattle.disk_definitions.specs.Replay.{slots_of}
use Rattle.core_definitions.specs.Cores.{clean_at}
use Rattle.sector_world.specs.Histories.{Entry}
use Rattle.sector_world.specs.Histories.Entry.{Mounted, Synced}
use Rattle.core_lives.specs.Idle.{begins_mount, ends_mount}
use Rattle.core_definitions.specs.Events.{Event, Ask, Answer, Give, Resume, Die, Renew, Tick, Close, Nothing}
use Rattle.core_definitions.specs.Runs.{State as RunMoment, Makes, next}
use Rattle.sector_world.specs.Kinds.{Good}
use Rattle.sector_world.specs.World.{World}
use Rattle.core_world.specs.Events.{LeadsQuietly}
use Rattle.core_world.specs.Journals.{Journal, journal_at}
use Rattle.core_world.specs.Quiet.{AllQuiet}
use Rattle.core_world.specs.Steps.{IsReached, IsWorldOf, Leads}

-- ---- events that leave the history

-- a lock is asked, granted or not, or given; a server's lease is renewed, or it goes on behind a stall; it dies; the clock goes on
abbrev pub is_of_lives : Event → Bool
is_of_lives (Ask a lock mode) = true
is_of_lives (Give a lock) = true
is_of_lives (Resume a) = true
is_of_lives (Die a) = true
is_of_lives (Renew a) = true
is_of_lives Tick = true
is_of_lives event = false

-- from each moment of a run with a good world events lead to a world of the next, and leave the history as it was
abbrev pub LivesLeadOn : Type 0
LivesLeadOn =
    (s : RunMoment) (w : World) (journal : ℕ → Journal) (event : Event) → IsReached s → IsWorldOf s w journal → Good w → Makes s event Nothing → IsTrue (is_of_lives event) →
    LeadsQuietly w (next s event Nothing) journal

-- ---- events of which an entry of the history tells

-- the history has this entry more, and what it began with is the same
pub record HasEntry (w u : World) (entry : Entry) : Type 0 where
  pub servers : u.servers ≡ w.servers
  pub opening : u.opening ≡ w.opening
  pub logged : u.logged ≡ w.logged
  pub first : u.first ≡ w.first
  pub home : u.home ≡ w.home
  pub history : u.history ≡ entry ∷ w.history

-- quiet events that lead to the next moment with these journals, and of which this entry tells
pub record LeadsWith (w : World) (v : RunMoment) (journal : ℕ → Journal) (entry : Entry) : Type 0 where
  pub leads : Leads w v journal
  pub story : HasEntry w leads.world entry
  pub quiet : AllQuiet v.core.setting.segments w leads.events

-- an unmount
abbrev pub UnmountsLeadOn : Type 0
UnmountsLeadOn =
    (s : RunMoment) (w : World) (journal : ℕ → Journal) (a : ℕ) → IsReached s → IsWorldOf s w journal → Good w → Makes s (Answer a) Nothing →
    IsTrue (ends_mount s.core a) → LeadsWith w (next s (Answer a) Nothing) journal (Synced a (w.last a))

-- so a server that is clean leaves at the end
abbrev pub ClosesLeadOn : Type 0
ClosesLeadOn =
    (s : RunMoment) (w : World) (journal : ℕ → Journal) (a : ℕ) → IsReached s → IsWorldOf s w journal → Good w → Makes s (Close a) Nothing →
    IsTrue (clean_at s.core a) → LeadsWith w (next s (Close a) Nothing) journal (Synced a (w.last a))

-- a mount, of one of sixteen servers, whose log ends far below where its numbers end; its journal begins behind what it read
abbrev pub MountsLeadOn : Type 0
MountsLeadOn =
    (s : RunMoment) (w : World) (journal : ℕ → Journal) (a : ℕ) → IsReached s → IsWorldOf s w journal → Good w → w.servers ≡ SERVERS → log_end (slots_of s.disk a) < 2 ^ 62 →
    Makes s (Answer a) Nothing →
    IsTrue (begins_mount s.core a) → LeadsWith w (next s (Answer a) Nothing) (put journal a (journal_at (slots_of s.disk a))) (Mounted a (w.last a))
