-- All that is shown here, as the step law says it: from a world of a moment events lead on to one of the next, and the history has what they tell.
use Rattle.std.specs.Prelude.{◌≡◌, ℕ, List, ◌++◌, if◌then◌else◌, IsTrue}
use Rattle.frang_base.specs.Functions.{put}
use Rattle.frang_base.specs.declared.limits.TheConstants.{SERVERS}
use Rattle.disk_definitions.specs.Replay.{slots_of}
use Rattle.core_definitions.specs.LineGuards.{is_server}
use Rattle.core_definitions.specs.Events.{Event, Answer}
use Rattle.core_definitions.specs.Runs.{State as RunMoment, Step, Event_}
use Rattle.sector_world.specs.Histories.{Entry}
use Rattle.sector_world.specs.Kinds.{Good}
use Rattle.sector_world.specs.World.{World}
use Rattle.core_world.specs.Journals.{Journal, journal_at}
use Rattle.core_world.specs.Quiet.{AllQuiet}
use Rattle.core_world.specs.Steps.{IsReached, IsWorldOf, Leads}
use Rattle.core_lives.specs.Cleared.{ClearedAreFree, is_shown}
use Rattle.core_lives.specs.Idle.{begins_mount}
use Rattle.core_lives.specs.Room.{HasRoom}

-- the history has these entries more, the newest first, and what it began with is the same
pub record HasEntries (w u : World) (entries : List Entry) : Type 0 where
  pub servers : u.servers ≡ w.servers
  pub opening : u.opening ≡ w.opening
  pub logged : u.logged ≡ w.logged
  pub first : u.first ≡ w.first
  pub home : u.home ≡ w.home
  pub history : u.history ≡ entries ++ w.history

-- quiet events lead to the next moment with these journals, these entries tell of them, cleared blocks are free there, and logs have room
pub record GoesOn (w : World) (v : RunMoment) (journal : ℕ → Journal) : Type 0 where
  pub leads : Leads w v journal
  pub entries : List Entry
  pub story : HasEntries w leads.world entries
  pub quiet : AllQuiet v.core.setting.segments w leads.events
  pub cleared : ClearedAreFree v.core.servers leads.world
  pub room : (a : ℕ) → IsTrue (is_server a) → HasRoom v a

-- the journals behind an event: that of a server whose mount is answered begins behind what it read, and all others are as they were
abbrev pub journals_behind_event : RunMoment → Event → (ℕ → Journal) → ℕ → Journal
journals_behind_event s (Answer a) journal = if begins_mount s.core a then put journal a (journal_at (slots_of s.disk a)) else journal
journals_behind_event s event journal = journal

-- behind a step
abbrev pub journals_behind : (s v : RunMoment) → Step s v → (ℕ → Journal) → ℕ → Journal
journals_behind s v (Event_ event heard makes) journal = journals_behind_event s event journal
journals_behind s v step journal = journal

-- of sixteen servers, where cleared blocks are free and logs have room
abbrev pub StepsGoOn : Type 0
StepsGoOn =
    (s v : RunMoment) (w : World) (journal : ℕ → Journal) (step : Step s v) → IsTrue (is_shown s v step) → IsReached s → IsWorldOf s w journal → Good w → w.servers ≡ SERVERS →
    ClearedAreFree s.core.servers w → ((a : ℕ) → IsTrue (is_server a) → HasRoom s a) → GoesOn w v (journals_behind s v step journal)
