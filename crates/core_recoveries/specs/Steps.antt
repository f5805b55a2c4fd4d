-- All that is shown here, as the step law says it: from a world of a moment events lead on to one of the next, and the history has what they tell.
use Rattle.std.specs.Prelude.{◌≡◌, ℕ, Bool, true, false, IsTrue, Some}
use Rattle.disk_definitions.specs.Replay.{slots_of}
use Rattle.core_definitions.specs.Events.{Event, Recover, Load, Look, Finish, Heard, Got}
use Rattle.core_definitions.specs.LineGuards.{is_server}
use Rattle.core_definitions.specs.Recoveries.{Recovery}
use Rattle.core_definitions.specs.Runs.{State as RunMoment, Makes, next}
use Rattle.sector_world.specs.Kinds.{Good}
use Rattle.sector_world.specs.World.{World}
use Rattle.core_lives.specs.Cleared.{ClearedAreFree}
use Rattle.core_lives.specs.Room.{HasRoom}
use Rattle.core_lives.specs.Steps.{GoesOn}
use Rattle.core_world.specs.Journals.{AreReadings, IsAtRest, Journal, sector_log}
use Rattle.core_world.specs.Steps.{IsReached, IsWorldOf}

-- a recovery begins, reads a slot, looks at a sector, or ends
abbrev pub is_of_recoveries : Event → Bool
is_of_recoveries (Recover dead by) = true
is_of_recoveries (Load by slot) = true
is_of_recoveries (Look by sector) = true
is_of_recoveries (Finish by) = true
is_of_recoveries event = false

-- what is asked of the logs, which isn't shown here: where a slot is read, that what is read once all is replays as the records of the theorem on sectors; where a recovery ends, that the
-- log is sealed and its records are in place
abbrev pub AreLogsAsAsked : RunMoment → World → Event → Heard → Type 0
AreLogsAsAsked s w (Load by slot) (Got block) = AreReadings s.core.setting.segments (next s (Load by slot) (Got block)).core.servers w
AreLogsAsAsked s w (Finish by) heard = (recovery : Recovery) → (s.core.servers by).recovery ≡ Some recovery → IsAtRest (slots_of s.disk recovery.dead) (sector_log w recovery.dead)
AreLogsAsAsked s w event heard = Unit {0}

-- where cleared blocks are free and logs have room
abbrev pub RecoveriesGoOn : Type 0
RecoveriesGoOn =
    (s : RunMoment) (w : World) (journal : ℕ → Journal) (event : Event) (heard : Heard) → IsReached s → IsWorldOf s w journal → Good w → Makes s event heard → IsTrue (is_of_recoveries event) →
    AreLogsAsAsked s w event heard → ClearedAreFree s.core.servers w → ((a : ℕ) → IsTrue (is_server a) → HasRoom s a) → GoesOn w (next s event heard) journal
