-- Recoveries that end.
use Rattle.std.specs.Prelude.{◌≡◌, ℕ, Some}
use Rattle.disk_definitions.specs.Replay.{slots_of}
use Rattle.core_definitions.specs.Events.{Finish, Nothing}
use Rattle.core_definitions.specs.Recoveries.{Recovery}
use Rattle.core_definitions.specs.Runs.{State as RunMoment, Makes, next}
use Rattle.sector_world.specs.Histories.Entry.{Recovered}
use Rattle.sector_world.specs.Kinds.{Good}
use Rattle.sector_world.specs.World.{World}
use Rattle.core_lives.specs.Lives.{LeadsWith}
use Rattle.core_world.specs.Journals.{IsAtRest, Journal, sector_log}
use Rattle.core_world.specs.Steps.{IsReached, IsWorldOf}

-- a Finish; that the log is sealed then, and its records in place, is another law's, and asked for here
abbrev pub FinishesLeadOn : Type 0
FinishesLeadOn =
    (s : RunMoment) (w : World) (journal : ℕ → Journal) (by : ℕ) (recovery : Recovery) → IsReached s → IsWorldOf s w journal → Good w → Makes s (Finish by) Nothing →
    (s.core.servers by).recovery ≡ Some recovery → IsAtRest (slots_of s.disk recovery.dead) (sector_log w recovery.dead) →
    LeadsWith w (next s (Finish by) Nothing) journal (Recovered recovery.dead (w.durable recovery.dead))
