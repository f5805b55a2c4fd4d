-- That a seal comes behind the replay goes on at each step, with the journals that the laws of steps name.
use Rattle.std.specs.Prelude.{◌≡◌, ◌<◌, ℕ, List}
use Rattle.core_definitions.specs.Runs.{State as RunMoment, Step}
use Rattle.sector_world.specs.Kinds.{Good}
use Rattle.sector_world.specs.Steps.{Event, Run}
use Rattle.sector_world.specs.World.{World, Dead}
use Rattle.core_world.specs.Journals.{Journal}
use Rattle.core_world.specs.Steps.{IsReached, IsWorldOf, Leads}
use Rattle.core_readings.specs.Logs.{AreSealedBehind, IsReplayed}
use Rattle.core_log_steps.specs.Journals.{HaveSameLogs, journals_next}
use Rattle.core_log_steps.specs.Steps.{AreFit, AreStanding}

-- ---- what is in place of a dead server's log stays so

-- by any events that may happen: while its lease is over nothing more of its log is durable, no operation of it is done, and versions rise. Where it is recovered and mounts again it has
-- another lease
abbrev pub ReplayedStay : Type 0
ReplayedStay =
    (w u : World) (events : List Event) (d : ℕ) → Run w events u → Good w → w.phase d ≡ Dead → w.expiry d < w.now → u.phase d ≡ Dead → u.expiry d < w.now → IsReplayed w d → IsReplayed u d

-- ---- from step to step

-- whatever the events are by which a step leads on
abbrev pub SealsGoOnBeside : Type 0
SealsGoOnBeside =
    (s v : RunMoment) (step : Step s v) (w : World) (journal further : ℕ → Journal) → IsReached s → IsWorldOf s w journal → Good w → AreFit s → AreStanding s journal →
    HaveSameLogs further (journals_next s v step journal) → (leads : Leads w v further) → AreSealedBehind s w journal → AreSealedBehind v leads.world further
