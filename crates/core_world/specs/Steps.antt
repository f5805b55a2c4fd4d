-- The core as a world of the theorem on sectors: a world is tied to each moment of a run, and each step of the core is a run of events there, which may happen and
-- lead to a world that is tied to the next moment.
use Rattle.std.specs.Prelude.{◌≡◌, ℕ, Ok, List}
use Rattle.frang_base.specs.declared.said.Said.{Said}
use Rattle.frang_base.specs.declared.script.Line.{Line}
use Rattle.script_definitions.specs.ScriptText.{script_of}
use Rattle.sector_bytes.specs.Sectors.{Sectors}
use Rattle.core_definitions.specs.Runs.{State as RunMoment, Run, Step, first_state, saids_of}
use Rattle.core_definitions.specs.Settings.{setting_of}
use Rattle.sector_world.specs.Kinds.{Good}
use Rattle.sector_world.specs.Steps.{Event}
use Rattle.sector_world.specs.Steps as sectors
use Rattle.sector_world.specs.World.{World}
use Rattle.core_world.specs.Journals.{AreJournals, AreReadings, Journal}
use Rattle.core_world.specs.Ties.{AreTied}

-- a world of the moment, with the journals that stand beside it
pub record IsWorldOf (s : RunMoment) (w : World) (journal : ℕ → Journal) : Type 0 where
  pub tied : AreTied s.core s.disk w
  pub journals : AreJournals s.core.servers s.core.now s.core.flights s.disk w journal
  pub readings : AreReadings s.core.setting.segments s.core.servers w

-- from this world events that may happen lead to one of the moment, with these journals
pub record Leads (w : World) (v : RunMoment) (journal : ℕ → Journal) : Type 0 where
  pub events : List Event
  pub world : World
  pub run : sectors.Run w events world
  pub is : IsWorldOf v world journal

-- a moment of a run of a script that was read, over the logs of a disk
pub record IsReached (s : RunMoment) : Type 0 where
  pub bytes : List ℕ
  pub script : List Line
  pub read : script_of bytes ≡ Ok script
  pub segments : ℕ
  pub number : ℕ
  pub disk : Sectors
  pub run : Run (first_state (setting_of script segments number) disk) s

-- ---- the step law

-- what the lines said tell of a world's history, and what is asked of it and of its opening: it is given where the law is shown
abbrev pub Telling : Type 1
Telling = List Said → World → Type 0

-- and it is told on
pub record LeadsAsTold (Tells : Telling) (w : World) (v : RunMoment) : Type 0 where
  pub journal : ℕ → Journal
  pub leads : Leads w v journal
  pub told : Tells (saids_of v.record_) leads.world

-- Each step of the core is a run of events. It is only stated so far, but for what `Events` has of it
abbrev pub StepsAreEvents : Telling → Type 0
StepsAreEvents Tells =
    (s v : RunMoment) (w : World) (journal : ℕ → Journal) → IsReached s → Step s v → IsWorldOf s w journal → Tells (saids_of s.record_) w → Good w → LeadsAsTold Tells w v
