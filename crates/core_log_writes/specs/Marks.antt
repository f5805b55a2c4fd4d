-- Where the marks of dirty sectors lie: the theorem on sectors marks a dirty sector by an operation, the core by the number of the log where the record of that operation ends.
use Rattle.std.specs.Prelude.{ℕ, Bool, List}
use Rattle.frang_base.specs.declared.lock.LockId.{LockId}
use Rattle.sector_bytes.specs.Sectors.{Sectors}
use Rattle.core_definitions.specs.Runs.{first_state}
use Rattle.core_definitions.specs.Settings.{Setting}
use Rattle.sector_world.specs.Histories.{Item}
use Rattle.core_world.specs.Beside.{AreEnds, IsEnd}
use Rattle.core_world.specs.Events.{first_world}
use Rattle.core_world.specs.Journals.{IsUpTo, Journal}
use Rattle.core_world.specs.Ties.{IsMark}

-- at first nothing is dirty
abbrev pub EndsBegin : Type 0
EndsBegin =
    (setting : Setting) (disk : Sectors) (logged of_files : ℕ → Bool) (home : ℕ → LockId) (journal : ℕ → Journal) → AreEnds (first_state setting disk).core.servers (first_world disk logged of_files home) journal

-- where the journal counts operations as the world does, such marks are marks of each other
abbrev pub EndsAreMarks : Type 0
EndsAreMarks =
    (ends : ℕ → ℕ) (reached acked a : ℕ) (h : List Item) → IsUpTo ends reached a acked h → (mark m : ℕ) → IsEnd ends reached acked a h mark m → IsMark reached acked mark m
