-- The sets of lines under way, over every run.
use Rattle.std.specs.Prelude.{◌≡◌, ℕ, Some}
use Rattle.std.specs.List.{Contains}
use Rattle.frang_base.specs.declared.lock.LockId.TheVariants.{Segment}
use Rattle.frang_base.specs.declared.lock.Mode.{Mode}
use Rattle.frang_base.specs.declared.lock.Mode.TheVariants.{Sole}
use Rattle.sector_bytes.specs.Sectors.{Sectors}
use Rattle.core_definitions.specs.Lines.{Under}
use Rattle.core_definitions.specs.Runs.{State, Run, first_state}
use Rattle.core_definitions.specs.Settings.{Setting}

-- over every run the lock of a segment is in a set in no mode but sole
abbrev pub SegmentsAreSole : Type 0
SegmentsAreSole =
    (setting : Setting) (disk : Sectors) (s : State) → Run (first_state setting disk) s → (a : ℕ) (under : Under) → (s.core.servers a).under ≡ Some under →
    (segment : ℕ) (mode : Mode) → Contains under.set (Segment segment, mode) → mode ≡ Sole
