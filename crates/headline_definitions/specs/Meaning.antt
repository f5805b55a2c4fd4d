-- That the words of the headline mean what they are to mean.
use Rattle.std.specs.Prelude.{◌≡◌, ℕ, ◌++◌}
use Rattle.sector_bytes.specs.Sectors.{Sectors}
use Rattle.disk_definitions.specs.Replay.{greatest_of, replayed}
use Rattle.core_definitions.specs.Runs.{State as RunMoment, Run, saids_of}
use Rattle.headline_definitions.specs.AllLogs.{disk_logs, greatest_at, replayed_by}
use Rattle.headline_definitions.specs.Runs.{witnessed_in}
use Rattle.headline_definitions.specs.Witnessed.{disk_behind, saids_in}

-- over the logs of a disk these are the words of the disk
abbrev pub GreatestIsTheDisks : Type 0
GreatestIsTheDisks = (disk : Sectors) (server : ℕ) → greatest_at disk_logs disk server ≡ greatest_of disk server

-- so is the replayed disk
abbrev pub ReplayedIsTheDisks : Type 0
ReplayedIsTheDisks = (disk : Sectors) (sector : ℕ) → replayed_by disk_logs disk sector ≡ replayed disk sector

-- what is witnessed along a run tells the lines that it adds
abbrev pub WitnessedTellsTheLines : Type 0
WitnessedTellsTheLines = (s v : RunMoment) (run : Run s v) → saids_of v.record_ ≡ saids_of s.record_ ++ saids_in (witnessed_in s v run)

-- and makes its disk
abbrev pub WitnessedTellsTheDisk : Type 0
WitnessedTellsTheDisk = (s v : RunMoment) (run : Run s v) → v.disk ≡ disk_behind s.disk (witnessed_in s v run)
