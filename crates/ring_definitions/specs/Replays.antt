-- What a replay of all logs leaves.
use Rattle.std.specs.Prelude.{◌≡◌, ◌≤◌, ◌<◌, ℕ, Option, []}
use Rattle.frang_base.specs.declared.limits.TheConstants.{LOGS}
use Rattle.disk_definitions.specs.declared.param.Param.{Param}
use Rattle.sector_bytes.specs.Blocks.{version_of}
use Rattle.sector_bytes.specs.Sectors.{Sectors}
use Rattle.disk_definitions.specs.Logs.{log_records}
use Rattle.disk_definitions.specs.Replay.{slots_of, with_logs, replayed}

-- the changes made again over the disk that has them leave it, and a replayed disk is its own replay
abbrev pub ReplayedTwiceIsOnce : Type 0
ReplayedTwiceIsOnce = ((p : Option Param) (sectors : Sectors) (sector : ℕ) → with_logs p (with_logs p sectors) sector ≡ with_logs p sectors sector) × ((sectors : Sectors) (sector : ℕ) → replayed (replayed sectors) sector ≡ replayed sectors sector)

-- no sector gets older by it
abbrev pub ReplayLowersNoVersion : Type 0
ReplayLowersNoVersion = (p : Option Param) (sectors : Sectors) (sector : ℕ) → version_of (sectors sector) ≤ version_of (with_logs p sectors sector)

-- no log holds a record afterwards
abbrev pub LogsAreZeroAfterwards : Type 0
LogsAreZeroAfterwards = (sectors : Sectors) (server : ℕ) → server < LOGS → log_records (slots_of (replayed sectors) server) ≡ []
