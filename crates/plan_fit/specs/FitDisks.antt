-- What a disk in its grammar says may stand on it.
use Rattle.std.specs.Prelude.{◌≡◌, ℕ, length}
use Rattle.frang_base.specs.declared.limits.TheConstants.{SECTOR_BYTES}
use Rattle.sector_bytes.specs.Sectors.{Sectors}
use Rattle.disk_definitions.specs.Store.{store_of}
use Rattle.disk_definitions.specs.Standing.{IsInGrammar}
use Rattle.disk_definitions.specs.FitPlans.{IsFitStore}

-- its sectors are of 512 bytes; no bound on a byte is needed, since a number of the grammar reads back from its own bytes
abbrev pub DisksAreFit : Type 0
DisksAreFit =
    (sectors : Sectors) (segments : ℕ) → IsInGrammar segments sectors → ((sector : ℕ) → length (sectors sector) ≡ SECTOR_BYTES) → IsFitStore segments (store_of segments sectors)
