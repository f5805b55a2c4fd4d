-- What the calls that make the effects of events ask of a server.
use Rattle.std.specs.Prelude.{◌≡◌, ◌+◌, ◌<◌, ◌≤◌, ℕ, Option, Some, None, IsSomeAnd, List}
use Rattle.frang_base.specs.declared.limits.TheConstants.{LOG_SECTORS}
use Rattle.disk_definitions.specs.Plans.{Lock}
use Rattle.disk_definitions.specs.Regions.{sector_of}
use Rattle.disk_definitions.specs.declared.region.Region.TheVariants as region
use Rattle.set_definitions.specs.Sets.{LockSet, joined_all}
use Rattle.ring_definitions.specs.Rings.{Ring, next_sector}
use Rattle.core_definitions.specs.Flights.{InPlace, OfLog, OfRecovery, Purpose}
use Rattle.core_definitions.specs.Lines.{Under}

-- a write of the log is one of its next sector, which has this number
abbrev pub IsNext : Ring → Purpose → Type 0
IsNext ring (OfLog number) = IsSomeAnd (next_sector ring) (λ next. next.0 ≡ number)
IsNext ring (InPlace cover) = Unit {0}
IsNext ring OfRecovery = Unit {0}

-- the sector is one of the slots of the server's log
pub record IsSlot (server sector : ℕ) : Type 0 where
  pub first : sector_of (region.Log server 0) ≤ sector
  pub last : sector < sector_of (region.Log server 0) + LOG_SECTORS

-- a line whose set these locks join has this set then
abbrev pub GrowsTo : Option Under → List Lock → LockSet → Type 0
GrowsTo None needs set = Unit {0}
GrowsTo (Some under) needs set = set ≡ joined_all under.set needs
