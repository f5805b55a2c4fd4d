-- The sectors that a server may fetch.
use Rattle.std.specs.Prelude.{◌≡◌, ℕ, Bool, ◌&&◌, ◌||◌, if◌then◌else◌, Option, Some, None, List, [], map}
use Rattle.disk_definitions.specs.Regions.{sector_of}
use Rattle.disk_definitions.specs.declared.region.Region.TheVariants as region
use Rattle.tree_definitions.specs.Transcript.{is_mount}
use Rattle.core_definitions.specs.Cores.{Core, stage}
use Rattle.core_definitions.specs.LineGuards.{is_needed, is_unread}
use Rattle.core_definitions.specs.Lines.{Under}
use Rattle.core_definitions.specs.Logs.{SlotsRead}
use Rattle.core_definitions.specs.Servers.{Server, asks, is_off}
use Rattle.log_slots.specs.Reading.{unread_slots}
use Rattle.server_core.specs.Effects.{IsSlot}

-- the line needs it, or a mount at a server that is off hasn't read it yet
abbrev pub may_fetch : Core → ℕ → ℕ → Bool
may_fetch c a sector = is_needed c a (stage c a) sector || is_unread c a sector

-- ---- the slots of a log

-- this slot of a server's log is the sector; where none is told, the sector is of none
abbrev pub IsSlotAt : ℕ → ℕ → Option ℕ → Type 0
IsSlotAt server sector None = IsSlot server sector → ⊥
IsSlotAt server sector (Some slot) = sector_of (region.Log server slot) ≡ sector

-- the sectors of the slots that aren't read yet
abbrev pub sectors_left : ℕ → SlotsRead → List ℕ
sectors_left number slots = map (λ slot. sector_of (region.Log number slot)) (unread_slots slots)

-- of a line under way those of its mount
abbrev pub left_under : ℕ → Option Under → List ℕ
left_under number None = []
left_under number (Some under) = sectors_left number under.slots

-- of a server, where it is off and its line a mount
abbrev pub unread_of : ℕ → Server → List ℕ
unread_of number server = if is_off server.phase && asks is_mount server then left_under number server.under else []
