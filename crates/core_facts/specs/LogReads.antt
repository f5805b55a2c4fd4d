-- What is read of logs, over every run over the logs of a disk.
use Rattle.std.specs.Prelude.{◌≡◌, ◌⊎◌, ℕ, ◌+◌, true, IsTrue, Some, List}
use Rattle.std.specs.List.{Contains}
use Rattle.frang_base.specs.declared.script.Line.{Line}
use Rattle.disk_definitions.specs.Regions.{sector_of}
use Rattle.disk_definitions.specs.declared.region.Region.TheVariants as region
use Rattle.sector_bytes.specs.Blocks.{Block}
use Rattle.sector_bytes.specs.SectorMaps.{value_at}
use Rattle.sector_bytes.specs.Sectors.{Sectors}
use Rattle.core_definitions.specs.Lines.{Under}
use Rattle.core_definitions.specs.Logs.{SlotsRead, end_of, is_read, later_seals, seal_block}
use Rattle.core_definitions.specs.Recoveries.{Recovery}
use Rattle.core_definitions.specs.Runs.{State, Run, first_state}
use Rattle.core_definitions.specs.Settings.{LogRules, disk_logs, setting_of, slot_of}
use Rattle.core_definitions.specs.WriteGuards.{is_worker}

-- over every run what a mount has read of its log is the disk's
abbrev pub MountsReadTheDisk : Type 0
MountsReadTheDisk =
    (script : List Line) (segments run : ℕ) (disk : Sectors) (s : State) → Run (first_state (setting_of script segments run) disk) s → (a : ℕ) (under : Under) →
    (s.core.servers a).under ≡ Some under → (slot : ℕ) (block : Block) → value_at under.slots slot ≡ Some block → block ≡ s.disk (sector_of (region.Log a slot))

-- the disk has a seal of the recovery there, since all was read
pub record IsSealedOver (logs : LogRules) (disk : Sectors) (dead : ℕ) (slots : SlotsRead) (slot : ℕ) : Type 0 where
  pub read : is_read logs slots ≡ true
  pub number : ℕ
  pub seals : (number ≡ end_of logs slots + 1) ⊎ Contains (later_seals logs (end_of logs slots)) number
  pub at : slot ≡ slot_of logs number
  pub block : disk (sector_of (region.Log dead slot)) ≡ seal_block number

-- and what a recovery has read, by a server that is Up or by the host, but where it has sealed the log itself
abbrev pub RecoveriesReadTheDisk : Type 0
RecoveriesReadTheDisk =
    (script : List Line) (segments run : ℕ) (disk : Sectors) (s : State) → Run (first_state (setting_of script segments run) disk) s → (by : ℕ) (recovery : Recovery) → IsTrue (is_worker s.core by) →
    (s.core.servers by).recovery ≡ Some recovery → (slot : ℕ) (block : Block) → value_at recovery.slots slot ≡ Some block →
    (block ≡ s.disk (sector_of (region.Log recovery.dead slot))) ⊎ IsSealedOver disk_logs s.disk recovery.dead recovery.slots slot
