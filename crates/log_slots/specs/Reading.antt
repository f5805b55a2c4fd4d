-- What the slots of a log of a disk say as far as they are read, each word closed, so that no proof goes through the 256 slots.
use Rattle.std.specs.Prelude.{ℕ, Bool, List}
use Rattle.sector_bytes.specs.Sectors.{sectors_of}
use Rattle.disk_definitions.specs.Logs.{Slots}
use Rattle.core_definitions.specs.Settings.{LogRules, disk_logs}
use Rattle.core_definitions.specs.Logs.{SlotsRead, end_of, is_read, unread}

-- the logs of a disk
unfoldable pub log_rules : LogRules
log_rules = disk_logs

-- the slots not read yet, ascending
unfoldable pub unread_slots : SlotsRead → List ℕ
unread_slots slots = unread log_rules slots

-- every slot is read
unfoldable pub are_all_read : SlotsRead → Bool
are_all_read slots = is_read log_rules slots

-- the blocks that were read, by slot
abbrev pub read_slots : SlotsRead → Slots
read_slots slots = sectors_of slots

-- where the log ends
unfoldable pub read_end : SlotsRead → ℕ
read_end slots = end_of log_rules slots
