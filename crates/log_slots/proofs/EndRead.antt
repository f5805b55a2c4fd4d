-- The end that is read off the blocks of all slots is the definition's.
use Rattle.std.proofs.Common.{◌≡◌, ◌<◌, ℕ, List, []}
use Rattle.std.specs.Prelude.{slice_index_or}
use Rattle.frang_base.specs.declared.limits.TheConstants.{LOG_SECTORS}
use Rattle.sector_bytes.specs.Blocks.{Block}
use Rattle.disk_definitions.specs.Logs.{log_end}
use Rattle.disk_definitions.proofs.SameLogs.{log_end_same}
use Rattle.core_definitions.specs.Logs.{SlotsRead}
use Rattle.log_slots.specs.Reading.{log_rules, read_end, read_slots}

pub end_is : (blocks : List Block) (slots : SlotsRead) → ((slot : ℕ) → slot < LOG_SECTORS → slice_index_or blocks slot [] ≡ read_slots slots slot) → log_end (λ slot. slice_index_or blocks slot []) ≡ read_end slots
unfolding read_end log_rules
end_is blocks slots same = log_end_same (λ slot. slice_index_or blocks slot []) (read_slots slots) same
