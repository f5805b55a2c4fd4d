-- A log as far as its slots are read: where it ends, what stands in it, and the sectors of its seal.
use Rattle.std.specs.Prelude.{ℕ, ◌+◌, ◌-◌, Bool, true, false, not, is_some, List, [], ◌∷◌, filter, map}
use Rattle.std.specs.List.{list_all}
use Rattle.frang_base.specs.declared.change.Redo.{Redo}
use Rattle.sector_bytes.specs.Blocks.{Block}
use Rattle.sector_bytes.specs.Sectors.{sectors_of}
use Rattle.sector_bytes.specs.SectorMaps.{value_at}
use Rattle.disk_definitions.specs.LogSectors.{log_sector_bytes, empty_sector}
use Rattle.disk_definitions.specs.Regions.{sector_of}
use Rattle.disk_definitions.specs.declared.region.Region.TheVariants as region
use Rattle.tree_definitions.specs.Numbers.{below}
use Rattle.core_definitions.specs.Settings.{LogRules, slot_of}

-- nothing is left
abbrev pub is_none : {X : Type 0} → List X → Bool
is_none [] = true
is_none (x ∷ xs) = false

-- the slots that were read, each with its block, ascending
abbrev pub SlotsRead : Type 0
SlotsRead = List (ℕ × Block)

abbrev pub is_slot_read : SlotsRead → ℕ → Bool
is_slot_read slots slot = is_some (value_at slots slot)

-- the slots not read yet
abbrev pub unread : LogRules → SlotsRead → List ℕ
unread logs slots = filter (λ slot. not (is_slot_read slots slot)) (below logs.sectors)

-- every slot is read
abbrev pub is_read : LogRules → SlotsRead → Bool
is_read logs slots = list_all (is_slot_read slots) (below logs.sectors)

-- what the slots read say
abbrev pub end_of : LogRules → SlotsRead → ℕ
end_of logs slots = logs.end (sectors_of slots)

abbrev pub records_of : LogRules → SlotsRead → List Redo
records_of logs slots = logs.records (sectors_of slots)

abbrev pub is_sealed_by : LogRules → SlotsRead → Bool
is_sealed_by logs slots = logs.sealed (sectors_of slots)

-- the sector of a number in the log of a server
abbrev pub log_sector : LogRules → ℕ → ℕ → ℕ
log_sector logs server number = sector_of (region.Log server (slot_of logs number))

-- the block that seals a number
abbrev pub seal_block : ℕ → Block
seal_block number = log_sector_bytes (empty_sector number)

-- the numbers of a seal behind an end but the first: over a disk's logs e + 2 to e + 64
abbrev pub later_seals : LogRules → ℕ → List ℕ
later_seals logs end = map (λ k. end + 2 + k) (below (logs.seals - 1))
