-- The words of a log's definition over what stands in its slots, where each slot is read once.
use Rattle.std.specs.Prelude.{◌-◌, ℕ, zero, suc, ◌%◌, Bool, ◌&&◌, nat_le, max, is_some, Option, None, List, [], map, fold, slice_index_or}
use Rattle.std.specs.List.{list_all, filter, filter_map}
use Rattle.std.specs.Option.{option_map}
use Rattle.frang_base.specs.declared.limits.TheConstants.{LOG_SECTORS, LOG_WINDOW}
use Rattle.disk_definitions.specs.declared.log_sector.LogSector.{LogSector}
use Rattle.disk_definitions.specs.LogSectors.{log_sector_in}
use Rattle.tree_definitions.specs.Numbers.{below}
use Rattle.disk_definitions.specs.Logs.{Slots, numbered, seq_of, window}

-- what stands in each slot, in order
abbrev pub Decoded : Type 0
Decoded = List (Option LogSector)

unfoldable pub decoded : Slots → Decoded
decoded slots = map (λ slot. log_sector_in slot (slots slot)) (below LOG_SECTORS)

-- the sector of this number, where it stands in its slot
abbrev pub sector_with : Decoded → ℕ → Option LogSector
sector_with sectors n = numbered n (slice_index_or sectors (n % LOG_SECTORS) None)

-- the 192 numbers up to this one stand in their slots
unfoldable pub is_full : Decoded → ℕ → Bool
is_full sectors end = nat_le (LOG_WINDOW - 1) end && list_all (λ n. is_some (sector_with sectors n)) (window end)

-- the numbers that stand in the slots
abbrev pub numbers_of : Decoded → List ℕ
numbers_of sectors = filter_map (option_map seq_of) sectors

-- the end of the log
abbrev pub end_of : Decoded → ℕ
end_of sectors = fold max 0 (filter (is_full sectors) (numbers_of sectors))

-- the sectors up to the end, none where there is no end
unfoldable pub sectors_up_to : Decoded → ℕ → List LogSector
sectors_up_to sectors zero = []
sectors_up_to sectors (suc end) = filter_map (sector_with sectors) (window (suc end))
