-- Logs of eight slots, which are read and written as those of a disk are, a quarter for each quarter: six numbers that aren't given up, two in flight, two given up at once, and a
-- seal of two.
use Rattle.std.specs.Prelude.{ℕ, ◌+◌, ◌-◌, ◌%◌, Bool, ◌==◌, if◌then◌else◌, max, nat_le, Option, Some, None, is_some, List, map, fold, filter}
use Rattle.std.specs.List.{filter_map, list_all}
use Rattle.std.specs.Option.{option_map}
use Rattle.std.specs.Str.{bytes_eq}
use Rattle.frang_base.specs.declared.limits.TheConstants.{LOG_SECTORS, SECTOR_BYTES}
use Rattle.frang_base.specs.declared.change.Redo.{Redo}
use Rattle.tree_definitions.specs.Numbers.{below}
use Rattle.sector_bytes.specs.Bytes.{zeros}
use Rattle.disk_definitions.specs.declared.log_sector.LogSector.{LogSector}
use Rattle.disk_definitions.specs.LogSectors.{empty_sector, log_sector_fields, numbered_sector_in}
use Rattle.disk_definitions.specs.Logs.{Slots, numbered, records_among, seq_of}
use Rattle.core_definitions.specs.Settings.{LogRules}

abbrev pub slots_small : ℕ
slots_small = 8

abbrev pub window_small : ℕ
window_small = 6

abbrev pub quarter_small : ℕ
quarter_small = 2

-- a number lies in its slot
abbrev pub in_slot : ℕ → Option LogSector → Option LogSector
in_slot slot None = None
in_slot slot (Some x) = if x.seq % slots_small == slot then Some x else None

-- a sector of zeros has one of the last eight numbers before the first that a record has
abbrev pub sector_small : ℕ → List ℕ → Option LogSector
sector_small slot block =
    if bytes_eq (zeros SECTOR_BYTES) block then Some (empty_sector (LOG_SECTORS - slots_small + slot))
    else in_slot slot (numbered_sector_in (number % LOG_SECTORS) block (log_sector_fields block))
  where
    number : ℕ
    number = (log_sector_fields block).seq

abbrev pub numbered_small : Slots → ℕ → Option LogSector
numbered_small slots n = numbered n (sector_small (n % slots_small) (slots (n % slots_small)))

abbrev pub window_to : ℕ → List ℕ
window_to end = map (λ k. end - (window_small - 1) + k) (below window_small)

abbrev pub is_end_small : Slots → ℕ → Bool
is_end_small slots end = list_all (λ n. is_some (numbered_small slots n)) (window_to end)

abbrev pub numbers_small : Slots → List ℕ
numbers_small slots = filter_map (λ slot. option_map seq_of (sector_small slot (slots slot))) (below slots_small)

abbrev pub end_small : Slots → ℕ
end_small slots = fold max 0 (filter (is_end_small slots) (numbers_small slots))

abbrev pub records_small : Slots → List Redo
records_small slots = records_among (filter_map (numbered_small slots) (window_to (end_small slots)))

abbrev pub is_sealed_small : Slots → Bool
is_sealed_small slots = list_all (λ n. nat_le n (end_small slots)) (numbers_small slots)

abbrev pub small_logs : LogRules
small_logs = record { sectors = slots_small; end = end_small; records = records_small; sealed = is_sealed_small; seals = quarter_small; in_flight = quarter_small; room = window_small; quarter = quarter_small }
