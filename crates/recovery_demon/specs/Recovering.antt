-- What contracts see of a recovery, and what it wants done next.
use Rattle.std.specs.Prelude.{ℕ, Bool, not, is_some, nat_le, find, Option, List, [], ◌∷◌, ◌++◌, filter, map, if◌then◌else◌}
use Rattle.std.specs.Map.{keys_of}
use Rattle.frang_base.specs.declared.change.Redo.{Redo}
use Rattle.sector_bytes.specs.Blocks.{Block}
use Rattle.sector_bytes.specs.SectorMaps.{value_at}
use Rattle.disk_definitions.specs.Logs.{greatest_operation}
use Rattle.disk_definitions.specs.Written.{ascending}
use Rattle.core_definitions.specs.Recoveries.{Recovery, is_recovered, recovery_writes, redos, to_look, wanted_block}
use Rattle.recovery_demon.specs.declared.next.Next.{Next}
use Rattle.recovery_demon.specs.declared.next.Next.TheVariants as next
use Rattle.log_slots.specs.Reading.{log_rules, unread_slots}

-- the recovery; the writes for it that are issued and not acknowledged, by sector with their blocks; whether what the slots say is read off them, or it isn't time yet; and whether
-- there is room for the next change
pub record Recovering : Type 0 where
  pub segments : ℕ
  pub recovery : Recovery
  pub issued : List (ℕ × Block)
  pub is_fresh : Bool
  pub is_ready : Bool

-- the records of the log
unfoldable pub log_redos : Recovery → List Redo
log_redos recovery = redos log_rules recovery

-- the block wanted at a sector that is looked at and has this one
abbrev pub wanted_over : Recovery → ℕ → Block → Option Block
wanted_over recovery sector block = wanted_block (log_redos recovery) sector block

-- the sectors to look at, ascending
unfoldable pub looks_wanted : ℕ → Recovery → List ℕ
looks_wanted segments recovery = to_look log_rules segments recovery

-- the wanted writes that aren't issued yet
unfoldable pub writes_wanted : ℕ → Recovery → List (ℕ × Block) → List (ℕ × Block)
writes_wanted segments recovery issued = filter (λ write. not (is_some (value_at issued write.0))) (recovery_writes log_rules segments recovery)

-- their sectors, ascending
unfoldable pub write_sectors : ℕ → Recovery → List (ℕ × Block) → List ℕ
write_sectors segments recovery issued = ascending (keys_of (writes_wanted segments recovery issued))

-- all wanted writes are acknowledged, the seal too
unfoldable pub is_all_done : ℕ → Recovery → Bool
is_all_done segments recovery = is_recovered log_rules segments recovery

-- the greatest operation of the log, 0 where it holds none
unfoldable pub greatest_kept : Recovery → ℕ
greatest_kept recovery = greatest_operation (log_redos recovery)

-- ---- all that may be done now

abbrev pub load : ℕ → Next
load slot = next.Load slot

abbrev pub look : ℕ → Next
look sector = next.Look (record { 0 = sector })

abbrev pub write : ℕ → Next
write sector = next.Write (record { 0 = sector })

abbrev pub end_of : ℕ → Recovery → List Next
end_of segments recovery = if is_all_done segments recovery then next.Done (record { 0 = greatest_kept recovery }) ∷ [] else []

-- once all slots are read
abbrev pub behind_loads : ℕ → Recovery → List (ℕ × Block) → List Next
behind_loads segments recovery issued = map look (looks_wanted segments recovery) ++ map write (write_sectors segments recovery issued) ++ end_of segments recovery

abbrev pub all_wanted : ℕ → Recovery → List (ℕ × Block) → List Next
all_wanted segments recovery issued = map load (unread_slots recovery.slots) ++ behind_loads segments recovery issued

-- the first of ascending sectors that isn't below one
abbrev pub first_sector_from : List ℕ → ℕ → Option ℕ
first_sector_from sectors from = find (λ sector. nat_le from sector) sectors
