-- Those gathered and those left are all.
use Rattle.std.proofs.Common.{◌≡◌, ◌||◌, ℕ, drop, is_some}
use Rattle.std.specs.List.{flat_map}
use Rattle.frang_base.specs.Functions.{member}
use Rattle.sector_bytes.specs.SectorMaps.{value_at}
use Rattle.world_list.specs.Wanting.{written_of}
use Rattle.world_list.proofs.gathering.join_written.Given as goal

abbrev pub invariant-loop-next : goal.invariant-loop-next
invariant-loop-next l =
    (s : ℕ) → (is_some (value_at l.sectors.entries s) || member s (flat_map written_of (drop l.next-index l.wants))) ≡ (is_some (value_at l.fn.sectors.entries s) || member s (flat_map written_of l.wants))
