-- Those gathered and those left are all.
use Rattle.std.proofs.Common.{◌≡◌, ◌||◌, ℕ, drop, is_some, map}
use Rattle.frang_base.specs.Functions.{member}
use Rattle.sector_bytes.specs.SectorMaps.{value_at}
use Rattle.world_list.proofs.gathering.join_dirty.Given as goal

abbrev pub invariant-loop-mark : goal.invariant-loop-mark
invariant-loop-mark l =
    (s : ℕ) → (is_some (value_at l.sectors.entries s) || member s (map (λ mark. mark.sector.0) (drop l.mark-index l.mark-items))) ≡ (is_some (value_at l.fn.sectors.entries s) || member s (map (λ mark. mark.sector.0) l.mark-items))
