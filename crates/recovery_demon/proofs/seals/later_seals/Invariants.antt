use Rattle.std.proofs.Common.{◌≡◌, ◌≤◌, ℕ}
use Rattle.sector_bytes.specs.SectorMaps.{value_at}
use Rattle.recovery_demon.specs.Rules.{later_from}
use Rattle.recovery_demon.proofs.seals.later_seals.Given as goal

-- the writes from one number on are in, and there is room for the others
abbrev pub invariant-loop-left : goal.invariant-loop-left
invariant-loop-left l = record {
  few : l.left ≤ 63;
  room : l.left ≤ l.seals.spare;
  kept : (sector : ℕ) → value_at l.seals.entries sector ≡ value_at (later_from 63 l.left l.dead.0 l.end) sector;
}

abbrev pub decreases-loop-left : goal.decreases-loop-left
decreases-loop-left l = l.left
