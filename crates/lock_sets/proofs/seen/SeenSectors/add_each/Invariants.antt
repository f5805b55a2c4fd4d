-- What is seen so far, behind what was seen before, and the sectors that are left.
use Rattle.std.proofs.Common.{◌≡◌, drop}
use Rattle.set_definitions.specs.Seen.{seen_more}
use Rattle.lock_sets.specs.Seen.{BeginsWith, numbers}
use Rattle.lock_sets.proofs.seen.SeenSectors.add_each.Given as goal

abbrev pub invariant-loop-sector : goal.invariant-loop-sector
invariant-loop-sector g l = record {
  are : seen_more (g.C.CachedBlocks.cached l.sectors) l.self (numbers (drop l.sector-index l.looked)) ≡ seen_more (g.C.CachedBlocks.cached l.sectors) l.initial.self (numbers l.looked);
  behind : BeginsWith l.initial.self l.self;
}
