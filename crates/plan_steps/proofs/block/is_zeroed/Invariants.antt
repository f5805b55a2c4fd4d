-- The parts so far are zero.
use Rattle.std.proofs.Common.{◌≡◌, true}
use Rattle.std.specs.List.{list_all}
use Rattle.disk_definitions.specs.Regions.{sector_of}
use Rattle.disk_definitions.specs.declared.region.Region.TheVariants as region
use Rattle.tree_definitions.specs.Numbers.{below}
use Rattle.disk_definitions.specs.Written.{is_zero_at_hand}
use Rattle.plan_steps.proofs.block.is_zeroed.Given as goal

abbrev pub invariant-loop-part : goal.invariant-loop-part
invariant-loop-part l = list_all (λ part. is_zero_at_hand l.sectors.entries (sector_of (region.Small l.block part))) (below l.part) ≡ true
