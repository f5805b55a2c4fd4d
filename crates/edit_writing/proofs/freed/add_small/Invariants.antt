-- The sectors of the parts so far are added.
use Rattle.std.proofs.Common.{◌≡◌, fold, map}
use Rattle.tree_definitions.specs.Numbers.{below}
use Rattle.disk_definitions.specs.Regions.{sector_of}
use Rattle.disk_definitions.specs.declared.region.Region.TheVariants as region
use Rattle.disk_definitions.specs.Written.{with_number}
use Rattle.edit_writing.proofs.freed.add_small.Given as goal

abbrev pub invariant-loop-part : goal.invariant-loop-part
invariant-loop-part l = l.freed.entries ≡ fold with_number l.fn.freed.entries (map (λ part. sector_of (region.Small l.block part)) (below l.part))
