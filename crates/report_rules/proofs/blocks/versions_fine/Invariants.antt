use Rattle.std.proofs.Common.{◌≡◌, ◌||◌, not, is_some}
use Rattle.sector_bytes.specs.Sectors.{sectors_of}
use Rattle.disk_definitions.specs.declared.region.Region.TheVariants as region
use Rattle.disk_definitions.specs.Regions.{sector_of}
use Rattle.disk_definitions.specs.Store.{directory_at}
use Rattle.standing_laws.specs.Below.{all_below}
use Rattle.report_definitions.specs.View.{is_recent_at}
use Rattle.report_rules.proofs.blocks.versions_fine.Given as goal

abbrev pub invariant-loop-p : goal.invariant-loop-p
invariant-loop-p l = l.all ≡ all_below l.p (λ p. not (is_some (directory_at (sectors_of l.disk) l.block p)) || is_recent_at l.most (sectors_of l.disk) (sector_of (region.Small l.block p)))
