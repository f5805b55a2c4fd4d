-- At the end all have been tested.
use Rattle.std.proofs.Common.{◌≡◌, ◌||◌, not, is_some, ◌∙◌, ap, rules}
use Rattle.sector_bytes.specs.Sectors.{sectors_of}
use Rattle.disk_definitions.specs.declared.region.Region.TheVariants as region
use Rattle.disk_definitions.specs.Regions.{sector_of}
use Rattle.disk_definitions.specs.Store.{directory_at}
use Rattle.standing_laws.specs.Below.{all_below}
use Rattle.report_definitions.specs.View.{is_recent_at}
use Rattle.report_rules.proofs.blocks.versions_fine.Goals as goal

pub returns : goal.returns
returns c =
    let e : c.loop-p.p ≡ 8 = search rules in
    c.loop-p.invariant ∙ ap (λ n. all_below n (λ p. not (is_some (directory_at (sectors_of c.args.disk.now) c.args.block p)) || is_recent_at c.args.most (sectors_of c.args.disk.now) (sector_of (region.Small c.args.block p)))) e
