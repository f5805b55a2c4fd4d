-- Both tests, joined.
use Rattle.std.proofs.Common.{◌+◌, ◌*◌, ◌&&◌}
use Rattle.sector_bytes.specs.Sectors.{sectors_of}
use Rattle.standing_laws.specs.Below.{all_below}
use Rattle.disk_reading.specs.Fits.{segment_fits, inode_fits}
use Rattle.disk_reading.specs.Marks.{flag_at}
use Rattle.report_definitions.specs.Rules.{is_block_fine}
use Rattle.report_rules.specs.Seen.{view_in}
use Rattle.report_rules.proofs.PartRules.{and_then, and_else}
use Rattle.report_rules.proofs.segments.is_segment_fine.Goals as goal

pub returns-then-sectors_fit : goal.returns-then-sectors_fit
returns-then-sectors_fit c =
    let s = sectors_of c.args.disk.now in
    let a = segment_fits c.args.most s c.args.k && all_below 64 (λ j. inode_fits c.args.most s (64 * c.args.k + j)) in
    let b = all_below 1024 (λ j. is_block_fine (view_in c.args.most c.args.segments c.args.disk.now) (flag_at c.args.tables.now.reached) (1024 * c.args.k + j)) in
    and_then a b c.sectors_fit.result c.blocks_fine.result c.sectors_fit.ensures c.if-sectors_fit.true c.blocks_fine.ensures

pub returns-else-sectors_fit : goal.returns-else-sectors_fit
returns-else-sectors_fit c =
    let s = sectors_of c.args.disk.now in
    let a = segment_fits c.args.most s c.args.k && all_below 64 (λ j. inode_fits c.args.most s (64 * c.args.k + j)) in
    let b = all_below 1024 (λ j. is_block_fine (view_in c.args.most c.args.segments c.args.disk.now) (flag_at c.args.tables.now.reached) (1024 * c.args.k + j)) in
    and_else a b c.sectors_fit.result c.sectors_fit.ensures c.if-sectors_fit.false
