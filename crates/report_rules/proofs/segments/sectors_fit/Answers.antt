-- Both tests, joined.
use Rattle.std.proofs.Common.{◌+◌, ◌*◌}
use Rattle.sector_bytes.specs.Sectors.{sectors_of}
use Rattle.standing_laws.specs.Below.{all_below}
use Rattle.disk_reading.specs.Fits.{segment_fits, inode_fits}
use Rattle.report_rules.proofs.PartRules.{and_then, and_else}
use Rattle.report_rules.proofs.segments.sectors_fit.Goals as goal

pub returns-then-segment_fits : goal.returns-then-segment_fits
returns-then-segment_fits c =
    let s = sectors_of c.args.disk.now in
    and_then (segment_fits c.args.most s c.args.k) (all_below 64 (λ j. inode_fits c.args.most s (64 * c.args.k + j))) c.segment_fits.result c.inodes_fit.result c.segment_fits.ensures c.if-segment_fits.true c.inodes_fit.ensures

pub returns-else-segment_fits : goal.returns-else-segment_fits
returns-else-segment_fits c =
    let s = sectors_of c.args.disk.now in
    and_else (segment_fits c.args.most s c.args.k) (all_below 64 (λ j. inode_fits c.args.most s (64 * c.args.k + j))) c.segment_fits.result c.segment_fits.ensures c.if-segment_fits.false
