-- What is decoded is the sector, and its version stands in its first bytes.
use Rattle.std.proofs.Common.{◌≡◌, ap, ◌∙◌}
use Rattle.disk_definitions.specs.declared.region.Region.TheVariants as region
use Rattle.disk_definitions.specs.Regions.{sector_of}
use Rattle.disk_definitions.specs.Inodes.{inode_in}
use Rattle.sector_bytes.specs.Sectors.{sectors_of}
use Rattle.disk_reading.specs.Fits.{inode_fits}
use Rattle.disk_reading.proofs.SectorFits.{told_some, told_none}
use Rattle.disk_reading.proofs.grammar.inode_fits.Goals as goal

pub returns-then-is_some : goal.returns-then-is_some
unfolding inode_fits
returns-then-is_some c =
    let bytes = sectors_of c.args.disk.now (sector_of (region.Inode c.args.i)) in
    let b : c.get-block.result ≡ bytes = c.get-block.ensures ∙ ap (sectors_of c.args.disk.now) c.sector_of.ensures in
    told_some inode_in bytes c.get-block.result c.args.most c.read_u64.result c.decode.result c.is_some.result b c.decode.ensures c.is_some.ensures c.read_u64.ensures c.if-is_some.true

pub returns-else-is_some : goal.returns-else-is_some
unfolding inode_fits
returns-else-is_some c =
    let bytes = sectors_of c.args.disk.now (sector_of (region.Inode c.args.i)) in
    let b : c.get-block.result ≡ bytes = c.get-block.ensures ∙ ap (sectors_of c.args.disk.now) c.sector_of.ensures in
    told_none inode_in bytes c.get-block.result c.args.most c.decode.result c.is_some.result b c.decode.ensures c.is_some.ensures c.if-is_some.false
