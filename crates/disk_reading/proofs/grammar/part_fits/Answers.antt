-- What is decoded is the sector, and its version stands in its first bytes.
use Rattle.std.proofs.Common.{◌≡◌, ap, ◌∙◌}
use Rattle.disk_definitions.specs.declared.region.Region.TheVariants as region
use Rattle.disk_definitions.specs.Regions.{sector_of}
use Rattle.disk_definitions.specs.Directories.{directory_in}
use Rattle.sector_bytes.specs.Sectors.{sectors_of}
use Rattle.disk_reading.specs.Fits.{part_fits}
use Rattle.disk_reading.proofs.SectorFits.{told_some, told_none}
use Rattle.disk_reading.proofs.grammar.part_fits.Goals as goal

pub returns-then-is_some : goal.returns-then-is_some
unfolding part_fits
returns-then-is_some c =
    let bytes = sectors_of c.args.disk.now (sector_of (region.Small c.args.block c.args.part)) in
    let b : c.get-bytes.result ≡ bytes = c.get-bytes.ensures ∙ ap (sectors_of c.args.disk.now) c.sector_of.ensures in
    told_some directory_in bytes c.get-bytes.result c.args.most c.read_u64.result c.decode.result c.is_some.result b c.decode.ensures.value c.is_some.ensures c.read_u64.ensures c.if-is_some.true

pub returns-else-is_some : goal.returns-else-is_some
unfolding part_fits
returns-else-is_some c =
    let bytes = sectors_of c.args.disk.now (sector_of (region.Small c.args.block c.args.part)) in
    let b : c.get-bytes.result ≡ bytes = c.get-bytes.ensures ∙ ap (sectors_of c.args.disk.now) c.sector_of.ensures in
    told_none directory_in bytes c.get-bytes.result c.args.most c.decode.result c.is_some.result b c.decode.ensures.value c.is_some.ensures c.if-is_some.false
