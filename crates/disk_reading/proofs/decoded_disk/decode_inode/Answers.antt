-- The sector that is decoded is that of the inode.
use Rattle.std.proofs.Common.{◌∙◌, ap}
use Rattle.disk_definitions.specs.Inodes.{inode_in}
use Rattle.sector_bytes.specs.Sectors.{sectors_of}
use Rattle.disk_reading.specs.Kept.{inode_of}
use Rattle.disk_reading.proofs.decoded_disk.decode_inode.Goals as goal

pub returns : goal.returns
unfolding inode_of
returns c = c.decode.ensures ∙ ap inode_in (c.get.ensures ∙ ap (sectors_of c.args.disk.now) c.sector_of.ensures)
