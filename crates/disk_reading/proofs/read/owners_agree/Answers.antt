-- What is listed lies below.
use Rattle.sector_bytes.specs.Sectors.{sectors_of}
use Rattle.standing_laws.proofs.SoundStanding.{disk_range}
use Rattle.disk_reading.specs.Seen.{store_in}
use Rattle.disk_reading.proofs.Assembled.{blocks_below, larges_below}
use Rattle.disk_reading.proofs.read.owners_agree.Goals as goal

pub blocks_agree-requires-clause-below : goal.blocks_agree-requires-clause-below
unfolding store_in
blocks_agree-requires-clause-below c = blocks_below c.args.segments (store_in c.args.segments c.args.disk.now) (disk_range c.args.segments (sectors_of c.args.disk.now)) c.requires.uses

pub larges_agree-requires-clause-below : goal.larges_agree-requires-clause-below
unfolding store_in
larges_agree-requires-clause-below c = larges_below c.args.segments (store_in c.args.segments c.args.disk.now) (disk_range c.args.segments (sectors_of c.args.disk.now)) c.requires.marked
