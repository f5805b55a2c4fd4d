-- Past the segments there is none.
use Rattle.std.proofs.Common.{◌≤◌, ◌*◌, rules}
use Rattle.sector_bytes.specs.Sectors.{sectors_of}
use Rattle.disk_reading.specs.Seen.{store_in}
use Rattle.disk_reading.proofs.Decoded.{past_inodes}
use Rattle.disk_reading.proofs.lines.inode_of.Goals as goal

pub returns-then-birth-end-clause-is : goal.returns-then-birth-end-clause-is
unfolding store_in
returns-then-birth-end-clause-is c =
    let l : 64 * c.args.segments ≤ c.args.birth = search rules in
    (past_inodes c.args.segments (sectors_of c.args.disk.now) c.args.birth l).0
