-- At the end all have been tested.
use Rattle.std.proofs.Common.{◌≡◌, ◌+◌, ◌*◌, ◌∙◌, ap, rules}
use Rattle.sector_bytes.specs.Sectors.{sectors_of}
use Rattle.standing_laws.specs.Below.{all_below}
use Rattle.disk_reading.specs.Fits.{inode_fits}
use Rattle.report_rules.proofs.segments.inodes_fit.Goals as goal

pub returns : goal.returns
returns c =
    let e : c.loop-j.j ≡ 64 = search rules in
    c.loop-j.invariant ∙ ap (λ n. all_below n (λ j. inode_fits c.args.most (sectors_of c.args.disk.now) (64 * c.args.k + j))) e
