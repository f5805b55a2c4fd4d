use Rattle.std.proofs.Common.{arith}
use Rattle.image_file.proofs.DiskLaws.{same_disk}
use Rattle.image_file.proofs.laws.images_tell_disks_apart.Goals as goal

pub returns : goal.returns
returns c =
    let a = c.len-firsts.ensures in
    let b = c.len-seconds.ensures in
    same_disk c.args.first.now c.args.second.now
    (record { ascending = a.ascending; numbers = a.numbers; blocks = a.blocks; count = omega arith })
    (record { ascending = b.ascending; numbers = b.numbers; blocks = b.blocks; count = omega arith })
