-- Words with the same bits are the same.
use Rattle.std.proofs.Common.{arith, ◌<◌, ◌^◌}
use Rattle.disk_definitions.specs.Taken.{with_inode}
use Rattle.bitmap_alloc.proofs.Exact.{same_bitmap, same_inodes}
use Rattle.bitmap_alloc.proofs.mark.mark_inode.Goals as goal

pub returns : goal.returns
returns c =
    let old : c.args.bitmap.inodes < 2 ^ 64 = omega arith in
    let new : c.with_inode.result.inodes < 2 ^ 64 = omega arith in
    same_bitmap c.with_inode.result (with_inode c.args.bitmap c.args.j c.args.used) c.with_inode.ensures.others.0
    (same_inodes c.args.bitmap c.with_inode.result c.args.j c.args.used old new c.requires c.with_inode.ensures.inodes) c.with_inode.ensures.others.1 c.with_inode.ensures.others.2
