-- The fields are those of the inode.
use Rattle.std.proofs.Common.{◌≡◌, length, arith}
use Rattle.edit_writing.proofs.Inodes.{same_inode}
use Rattle.edit_writing.proofs.fields.used_inode.Goals as goal

pub returns : goal.returns
returns c =
    let n : length c.args.inode.now.small ≡ 16 = omega arith in
    same_inode c.args.version c.args.inode.now c.target_of.result n c.target_of.ensures
