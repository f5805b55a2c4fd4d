-- What is kept, or else decoded.
use Rattle.std.proofs.Common.{None, ap, ◌∙◌, arith}
use Rattle.std.specs.Prelude.{slice_index_or}
use Rattle.disk_reading.specs.Kept.{inode_of}
use Rattle.disk_reading.proofs.decoded_disk.DecodedDisk.inode.Goals as goal

pub returns-then-i-len : goal.returns-then-i-len
returns-then-i-len c =
    c.kept_inode.ensures ∙ ap (λ xs. slice_index_or xs c.args.i None) c.deref.ensures.value ∙ c.self.invariant.1 c.args.i (omega arith) ∙ ap (λ es. inode_of es c.args.i) c.self.view_is

pub returns-else-i-len : goal.returns-else-i-len
returns-else-i-len c = c.decode_inode.ensures ∙ ap (λ es. inode_of es c.args.i) c.self.view_is
