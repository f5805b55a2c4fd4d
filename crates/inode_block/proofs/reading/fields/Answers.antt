-- Each field is what stands at its place.
use Rattle.std.proofs.Common.{refl}
use Rattle.disk_definitions.specs.Inodes.{inode_fields}
use Rattle.disk_definitions.proofs.InodeLaws.{same_fields}
use Rattle.disk_definitions.proofs.WrittenFields.{read_at}
use Rattle.inode_block.proofs.reading.fields.Goals as goal

pub returns : goal.returns
returns c =
    let from = c.args.from.now in
    same_fields _ (inode_fields from) c.read_u64.ensures refl
    (read_at 2 10 502 c.read_u16.result from c.told-from c.read_u16.ensures)
    (read_at 2 12 500 c.read_u16-2.result from c.told-from c.read_u16-2.ensures)
    (read_at 8 16 496 c.read_u64-2.result from c.told-from c.read_u64-2.ensures)
    (read_at 8 24 488 c.read_u64-3.result from c.told-from c.read_u64-3.ensures)
    c.read_small.ensures
    (read_at 4 96 416 c.read_u32.result from c.told-from c.read_u32.ensures)
    (read_at 8 100 412 c.read_u64-4.result from c.told-from c.read_u64-4.ensures)
    c.read_target.ensures
